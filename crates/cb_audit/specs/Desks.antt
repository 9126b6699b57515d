-- The traces of the works of a crew's desks: the logs of the events that the connections' sessions
-- were given.
use Rattle.std.specs.Prelude.{ℕ, ◌==◌, if◌then◌else◌, List, ◌∷◌, [], ◌++◌, map, Option, None, Some}
use Rattle.std.specs.List.{flat_map, sum_by}
use Rattle.cb_state.specs.declared.connection.Connection.{Connection}
use Rattle.cb_state.specs.Announcers.{same_connection}
use Rattle.cb_crew.specs.Desk.{DeskState}
use Rattle.cb_crew.specs.Headline.{works_of}
use Rattle.cb_work.specs.PeerWork.{WorkState}
use Rattle.cb_hall.specs.Connections.{Slots}
use Rattle.cb_audit.specs.Counting.{granted}
use Rattle.cb_audit.specs.Order.{AuditedTrace}

-- The trace of a connection's work.
abbrev pub trace_of_work : {S H F : Type 0} → WorkState S H F → AuditedTrace
trace_of_work work = record { connection = work.badge.connection; trace = work.trace }

-- The traces of a desk's works: of the past connections in order, and then of the latest one.
abbrev pub traces_of_desk : {S H F M : Type 0} → DeskState (WorkState S H F) M → List AuditedTrace
traces_of_desk desk = map trace_of_work (desk.past ++ desk.work ∷ [])

-- The traces of all desks, one desk after another.
abbrev pub traces_of : {S H F M : Type 0} → List (DeskState (WorkState S H F) M) → List AuditedTrace
traces_of desks = flat_map traces_of_desk desks

-- How many answers the badges of all works of the desks count.
abbrev pub badge_count : {S H F M : Type 0} → List (DeskState (WorkState S H F) M) → ℕ
badge_count desks = sum_by (λ work. work.badge.count) (flat_map works_of desks)

-- How many answers the trace of a connection has, if it has one.
abbrev pub told_in : List AuditedTrace → Connection → Option ℕ
told_in [] connection = None
told_in (one ∷ others) connection =
    if same_connection one.connection connection
    then Some one.trace.total.told
    else told_in others connection

-- The first connection that was granted another number of questions than its trace has answers.
abbrev pub uneven_in : Slots → List AuditedTrace → Option Connection
uneven_in slots [] = None
uneven_in slots (one ∷ others) =
    if granted slots one.connection == one.trace.total.told
    then uneven_in slots others
    else Some one.connection
