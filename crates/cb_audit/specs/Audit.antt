-- Whether a hall's journal and the traces of its connections tell one history. The hall is the
-- state that all peers share; the journal is the log of its calls.
use Rattle.std.specs.Prelude.{List, Result, Ok, Err}
use Rattle.cb_state.specs.declared.connection.Connection.{Connection}
use Rattle.cb_hall.specs.declared.answer.Answer.{Answer}
use Rattle.cb_hall.specs.Journal.{JournalState}
use Rattle.cb_hall.specs.Replica.{Leads}
use Rattle.cb_audit.specs.declared.auditing.Split.{Split}
use Rattle.cb_audit.specs.declared.covering.Compared.{Compared}
use Rattle.cb_audit.specs.declared.auditing.Split.TheVariants.{Memory, Count, Differs}
use Rattle.cb_audit.specs.Comparing.{Agrees, Seen, SplitsFirst}
use Rattle.cb_audit.specs.Counting.{AreEven, IsFirstUneven}
use Rattle.cb_audit.specs.Covering.{Covers}
use Rattle.cb_audit.specs.Order.{AuditedTrace}
use Rattle.cb_audit.specs.Turns.{turns_of}

-- The hall's answers to the questions of the journal, and what holds of each connection's questions
-- with these answers.
abbrev pub Answered : JournalState → (Seen → Type 0) → Type 0
Answered hall Holds =
    (answers : List Answer) × Leads hall.base hall.entries answers hall.latest
    × Holds (λ connection. turns_of connection hall.entries answers)

-- What an audit tells. The numbers of all connections come first, then questions and answers. A yes
-- tells how many answers were compared.
abbrev pub Audits : JournalState → List AuditedTrace → Result Compared Split → Type 0
Audits hall audited (Ok compared) =
    AreEven hall.latest.connections audited
    × Answered hall
    (λ seen. ((connection : Connection) → Agrees hall.base.connections audited seen connection)
    × Covers hall.base.connections audited seen compared)
Audits hall audited (Err Memory) = AreEven hall.latest.connections audited
Audits hall audited (Err (Count connection)) =
    IsFirstUneven hall.latest.connections audited connection
Audits hall audited (Err (Differs connection place)) =
    AreEven hall.latest.connections audited
    × Answered hall (λ seen. SplitsFirst hall.base.connections audited seen connection place)
