-- How many answers an audit compared, and how many it couldn't compare any more.
use Rattle.std.specs.Prelude.{◌≡◌, ℕ, ◌+◌, List, length, drop, Some}
use Rattle.std.specs.List.{sum_by}
use Rattle.cb_hall.specs.Connections.{Slots}
use Rattle.cb_audit.specs.declared.covering.Compared.{Compared}
use Rattle.cb_audit.specs.Comparing.{Seen, first_place, journal_turns}
use Rattle.cb_audit.specs.Heard.{start_of}
use Rattle.cb_audit.specs.Order.{AuditedTrace}
use Rattle.cb_audit.specs.Turns.{turns_in}

-- How many answers of a connection the journal or its trace has dropped: those before the first
-- place that both have.
abbrev pub dropped_of : Slots → AuditedTrace → ℕ
dropped_of kept one = first_place kept one.connection (Some one.trace)

-- How many of the answers that its trace still has stand from that place on.
abbrev pub left_in : Slots → AuditedTrace → ℕ
left_in kept one = length (drop (start_of kept one) (turns_in one.trace))

-- The answers of the journal that were compared, of all connections. What was dropped before, by
-- the journal or by a trace, is the rest of all answers that the traces count.
pub record Covers (kept : Slots) (audited : List AuditedTrace) (seen : Seen) (compared : Compared)
    : Type 0 where
  pub answers : compared.answers
      ≡ sum_by (λ one. length (journal_turns kept audited seen one.connection)) audited
  pub dropped : compared.dropped ≡ sum_by (dropped_of kept) audited
  pub all : compared.answers + compared.dropped ≡ sum_by (λ one. one.trace.total.told) audited
