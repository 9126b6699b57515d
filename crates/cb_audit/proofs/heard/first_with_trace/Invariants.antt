use Rattle.cb_hall.specs.Connections.{Slots}
use Rattle.cb_audit.specs.Comparing.{AreFew, Seen}
use Rattle.cb_audit.specs.Heard.{ArePlaced}
use Rattle.cb_audit.proofs.Accounts.{AgreeUpTo}
use Rattle.cb_audit.proofs.heard.first_with_trace.Given as goal

abbrev pub invariant-loop-at : goal.invariant-loop-at
invariant-loop-at l = (kept : Slots) (seen : Seen) → AreFew kept l.audited seen → ArePlaced kept l.audited seen l.places → AgreeUpTo kept l.audited seen l.at
