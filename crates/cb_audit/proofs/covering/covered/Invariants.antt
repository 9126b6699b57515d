use Rattle.std.proofs.Common.{◌≡◌, ◌+◌, ◌*◌, ◌^◌, ◌<◌, ◌≤◌, ℕ, Some, length, take}
use Rattle.std.specs.Prelude.{slice_get}
use Rattle.std.specs.List.{sum_by}
use Rattle.cb_audit.specs.Covering.{dropped_of, left_in}
use Rattle.cb_audit.specs.Order.{AuditedTrace}
use Rattle.cb_audit.specs.Turns.{turns_in}
use Rattle.cb_audit.proofs.covering.covered.Given as goal

-- those of the connections so far; each number is one of 64 bits
abbrev pub invariant-loop-one : goal.invariant-loop-one
invariant-loop-one l = (l.compared.answers ≡ sum_by (left_in l.kept) (take l.one-index l.audited)) × (l.compared.dropped ≡ sum_by (dropped_of l.kept) (take l.one-index l.audited))
    × (l.compared.answers ≤ 2 ^ 64 * l.one-index) × (l.compared.dropped ≤ 2 ^ 64 * l.one-index)
    × ((i : ℕ) (one : AuditedTrace) → i < l.one-index → slice_get l.audited i ≡ Some one → one.trace.before.told + length (turns_in one.trace) ≡ one.trace.total.told)
