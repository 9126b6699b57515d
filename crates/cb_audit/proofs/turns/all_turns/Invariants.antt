use Rattle.std.proofs.Common.{◌≡◌, take}
use Rattle.std.specs.Prelude.{map}
use Rattle.cb_audit.specs.Turns.{turns_in}
use Rattle.cb_audit.proofs.turns.all_turns.Given as goal

abbrev pub invariant-loop-one : goal.invariant-loop-one
invariant-loop-one l = l.all.items ≡ map (λ one. turns_in one.trace) (take l.one-index l.audited)
