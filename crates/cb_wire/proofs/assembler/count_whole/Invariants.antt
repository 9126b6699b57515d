use Rattle.std.proofs.Common.{◌≡◌, length}
use Rattle.cb_wire.specs.declared.envelope.Front.TheVariants.{Partial}
use Rattle.cb_wire.specs.Envelope.{front_at}
use Rattle.cb_wire.proofs.assembler.count_whole.Given as goal

-- where no envelope is whole, nothing was counted
abbrev pub invariant-loop-size : goal.invariant-loop-size
invariant-loop-size l = front_at l.bytes ≡ Partial → (l.rest ≡ l.bytes) × (l.count ≡ 0)

abbrev pub decreases-loop-size : goal.decreases-loop-size
decreases-loop-size l = length l.rest
