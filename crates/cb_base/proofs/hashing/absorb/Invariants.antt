use Rattle.cb_base.specs.Lanes.{lane}
use Rattle.cb_base.proofs.Padded.{Absorbs}
use Rattle.cb_base.proofs.hashing.absorb.Given as goal

abbrev pub invariant-loop-i : goal.invariant-loop-i
invariant-loop-i l =
    Absorbs l.first l.i (lane 0 l.state) × Absorbs l.second l.i (lane 1 l.state) × Absorbs l.third l.i (lane 2 l.state) × Absorbs l.fourth l.i (lane 3 l.state)
