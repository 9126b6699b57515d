use Rattle.std.proofs.Common.{take}
use Rattle.cb_process.specs.Places.{IsChoice}
use Rattle.cb_process.proofs.places.who_leaves.Given as goal

-- the choice of those so far
abbrev pub invariant-loop-place : goal.invariant-loop-place
invariant-loop-place l = IsChoice (take l.place l.guests) l.now l.choice
