use Rattle.std.proofs.Common.{take}
use Rattle.std.specs.List.{Contains}
use Rattle.cb_process.specs.Dialling.{addresses_of}
use Rattle.cb_process.proofs.dialling.is_target.Given as goal

-- none so far
abbrev pub invariant-loop-target : goal.invariant-loop-target
invariant-loop-target l = Contains (addresses_of (take l.target-index l.targets)) l.address → ⊥
