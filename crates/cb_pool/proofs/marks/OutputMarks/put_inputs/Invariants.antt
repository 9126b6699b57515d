use Rattle.std.proofs.Common.{take}
use Rattle.cb_pool.specs.Staying.{AreMarked}
use Rattle.cb_pool.proofs.marks.OutputMarks.put_inputs.Given as goal

abbrev pub invariant-loop-input : goal.invariant-loop-input
invariant-loop-input l = AreMarked (take l.input-index l.inputs) l.mark l.fn.self l.self
