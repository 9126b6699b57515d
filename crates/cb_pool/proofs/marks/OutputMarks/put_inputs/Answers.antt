use Rattle.cb_pool.proofs.Marking.{marked_more}
use Rattle.cb_pool.proofs.marks.OutputMarks.put_inputs.Goals as goal

pub loop-input-preserved : goal.loop-input-preserved
loop-input-preserved c =
    marked_more c.args.inputs.now c.loop-input.input-index c.input-item.result c.args.mark c.args.self.now c.loop-input.self c.put.new.self c.loop-input-test.true c.input-item.is c.in_ok-put.ensures.put c.loop-input.invariant
