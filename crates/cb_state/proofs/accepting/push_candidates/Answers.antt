use Rattle.std.proofs.Common.{◌∙◌, arith}
use Rattle.cb_state.proofs.PutOff.{push_one}
use Rattle.cb_state.proofs.accepting.push_candidates.Goals as goal

pub loop-place-preserved : goal.loop-place-preserved
loop-place-preserved c =
    c.in_ok-push.ensures.items ∙ push_one c.args.first.now.items c.loop-place.first.items c.in-Some.block.now.txs c.loop-place.place c.in_ok-of_block.field-0 c.loop-place.invariant c.in_ok-of_block.ensures.same (omega arith)
