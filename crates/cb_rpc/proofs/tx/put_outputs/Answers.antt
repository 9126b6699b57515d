use Rattle.std.proofs.Common.{arith, sym, ◌∙◌}
use Rattle.cb_rpc.proofs.Members.{one_more_output}
use Rattle.cb_rpc.proofs.tx.put_outputs.Goals as goal

pub loop-place-preserved : goal.loop-place-preserved
loop-place-preserved c =
    (one_more_output c.args.outputs.now c.loop-place.place c.index-outputs-place.result _ _ _ (omega (arith, c.loop-place-test.true)) (sym c.index-outputs-place.is) c.loop-place.invariant.0 c.in_ok-put_output.ensures.tokens, c.put_output.ensures.before ∙ c.loop-place.invariant.1)
