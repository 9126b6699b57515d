use Rattle.std.proofs.Common.{arith, sym, ◌∙◌}
use Rattle.cb_rpc_call.proofs.Lists.{one_more_item}
use Rattle.cb_rpc.specs.Transactions.{input_tokens}
use Rattle.cb_rpc.proofs.tx.put_inputs.Goals as goal

pub loop-input-preserved : goal.loop-input-preserved
loop-input-preserved c =
    (one_more_item (input_tokens c.args.coinbase) c.args.inputs.now c.loop-input.input-index c.input-item.result _ _ _ (omega (arith, c.loop-input-test.true)) (sym c.input-item.is) c.loop-input.invariant.0 c.in_ok-put_input.ensures.tokens, c.put_input.ensures.before ∙ c.loop-input.invariant.1)
