use Rattle.std.proofs.Common.{arith, sym, ◌∙◌}
use Rattle.cb_rpc_call.proofs.Lists.{one_more_item}
use Rattle.cb_rpc_call.proofs.list.put_items.Goals as goal

pub loop-item-preserved : goal.loop-item-preserved
loop-item-preserved g c =
    (one_more_item g.T.ListItem.item_tokens c.args.items.now c.loop-item.item-index c.item-item.result _ _ _ (omega (arith, c.loop-item-test.true)) (sym c.item-item.is) c.loop-item.invariant.0 c.in_ok-put.ensures.tokens, c.put.ensures.before ∙ c.loop-item.invariant.1)
