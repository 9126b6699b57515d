use Rattle.std.proofs.Common.{◌++◌, arith, ap, sym, ◌∙◌}
use Rattle.cb_rpc_call.proofs.Lists.{one_more_item}
use Rattle.cb_rpc.specs.Blocks.{member_tokens}
use Rattle.cb_rpc.proofs.Members.{txid_at}
use Rattle.cb_rpc.proofs.block.put_txs.Goals as goal

pub loop-place-preserved : goal.loop-place-preserved
loop-place-preserved c = (
  one_more_item member_tokens c.args.txs.now c.loop-place.place c.index-txs-place.result _ _ _ (omega (arith, c.loop-place-test.true)) (sym c.index-txs-place.is) c.loop-place.invariant.0
      (c.in_ok-put_member.ensures.tokens ∙ ap (λ tx. c.loop-place.writer.tokens ++ member_tokens tx) c.deref.ensures),
  c.put_member.ensures.before ∙ c.loop-place.invariant.1,
)

pub put_member-requires : goal.put_member-requires
put_member-requires c =
    txid_at c.args.txids.now c.args.txs.now c.loop-place.place c.index-txs-place.result c.deref.result.now _ c.requires (omega (arith, c.loop-place-test.true)) (sym c.index-txs-place.is) c.deref.ensures
