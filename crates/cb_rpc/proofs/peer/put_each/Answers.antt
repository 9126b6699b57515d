use Rattle.std.proofs.Common.{arith, sym, ◌∙◌}
use Rattle.cb_rpc_call.proofs.Lists.{one_more_item}
use Rattle.cb_rpc.specs.Peers.{peer_tokens}
use Rattle.cb_rpc.proofs.peer.put_each.Goals as goal

pub loop-peer-preserved : goal.loop-peer-preserved
loop-peer-preserved c =
    (one_more_item peer_tokens c.args.peers.now c.loop-peer.peer-index c.peer-item.result _ _ _ (omega (arith, c.loop-peer-test.true)) (sym c.peer-item.is) c.loop-peer.invariant.0 c.in_ok-put_peer.ensures.tokens, c.put_peer.ensures.before ∙ c.loop-peer.invariant.1)
