use Rattle.std.proofs.Common.{arith, sym}
use Rattle.cb_control.proofs.LineLemmas.{one_more_line}
use Rattle.cb_control.specs.ReplyText.{peer_text}
use Rattle.cb_control.proofs.operator_text.print_peers.Goals as goal

-- src/operator_text.rt:157:5
pub loop-peer-preserved : goal.loop-peer-preserved
loop-peer-preserved c =
    one_more_line peer_text c.args.peers.now c.loop-peer.peer-index c.peer-item.result _ _ _ (omega (arith, c.loop-peer-test.true)) (sym c.peer-item.is) c.loop-peer.invariant c.in_ok-print_peer.ensures.text
