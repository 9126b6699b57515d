use Rattle.std.proofs.Common.{subst, sym}
use Rattle.cb_state.specs.Parts.{IsCarried}
use Rattle.cb_peer_state.proofs.Carried.{part_carried}
use Rattle.cb_peer_state.proofs.serving.part_message.Goals as goal

pub new-requires : goal.new-requires
new-requires c = part_carried c.hash-block.result c.into_txs-txs.result c.bytes.ensures.len (subst IsCarried (sym c.into_txs-txs.ensures.same) c.into_txs-txs.ensures.few)
