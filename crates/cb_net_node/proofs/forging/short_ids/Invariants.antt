use Rattle.std.proofs.Common.{◌≡◌, map, take}
use Rattle.cb_compact.specs.ShortIds.{short_id_of}
use Rattle.cb_net_node.proofs.forging.short_ids.Given as goal

abbrev pub invariant-loop-txid : goal.invariant-loop-txid
invariant-loop-txid l = l.ids.items ≡ map (short_id_of l.key) (take l.txid-index l.txids)
