use Rattle.std.proofs.Common.{◌≡◌, ◌<◌, ◌^◌, take, map, All}
use Rattle.cb_compact.specs.ShortIds.{short_id_of}
use Rattle.cb_compact.proofs.shortening.ids_behind.Given as goal

abbrev pub invariant-loop-txid : goal.invariant-loop-txid
invariant-loop-txid l = (l.ids.items ≡ map (short_id_of l.key) (take l.txid-index l.others)) × All (λ id. id < 2 ^ 48) l.ids.items
