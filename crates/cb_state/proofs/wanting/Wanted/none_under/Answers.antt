use Rattle.cb_wire.specs.declared.inventory.Inventory.TheVariants.{Tx, Block}
use Rattle.cb_state.proofs.OnceEach.{none_noted}
use Rattle.cb_state.proofs.wanting.Wanted.none_under.Goals as goal

pub returns-clause-noted : goal.returns-clause-noted
returns-clause-noted c = record {
  txs = λ txid. none_noted c.with_hasher.result.keys c.new.result.items txid (Tx txid) c.with_hasher.ensures.empty c.new.ensures.items;
  blocks = λ hash. none_noted c.with_hasher-2.result.keys c.new.result.items hash (Block hash) c.with_hasher-2.ensures.empty c.new.ensures.items;
}
