-- What a node asks for when it comes to a block.
use Rattle.std.specs.Prelude.{◌≡◌, Any}
use Rattle.cb_base.specs.declared.hash.Hash256.{Hash256}
use Rattle.cb_wire.specs.declared.inventory.Inventory.TheVariants as inventory
use Rattle.cb_wire.specs.declared.message.Message.{Message}
use Rattle.cb_wire.specs.declared.message.Message.TheVariants.{GetBlockTxn, GetData}

-- the message asks for transactions of a block (BIP 152, `getblocktxn`)
abbrev pub AsksForTxs : Hash256 → Message → Type 0
AsksForTxs block (GetBlockTxn request) = request.block ≡ block
AsksForTxs block _ = ⊥

-- the message asks for the whole block (`getdata`)
abbrev pub AsksForBlock : Hash256 → Message → Type 0
AsksForBlock block (GetData entries) = Any (λ entry. entry ≡ inventory.Block block) entries
AsksForBlock block _ = ⊥
