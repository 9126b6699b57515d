-- How new blocks and transactions are announced (Bitcoin's peer-to-peer protocol, `inv`; BIP 130
-- for headers; BIP 152 for compact blocks).
use Rattle.std.specs.Prelude.{ℕ, Bool, List, [], ◌∷◌, map, if◌then◌else◌}
use Rattle.cb_base.specs.declared.hash.Hash256.{Hash256}
use Rattle.cb_block.specs.declared.block.Block as blocks
use Rattle.cb_block.specs.declared.header.Header.{Header}
use Rattle.cb_wire.specs.declared.inventory.Inventory.{Inventory}
use Rattle.cb_wire.specs.declared.inventory.Inventory.TheVariants as entry
use Rattle.cb_compact.specs.Shortening.{shortened_of}
use Rattle.cb_wire.specs.declared.message.Message.{Message}
use Rattle.cb_wire.specs.declared.message.Message.TheVariants.{CmpctBlock, Inv, Headers}

-- The inventory entry of a transaction.
abbrev pub tx_entry : Hash256 → Inventory
tx_entry txid = entry.Tx txid

-- A new tip is announced by its headers if `headers` is true, else by the tip's hash. The caller
-- sets `headers` for a peer that asked for headers, if they aren't too many.
abbrev pub announced_by : Bool → Hash256 → List Header → Message
announced_by headers tip path = if headers then Headers path else Inv (entry.Block tip ∷ [])

-- The announcement of a new tip. Without new headers there is none.
abbrev pub announcing : Bool → Hash256 → List Header → List Message
announcing headers tip [] = []
announcing headers tip (first ∷ others) = announced_by headers tip (first ∷ others) ∷ []

-- A block as a compact block under this nonce: its first transaction whole, and short ids of all
-- others. So a new tip is announced to a peer that asked for it (BIP 152, high-bandwidth mode).
abbrev pub announcing_block : blocks.Block → ℕ → Message
announcing_block block nonce = CmpctBlock (shortened_of block nonce)

-- The announcement of transactions. Without transactions there is none.
abbrev pub telling : List Hash256 → List Message
telling [] = []
telling (first ∷ others) = Inv (map tx_entry (first ∷ others)) ∷ []
