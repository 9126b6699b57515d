-- What a node that stalls or lies sends about a block.
use Rattle.std.specs.Prelude.{◌≡◌, ◌⊎◌, ℕ, ◌-◌, ◌<◌, Bool, true, false, if◌then◌else◌, List, [], ◌∷◌, ◌++◌, length, map, take, drop, replicate, Option, None, Some, bit_and, bit_xor}
use Rattle.std.specs.List.{list_any}
use Rattle.cb_base.specs.DoubleHash.{double_hash}
use Rattle.cb_base.specs.declared.hash.Hash256.{Hash256}
use Rattle.cb_block.specs.declared.tx.Tx.{Tx}
use Rattle.cb_block.specs.Blocks.{texts}
use Rattle.cb_block.specs.Soundness.{names}
use Rattle.cb_block.specs.BlockText.{header_text}
use Rattle.cb_block.specs.Work.{HasWork}
use Rattle.cb_block.specs.declared.block.Block.{Block}
use Rattle.cb_block.specs.declared.header.Header.{Header}
use Rattle.cb_wire.specs.ShortForms.{IsShortForm, ShortForm}
use Rattle.cb_wire.specs.declared.inventory.Inventory.{Inventory}
use Rattle.cb_wire.specs.declared.inventory.Inventory.TheVariants as inventory
use Rattle.cb_compact.specs.ShortIds.{key_of, short_id_of}
use Rattle.cb_wire.specs.declared.message.Message.{Message}
use Rattle.cb_wire.specs.declared.message.Message.TheVariants as messages
use Rattle.cb_net_node.specs.declared.lies.Misdeed.{Misdeed}
use Rattle.cb_net_node.specs.declared.lies.Misdeed.TheVariants as misdeeds

abbrev pub hash_of : Block → Hash256
hash_of block = double_hash (header_text block.header)

abbrev pub txids_of : Block → List Hash256
txids_of block = names (texts block.txs)

-- ---- headers

-- a `headers` of one header
abbrev pub told : Header → Message
told header = messages.Headers (header ∷ [])

-- there is proof of work, or there is none
abbrev pub Works : Bool → Header → Type 0
Works true header = HasWork header
Works false header = ¬ HasWork header

-- The header under one of 256 nonces: one under which it has work, or has none, as is wanted, if
-- there is such a nonce.
pub record IsTried (work : Bool) (header made : Header) : Type 0 where
  pub others : made ≡ record header { nonce = made.nonce }
  pub works : Works work made
      ⊎ ((nonce : ℕ) → nonce < 256 → ¬ Works work (record header { nonce = nonce }))

-- a header that follows the block
abbrev pub following : Block → Header
following block = record block.header { prev = hash_of block }

-- a header beside the block, with another root
abbrev pub beside : Block → Header
beside block = record block.header { root = hash_of block }

-- ---- blocks

-- a `block` with the header of a block and these transactions
abbrev pub with_txs : Block → List Tx → Message
with_txs block txs = messages.Block (record { header = block.header; txs = txs })

-- the greatest power of two that divides a number: its lowest bit that is set
abbrev pub lowest_bit : ℕ → ℕ
lowest_bit number = bit_xor number (bit_and number (number - 1))

-- the last transactions twice (CVE-2012-2459)
abbrev pub mutated : List Tx → List Tx
mutated txs = txs ++ drop (length txs - lowest_bit (length txs)) txs

-- ---- compact blocks

-- a `cmpctblock` with the nonce 0, if these lists make one
abbrev pub IsCompact : Header → ShortForm → Message → Type 0
IsCompact header form message = IsShortForm form →
    message ≡ messages.CmpctBlock (record { header = header; nonce = 0; txs = form })

-- the short ids of all transactions under another nonce
abbrev pub unfindable : Block → ShortForm
unfindable block =
    record { ids = map (short_id_of (key_of block.header 1)) (txids_of block); prefilled = [] }

-- the first one's short id for each of them
abbrev pub same_ids : Header → List Hash256 → List ℕ
same_ids header [] = []
same_ids header (first ∷ txids) =
    replicate (length (first ∷ txids)) (short_id_of (key_of header 0) first)

-- the first transaction alone, at the place 60,000
abbrev pub far_form : List Tx → ShortForm
far_form [] = record { ids = []; prefilled = [] }
far_form (first ∷ txs) =
    record { ids = []; prefilled = record { difference = 60000; tx = first } ∷ [] }

-- ---- what is sent

-- what is sent as soon as the block is there
abbrev pub Opens : Misdeed → Block → Message → Type 0
Opens misdeeds.Silence block message = message ≡ told block.header
Opens misdeeds.MutatedBlock block message = message ≡ with_txs block (mutated block.txs)
Opens misdeeds.CutBlock block message =
    message ≡ with_txs block (take (length block.txs - 1) block.txs)
Opens misdeeds.OtherTxs block message = IsCompact block.header (unfindable block) message
Opens misdeeds.FewTxs block message = IsCompact block.header (unfindable block) message
Opens misdeeds.NoWork block message =
    (made : Header) × IsTried false (following block) made × (message ≡ told made)
Opens misdeeds.NoBlock block message =
    (made : Header) × IsTried true (beside block) made × (message ≡ told made)
Opens misdeeds.FarPlace block message =
    message ≡ messages.GetBlockTxn
    (record { block = block.header.prev; differences = 60000 ∷ [] })
Opens misdeeds.FarTx block message = IsCompact block.header (far_form block.txs) message
Opens misdeeds.SameIds block message =
    IsCompact block.header
    (record { ids = same_ids block.header (txids_of block); prefilled = [] }) message

-- so many times the first transaction
abbrev pub first_txs : ℕ → List Tx → List Tx
first_txs count [] = []
first_txs count (first ∷ txs) = replicate count first

-- a `blocktxn` of the block with so many transactions, each of them the block's first
abbrev pub other_txs : Block → ℕ → Message
other_txs block count =
    messages.BlockTxn (record { block = hash_of block; txs = first_txs count block.txs })

-- an entry names a block
abbrev pub is_block : Inventory → Bool
is_block (inventory.Block hash) = true
is_block (inventory.CompactBlock hash) = true
is_block other = false

-- the mutated block, to whoever asks for a block
abbrev pub to_data : Block → Message → Option Message
to_data block (messages.GetData entries) =
    if list_any is_block entries then Some (with_txs block (mutated block.txs)) else None
to_data block other = None

-- what is answered
abbrev pub answered : Misdeed → Block → Message → Option Message
answered misdeeds.Silence block asked = None
answered misdeeds.NoBlock block asked = None
answered misdeeds.OtherTxs block (messages.GetBlockTxn request) =
    Some (other_txs block (length request.differences))
answered misdeeds.FewTxs block (messages.GetBlockTxn request) =
    Some (other_txs block (length request.differences - 1))
answered misdeed block asked = to_data block asked
