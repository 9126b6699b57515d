-- The compact block of an honest sender (BIP 152), candidates (pairs) that fit it, and what is
-- rebuilt from them.
use Rattle.std.specs.Prelude.{◌≡◌, ◌≢◌, ◌↔◌, ℕ, ◌≤◌, List, [], length, map, slice_get, All, Contains, Some}
use Rattle.cb_base.specs.DoubleHash.{double_hash}
use Rattle.cb_block.specs.TxText.{IsTx, tx_text}
use Rattle.cb_block.specs.declared.tx.Tx.{Tx}
use Rattle.cb_block.specs.Blocks.{IsSoundBlock, texts}
use Rattle.cb_block.specs.Soundness.{AreApart}
use Rattle.cb_block.specs.declared.block.Block.{Block}
use Rattle.cb_block.specs.declared.header.Header.{Header}
use Rattle.cb_compact.specs.Differences.{Rise}
use Rattle.cb_compact.specs.Forms.{IsCompact}
use Rattle.cb_compact.specs.Placing.{IsFilled}
use Rattle.cb_compact.specs.ShortIds.{key_of, short_id_of}
use Rattle.cb_compact.specs.Slots.{AreDifferent, Unfilled, filled, missing, with_id}
use Rattle.cb_compact.specs.declared.form.Compact.{Compact}
use Rattle.cb_compact.specs.declared.named_tx.Pair.{Pair}
use Rattle.cb_compact.specs.declared.partial.Filled.{Filled}
use Rattle.cb_compact.specs.declared.partial.Filled.TheVariants.{Sound}
use Rattle.cb_compact.specs.declared.partial.Placed.{Placed}
use Rattle.cb_compact.specs.declared.partial.Placed.TheVariants.{Missing, Repeat, Whole}

-- the short id of a transaction under a header and a nonce
abbrev pub id_of : Header → ℕ → Tx → ℕ
id_of header nonce tx = short_id_of (key_of header nonce) (double_hash (tx_text tx))

-- the block has this transaction at this place, and it is not prefilled
abbrev pub IsById : Block → List ℕ → ℕ → Tx → Type 0
IsById block places place tx = (slice_get block.txs place ≡ Some tx) × ¬ Contains places place

-- The compact form of a sound block, with rising places of prefilled transactions, in which no two
-- short ids are equal.
pub record IsHonest (block : Block) (nonce : ℕ) (places : List ℕ) (form : Compact) : Type 0 where
  pub sound : IsSoundBlock block
  pub rise : Rise 0 (length block.txs) places
  pub compact : IsCompact block nonce places form
  pub different : AreDifferent form.ids.items

-- Each pair that has the id of a place that isn't prefilled has the block's transaction of that
-- place. No such id occurs in two pairs.
pub record AreOwn (block : Block) (nonce : ℕ) (places : List ℕ) (pairs : List Pair) : Type 0 where
  pub hold : (place : ℕ) (tx : Tx) → IsById block places place tx
      → All (λ pair. pair.id ≡ id_of block.header nonce tx → pair.tx ≡ tx) pairs
  pub once : (place : ℕ) (tx : Tx) → IsById block places place tx
      → length (with_id (id_of block.header nonce tx) pairs) ≤ 1

-- The lacking places, in order: those that aren't prefilled and whose ids no pair has.
pub record AreUnserved (block : Block) (nonce : ℕ) (places : List ℕ) (pairs : List Pair)
    (lacking : List ℕ) : Type 0 where
  pub rise : Rise 0 (length block.txs) lacking
  pub exact : (place : ℕ) → Contains lacking place
      ↔ ((tx : Tx) × IsById block places place tx
      × All (λ pair. pair.id ≢ id_of block.header nonce tx) pairs)

-- The block's transactions at the lacking places are as many as the partial block is missing, and
-- filling them in returns the block.
abbrev pub IsCompleted : Block → List ℕ → Unfilled → Type 0
IsCompleted block lacking partial =
    (txs : List Tx) → map (slice_get block.txs) lacking ≡ map Some txs
    → (length txs ≡ length (missing 0 partial.slots))
    × ((told : Filled) → IsFilled partial.header (filled partial.slots txs) told
    → told ≡ Sound block)

-- If no place is lacking, the block is returned. Otherwise the lacking places are returned, and
-- filling them in completes the block. So no id is repeated, and nothing is wrong.
abbrev pub IsRebuilt : Block → ℕ → List ℕ → List Pair → Placed → Type 0
IsRebuilt block nonce places pairs Repeat = ⊥
IsRebuilt block nonce places pairs (Whole whole) =
    AreUnserved block nonce places pairs [] × (whole ≡ Sound block)
IsRebuilt block nonce places pairs (Missing lacking partial) =
    AreUnserved block nonce places pairs lacking.items × IsCompleted block lacking.items partial

-- the block's own transactions as pairs, each with its short id
abbrev pub own_pairs : Block → ℕ → List Pair
own_pairs block nonce = map (λ tx. record { id = id_of block.header nonce tx; tx = tx }) block.txs

-- The short id of a place that isn't prefilled is that of no other place of the block, prefilled or
-- not. Prefilled places may have equal ids.
abbrev pub HaveOwnIds : Block → ℕ → List ℕ → Type 0
HaveOwnIds block nonce places =
    (place other : ℕ) (tx it : Tx) → IsById block places place tx
    → slice_get block.txs other ≡ Some it
    → id_of block.header nonce it ≡ id_of block.header nonce tx → other ≡ place

-- a block that is returned as sound: at once, or after filling in any transactions
abbrev pub IsTold : Placed → Block → Type 0
IsTold Repeat told = ⊥
IsTold (Whole whole) told = whole ≡ Sound told
IsTold (Missing lacking partial) told =
    (txs : List Tx) × IsFilled partial.header (filled partial.slots txs) (Sound told)

-- The two blocks have the same transactions, byte for byte, if no hashes collide (AreApart). Then
-- they are equal, if all numbers of their transactions fit their fields.
abbrev pub AreOneIfApart : Block → Block → Type 0
AreOneIfApart block told =
    AreApart (texts block.txs) (texts told.txs)
    → (texts told.txs ≡ texts block.txs) × (All IsTx block.txs → All IsTx told.txs → told ≡ block)
