-- What holds of each chain (Bitcoin's consensus): how the active chain is linked, which UTXO set
-- its blocks leave, which block is the highest, and how a block changes it.
use Rattle.std.specs.Prelude.{◌≡◌, ◌≢◌, ◌≤◌, ◌⊎◌, ⊤, ℕ, true, List, [], ◌∷◌, ◌++◌, Contains, Err, Option, Some, Ok, drop, map, option_and_then, reverse, unwrap_or}
use Rattle.std.specs.FinMap as finite
use Rattle.cb_base.specs.declared.fault.Fault.{Fault}
use Rattle.cb_base.specs.declared.hash.Hash256.{Hash256}
use Rattle.cb_block.specs.declared.header.Header.{Header}
use Rattle.cb_block.specs.declared.block.Block.{Block}
use Rattle.cb_block.specs.Blocks.{IsRefused}
use Rattle.cb_block.specs.Genesis.{genesis_header}
use Rattle.cb_ledger.specs.Spend.{spend}
use Rattle.cb_ledger.specs.Unspent.{Unspent}
use Rattle.cb_block.specs.declared.tx.Tx.{Tx}
use Rattle.cb_chain.specs.declared.change.Change.{Change}
use Rattle.cb_chain.specs.Entries.{Entry, Tree, block_hash, entry_of, height_of, is_kept, is_marked}
use Rattle.cb_chain.specs.Best.{active, best, leads_through, unspent_after}
use Rattle.cb_chain.specs.History.{BlockCall, Call}

-- Headers from above one hash up to another: each has the hash of the one before it in `prev`, and
-- the last one has the hash `top`.
abbrev pub AreLinked : Hash256 → List Header → Hash256 → Type 0
AreLinked below [] top = below ≡ top
AreLinked below (header ∷ headers) top =
    (header.prev ≡ below) × AreLinked (block_hash header) headers top

-- headers from the genesis block's up to the one with the hash `top`
abbrev pub ReachesUp : List Header → Hash256 → Type 0
ReachesUp [] top = ⊥
ReachesUp (first ∷ others) top = (first ≡ genesis_header) × AreLinked (block_hash first) others top

-- the block that is kept under a hash
abbrev pub kept_under : Tree → Hash256 → Option Block
kept_under tree hash = option_and_then (λ entry. entry.block) (entry_of tree hash)

-- the blocks that are kept under the hashes of headers, in order
abbrev pub AreBlocksOf : Tree → List Header → List Block → Type 0
AreBlocksOf tree headers blocks =
    map (λ header. kept_under tree (block_hash header)) headers ≡ map Some blocks

-- all transactions of the blocks, in order
abbrev pub txs_of : List Block → List Tx
txs_of [] = []
txs_of (block ∷ blocks) = block.txs ++ txs_of blocks

-- The active chain's blocks above the genesis block are kept, and the UTXO set is what their
-- transactions leave, spent in order from the empty set without a fault.
abbrev pub IsLeftBy : Tree → Unspent → Type 0
IsLeftBy tree unspent =
    (blocks : List Block) × AreBlocksOf tree (drop 1 (active tree)) blocks
    × (spend finite.empty (txs_of blocks) ≡ Ok unspent)

-- the headers above the genesis block's, in the order in which they were accepted
abbrev pub accepted_headers : Tree → List Header
accepted_headers tree = map (λ entry. entry.header) (reverse tree)

-- a kept block can't be connected: it can't be spent over the UTXO set after its parent, for this
-- fault
pub record CannotConnect (tree : Tree) (hash : Hash256) (fault : Fault) : Type 0 where
  pub block : Block
  pub unspent : Unspent
  pub kept : kept_under tree hash ≡ Some block
  pub parent : unspent_after tree block.header.prev ≡ Ok unspent
  pub why : spend unspent block.txs ≡ Err fault

-- the reason for which a kept block is marked: it, or a marked block that it is on top of, can't be
-- connected
pub record IsMarkedFor (tree : Tree) (hash : Hash256) : Type 0 where
  pub first : Hash256
  pub fault : Fault
  pub through : leads_through tree first hash ≡ true
  pub marked : is_marked tree first ≡ true
  pub why : CannotConnect tree first fault

-- a call gave a block with this hash that breaks a block rule
abbrev pub BrokeRule : List Call → Hash256 → Type 0
BrokeRule calls hash =
    (block : Block) × (fault : Fault) × Contains calls (BlockCall block)
    × (block_hash block.header ≡ hash) × IsRefused block fault

-- the height of a known header
abbrev pub height_in : Tree → Hash256 → ℕ
height_in tree hash = unwrap_or (height_of tree hash) 0

-- The block isn't higher than the tip. If it has the tip's height, it is the tip, or the tip was
-- kept before it.
abbrev pub ComesAfter : Tree → Entry → Tree → Type 0
ComesAfter tree entry older =
    let hash = block_hash entry.header in
    (height_in (entry ∷ older) hash ≤ height_in tree (best tree))
    × (height_in (entry ∷ older) hash ≡ height_in tree (best tree)
    → (best tree ≡ hash) ⊎ (is_kept older (best tree) ≡ true))

-- the hashes of the active chain, from the genesis block's up to the tip's
abbrev pub active_hashes : Tree → List Hash256
active_hashes tree = map block_hash (active tree)

-- the two lists differ in their first hashes, or one is empty
abbrev pub PartAtOnce : List Hash256 → List Hash256 → Type 0
PartAtOnce [] others = ⊤
PartAtOnce (hash ∷ hashes) [] = ⊤
PartAtOnce (hash ∷ hashes) (other ∷ others) = hash ≢ other

-- A change leads from one active chain to another: they share the beginning, then comes what was
-- disconnected, reversed, in the one, and what was connected in the other.
pub record LeadsOver (old : List Hash256) (change : Change) (new : List Hash256) : Type 0 where
  pub shared : List Hash256
  pub old_is : old ≡ shared ++ reverse change.off
  pub new_is : new ≡ shared ++ change.on
  pub apart : PartAtOnce (reverse change.off) change.on

-- The active chain stays, and so does the UTXO set after it.
abbrev pub Stays : Tree → Tree → Type 0
Stays old new =
    (active new ≡ active old) × (unspent_after new (best new) ≡ unspent_after old (best old))

-- A block on top of this parent would be higher than the tip.
abbrev pub MayLead : Tree → Hash256 → Type 0
MayLead tree parent =
    (height : ℕ) × (height_of tree parent ≡ Some height) × (height_in tree (best tree) ≤ height)
