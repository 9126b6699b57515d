-- Blocks that were connected once, their undo records, and the branch beside the active chain that
-- was tried last.
use Rattle.std.specs.Prelude.{◌≡◌, ◌⊎◌, ◌<◌, ◌-◌, ℕ, suc, true, Ok, Err, is_some, List, [], ◌∷◌, length, Option, Some, option_map, option_and_then, slice_get, IfSome}
use Rattle.cb_base.specs.declared.fault.Fault.{Fault}
use Rattle.cb_base.specs.declared.hash.Hash256.{Hash256}
use Rattle.cb_ledger.specs.declared.undo.CoinChange.{CoinChange}
use Rattle.cb_block.specs.declared.block.Block.{Block}
use Rattle.cb_ledger.specs.Spend.{spend}
use Rattle.cb_ledger.specs.Undo.{LeadsBack, changed}
use Rattle.cb_ledger.specs.Unspent.{Unspent}
use Rattle.cb_chain.specs.Marking.{BlockIndex}
use Rattle.cb_chain.specs.declared.side_branch.SideBranch.{SideBranch}
use Rattle.cb_chain.specs.Best.{best, faulty, unspent_after}
use Rattle.cb_chain.specs.Entries.{Tree, entry_of, is_kept}
use Rattle.cb_chain.specs.Keeping.{Grown, active_places, place_of, tree_of}

-- the undo record at a place
abbrev pub record_at : List (Option (List CoinChange)) → ℕ → Option (List CoinChange)
record_at undos place = option_and_then (λ undo. undo) (slice_get undos place)

abbrev pub HasRecord : List (Option (List CoinChange)) → ℕ → Type 0
HasRecord undos place = (changes : List CoinChange) × (record_at undos place ≡ Some changes)

-- each place that has a record still has one
abbrev pub KeepRecords : List (Option (List CoinChange)) → List (Option (List CoinChange)) → Type 0
KeepRecords old new = (place : ℕ) → HasRecord old place → HasRecord new place

-- the parent's hash in the header of a known hash
abbrev pub prev_of : Tree → Hash256 → Option Hash256
prev_of tree hash = option_map (λ entry. entry.header.prev) (entry_of tree hash)

-- A kept block was connected once: it is the genesis block, or has an undo record.
pub record WasConnected (tree : Tree) (undos : List (Option (List CoinChange))) (hash : Hash256)
    : Type 0 where
  pub place : ℕ
  pub at : place_of tree hash ≡ Some place
  pub kept : is_kept tree hash ≡ true
  pub has : (place ≡ 0) ⊎ HasRecord undos place

-- A block's undo record leads from the UTXO set after it to the one after its parent, which was
-- connected before it.
pub record IsUndo (tree : Tree) (undos : List (Option (List CoinChange))) (hash : Hash256)
    (changes : List CoinChange) : Type 0 where
  pub kept : is_kept tree hash ≡ true
  pub prev : Hash256
  pub prev_is : prev_of tree hash ≡ Some prev
  pub back : (u : Unspent) → unspent_after tree hash ≡ Ok u
      → unspent_after tree prev ≡ Ok (changed u changes)
  pub below : WasConnected tree undos prev

-- each record is the undo record of the block at its place
pub record AreUndos (tree : Tree) (undos : List (Option (List CoinChange))) : Type 0 where
  pub long : length undos ≡ suc (length tree)
  pub each : (hash : Hash256) (place : ℕ) (changes : List CoinChange)
      → place_of tree hash ≡ Some place → record_at undos place ≡ Some changes
      → IsUndo tree undos hash changes

-- The branch's last block was connected once, and the branch's changes lead from the UTXO set after
-- the tip to the one after that block.
pub record IsSideBranch (tree : Tree) (undos : List (Option (List CoinChange))) (unspent : Unspent)
    (side_branch : SideBranch) : Type 0 where
  pub hash : Hash256
  pub connected : WasConnected tree undos hash
  pub end : connected.place ≡ side_branch.end
  pub after : unspent_after tree hash ≡ Ok (changed unspent side_branch.overlay)

-- What a chain stores follows from its tree: the places of the active chain's block indexes by
-- height, the UTXO set after the tip, the undo records of connected blocks, including the tip's,
-- and the branch that was tried last.
pub record IsChain (tree : Tree) (path : List ℕ) (undos : List (Option (List CoinChange)))
    (unspent : Unspent) (side_branch : Option SideBranch) : Type 0 where
  pub places : path ≡ active_places tree
  pub ledger : unspent_after tree (best tree) ≡ Ok unspent
  pub undos_are : AreUndos tree undos
  pub tip : WasConnected tree undos (best tree)
  pub side_branch_is : IfSome side_branch (IsSideBranch tree undos unspent)

-- a chain over the old tree is, with all else unchanged, one over the new tree
abbrev pub KeepsChains : Grown → Grown → Type 0
KeepsChains old new =
    (path : List ℕ) (unspent : Unspent) (side_branch : Option SideBranch)
    → IsChain (tree_of old.block_indexes) path old.undos unspent side_branch
    → IsChain (tree_of new.block_indexes) path new.undos unspent side_branch

-- a kept block is at this place
pub record IsKeptPlace (block_indexes : List BlockIndex) (place : ℕ) : Type 0 where
  pub hash : Hash256
  pub at : place_of (tree_of block_indexes) hash ≡ Some place
  pub kept : is_kept (tree_of block_indexes) hash ≡ true

-- the block index at `place` has a kept block, and its parent is the block index at `below`
pub record StandsOn (block_indexes : List BlockIndex) (below place : ℕ) : Type 0 where
  pub block_index : BlockIndex
  pub at : slice_get block_indexes place ≡ Some block_index
  pub kept : is_some block_index.kept ≡ true
  pub parent : block_index.parent ≡ below
  pub above : below < place

-- places of block indexes from above one place up to another, each block index on top of the one
-- before it
abbrev pub LeadUp : List BlockIndex → ℕ → List ℕ → ℕ → Type 0
LeadUp block_indexes below [] top = below ≡ top
LeadUp block_indexes below (place ∷ places) top =
    StandsOn block_indexes below place × LeadUp block_indexes place places top

-- the block at a place can't be spent after those below it
abbrev pub FailsAt : List BlockIndex → ℕ → Fault → Type 0
FailsAt block_indexes place fault =
    (block_index : BlockIndex) → slice_get block_indexes place ≡ Some block_index
    → unspent_after (tree_of block_indexes) block_index.hash ≡ Err (faulty block_index.hash fault)

-- the path to the block index `target` can't be connected: the first block that can't is at `place`
pub record StopsBelow (block_indexes : List BlockIndex) (target place : ℕ) (fault : Fault)
    : Type 0 where
  pub first : BlockIndex
  pub at : slice_get block_indexes place ≡ Some first
  pub kept : is_some first.kept ≡ true
  pub above : 0 < place
  pub stops : (block_index : BlockIndex) → slice_get block_indexes target ≡ Some block_index
      → unspent_after (tree_of block_indexes) block_index.hash ≡ Err (faulty first.hash fault)

-- The path of a block that isn't in the tree yet, and will be its last block index, can't be
-- connected: the first block that can't is below it, or is the block itself.
pub data Stops (block_indexes : List BlockIndex) (block : Block) (place : ℕ) (fault : Fault)
    : Type 0 where
  below : (target : ℕ) → place_of (tree_of block_indexes) block.header.prev ≡ Some target
      → StopsBelow block_indexes target place fault → Stops block_indexes block place fault
  here : (before : Unspent) → unspent_after (tree_of block_indexes) block.header.prev ≡ Ok before
      → spend before block.txs ≡ Err fault → place ≡ length block_indexes
      → Stops block_indexes block place fault

-- A block that isn't in the tree yet can be spent after its parent's path, and the record leads
-- back from the UTXO set `after` it. The parent was connected once.
pub record Tops (tree : Tree) (undos : List (Option (List CoinChange))) (block : Block)
    (changes : List CoinChange) (after : Unspent) : Type 0 where
  pub before : Unspent
  pub below : unspent_after tree block.header.prev ≡ Ok before
  pub leads : LeadsBack changes block.txs before after
  pub connected : WasConnected tree undos block.header.prev

-- A branch over another ledger: it has the same last block, and its changes lead from the new
-- ledger to the same UTXO set, where `back` leads from the new ledger to the old one.
pub record IsRested (old : SideBranch) (back : List CoinChange) (new : SideBranch) : Type 0 where
  pub end : new.end ≡ old.end
  pub over : (unspent : Unspent)
      → changed unspent new.overlay ≡ changed (changed unspent back) old.overlay

-- The active chain's ledger has changed. The branch that was tried last leads to the same UTXO set
-- over it, or its place is taken by the branch that ends at the old tip.
pub data RestsOn (path : List ℕ) (before after : Unspent) (old : Option SideBranch)
    (new : SideBranch) : Type 0 where
  stays : (side_branch : SideBranch) → old ≡ Some side_branch → new.end ≡ side_branch.end
      → changed after new.overlay ≡ changed before side_branch.overlay
      → RestsOn path before after old new
  left : slice_get path (length path - 1) ≡ Some new.end → changed after new.overlay ≡ before
      → RestsOn path before after old new
