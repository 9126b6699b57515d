-- What a header or a block does to the tree (Bitcoin's consensus, as far as this program checks
-- it), and each reason why it is refused, in order. Lack of memory isn't among these reasons.
use Rattle.std.specs.Prelude.{◌≡◌, suc, Bool, true, false, ◌&&◌, not, nat_lt, if◌then◌else◌, [], ◌∷◌, map, reverse, Option, None, Some, unwrap_or, Result, Ok, Err, is_some}
use Rattle.cb_base.specs.declared.fault.Fault.{Fault}
use Rattle.cb_base.specs.declared.fault.Fault.TheVariants.{BadParent, BadWork, Known, NoParent, TooMany}
use Rattle.cb_base.specs.declared.hash.Hash256.{Hash256}
use Rattle.cb_block.specs.declared.header.Header.{Header}
use Rattle.cb_block.specs.declared.block.Block.{Block}
use Rattle.cb_block.specs.Blocks.{IsRefused, MeetsBlockRules}
use Rattle.cb_block.specs.Work.{HasWork}
use Rattle.cb_ledger.specs.Unspent.{Unspent}
use Rattle.cb_chain.specs.declared.change.Change.{Change}
use Rattle.cb_chain.specs.Entries.{Entry, Tree, block_hash, height_of, is_known, is_kept, is_marked}
use Rattle.cb_chain.specs.Best.{Stop, faulty, missing, active, best, branch, is_higher, leads_through, unspent_after}
use Rattle.cb_chain.specs.Following.{above_branch}

-- a child of this parent would be too high
abbrev pub is_full_under : Tree → Hash256 → Bool
is_full_under tree parent = nat_lt 1000000000 (suc (unwrap_or (height_of tree parent) 0))

-- the first reason against a header that has its proof of work
abbrev pub header_fault : Tree → Header → Option Fault
header_fault tree header =
    let hash = block_hash header in
    if is_marked tree hash then Some BadParent
    else (if is_known tree hash then Some Known
    else (if not (is_known tree header.prev) then Some NoParent
    else (if is_marked tree header.prev then Some BadParent
    else (if is_full_under tree header.prev then Some TooMany else None))))

-- the first reason against a block whose header has its proof of work, before the block rules are
-- checked
abbrev pub block_fault : Tree → Header → Option Fault
block_fault tree header =
    let hash = block_hash header in
    if is_marked tree hash then Some BadParent
    else (if is_kept tree hash then Some Known
    else (if is_marked tree header.prev then Some BadParent
    else (if not (is_kept tree header.prev) then Some NoParent
    else (if is_full_under tree header.prev then Some TooMany else None))))

-- the entries of a header alone, of a header that is marked bad, and of a block
abbrev pub header_entry : Header → Entry
header_entry header = record { header = header; block = None; marked = false }

abbrev pub bad_entry : Header → Entry
bad_entry header = record { header = header; block = None; marked = true }

abbrev pub block_entry : Block → Entry
block_entry block = record { header = block.header; block = Some block; marked = false }

-- marks a block and all kept blocks above it as bad
abbrev pub marked_above : Hash256 → Tree → Tree
marked_above first [] = []
marked_above first (entry ∷ older) =
    (if is_some entry.block && leads_through (entry ∷ older) first (block_hash entry.header)
    then record { header = entry.header; block = entry.block; marked = true }
    else entry)
    ∷ marked_above first older

-- The change from the active chain of one tree to that of another: what leaves, from the tip down,
-- and what joins, from the lowest up.
abbrev pub change_of : Tree → Tree → Change
change_of old new = record {
  off = reverse (map block_hash (above_branch (branch new (best new)) (active old)));
  on = map block_hash (above_branch (branch old (best old)) (active new));
}

abbrev pub no_change : Change
no_change = record { off = []; on = [] }

-- What becomes of a block that is higher than the tip. Its parent is kept, so no block of its path
-- is missing.
abbrev pub settled : Tree → Tree → Result Unspent Stop → Result Change Fault × Tree
settled old new (Ok u) = (Ok (change_of old new), new)
settled old new (Err (faulty first fault)) = (Err fault, marked_above first new)
settled old new (Err (missing hash)) = (Err NoParent, new)

-- What becomes of a block that meets the block rules. If it isn't higher than the tip, it is kept
-- beside the active chain. If it is higher, it becomes the tip, or its path can't be connected:
-- then the first block that can't and all kept blocks above it are marked bad.
abbrev pub joined : Tree → Block → Result Change Fault × Tree
joined old block =
    let new = block_entry block ∷ old in
    let hash = block_hash block.header in
    if is_higher new hash (best old)
    then settled old new (unspent_after new hash)
    else (Ok no_change, new)

-- the answer to a header, and the tree after it
pub data AcceptsHeader (old : Tree) (header : Header) (answer : Option Fault) (new : Tree)
    : Type 0 where
  without_work : ¬ HasWork header → answer ≡ Some BadWork → new ≡ old
      → AcceptsHeader old header answer new
  refused : HasWork header → (fault : Fault) → header_fault old header ≡ Some fault
      → answer ≡ Some fault → new ≡ old → AcceptsHeader old header answer new
  kept : HasWork header → header_fault old header ≡ None → answer ≡ None
      → new ≡ header_entry header ∷ old → AcceptsHeader old header answer new

-- the answer to a block, and the tree after it
pub data AcceptsBlock (old : Tree) (block : Block) (answer : Result Change Fault) (new : Tree)
    : Type 0 where
  without_work : ¬ HasWork block.header → answer ≡ Err BadWork → new ≡ old
      → AcceptsBlock old block answer new
  refused : HasWork block.header → (fault : Fault) → block_fault old block.header ≡ Some fault
      → answer ≡ Err fault → new ≡ old → AcceptsBlock old block answer new
  breaks_rule : HasWork block.header → block_fault old block.header ≡ None → (fault : Fault)
      → IsRefused block fault → answer ≡ Err fault → new ≡ bad_entry block.header ∷ old
      → AcceptsBlock old block answer new
  meets_rules : HasWork block.header → block_fault old block.header ≡ None → MeetsBlockRules block
      → (answer, new) ≡ joined old block → AcceptsBlock old block answer new
