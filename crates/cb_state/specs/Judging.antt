-- Why a block is refused by its header (Bitcoin's consensus).
use Rattle.std.specs.Prelude.{◌≡◌, true, false, if◌then◌else◌, Option, None, Some, not}
use Rattle.cb_base.specs.declared.fault.Fault.{Fault}
use Rattle.cb_base.specs.declared.fault.Fault.TheVariants.{BadParent, BadWork, NoParent, TooMany}
use Rattle.cb_base.specs.declared.hash.Hash256.{Hash256}
use Rattle.cb_block.specs.declared.header.Header.{Header}
use Rattle.cb_block.specs.Work.{HasWork}
use Rattle.cb_chain.specs.Calls.{block_fault, is_full_under}
use Rattle.cb_chain.specs.Entries.{Tree, is_kept, is_marked}
use Rattle.cb_state.specs.declared.judging.Standing.{Standing}
use Rattle.cb_state.specs.declared.judging.Standing.TheVariants.{Lacking, Kept, Marked}

-- What a tree has under a hash.
abbrev pub IsStanding : Tree → Hash256 → Standing → Type 0
IsStanding tree hash Lacking = (is_kept tree hash ≡ false) × (is_marked tree hash ≡ false)
IsStanding tree hash Kept = (is_kept tree hash ≡ true) × (is_marked tree hash ≡ false)
IsStanding tree hash Marked = is_marked tree hash ≡ true

-- The first reason against a block on this parent.
abbrev pub parent_fault : Tree → Hash256 → Option Fault
parent_fault tree parent =
    if is_marked tree parent then Some BadParent
    else (if not (is_kept tree parent) then Some NoParent
    else (if is_full_under tree parent then Some TooMany else None))

-- Why a block with this header is refused before its transactions are looked at.
pub data RefusesHeading (tree : Tree) (header : Header) (fault : Fault) : Type 0 where
  without_work : ¬ HasWork header → fault ≡ BadWork → RefusesHeading tree header fault
  with_work : HasWork header → block_fault tree header ≡ Some fault
      → RefusesHeading tree header fault
