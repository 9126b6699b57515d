-- No header stands above height 1,000,000,000.
use Rattle.std.proofs.Common.{◌≡◌, ℕ, ◌≤◌, suc, Bool, true, false, cond, Option, Some, None, sym, ap, subst, ◌∙◌, inl, inr, arith, List, [], ◌∷◌}
use Rattle.std.specs.Prelude.{nat_lt, not, option_map, unwrap_or, Result, Ok, Err}
use Rattle.std.proofs.lemmas.Bool.{cases_Bool}
use Rattle.std.proofs.lemmas.Bool.Decides.{nat_tests}
use Rattle.cb_base.specs.declared.fault.Fault.{Fault}
use Rattle.cb_base.specs.declared.fault.Fault.TheVariants.{BadParent, Known, NoParent, TooMany}
use Rattle.cb_base.specs.declared.hash.Hash256.{Hash256}
use Rattle.cb_block.specs.declared.block.Block.{Block}
use Rattle.cb_block.specs.declared.header.Header.{Header}
use Rattle.cb_ledger.specs.Unspent.{Unspent}
use Rattle.cb_chain.specs.declared.change.Change.{Change}
use Rattle.cb_chain.specs.Best.{Stop, faulty, missing, best, is_higher, unspent_after}
use Rattle.cb_chain.specs.Calls.{AcceptsBlock, AcceptsHeader, bad_entry, block_entry, block_fault, header_entry, header_fault, is_full_under, joined, marked_above, settled}
use Rattle.cb_chain.specs.Entries.{Entry, Tree, block_hash, genesis_hash, same, height_of, is_known, is_kept, is_marked}
use Rattle.cb_chain.specs.History.{BlockCall, Call, HeaderCall, IsHistoric, IsHistory, IsStep}
use Rattle.cb_chain.proofs.Marks.{marks_keep_height}
use Rattle.cb_chain.proofs.SideBranchIndexes.{none_first}

abbrev pub AreLow : Tree → Type 0
AreLow tree = (hash : Hash256) (height : ℕ) → height_of tree hash ≡ Some height → height ≤ 1000000000

low_first : AreLow []
low_first hash height e = go (same hash genesis_hash) e where
  go : (b : Bool) → cond b (Some 0) None ≡ Some height → height ≤ 1000000000
  go true f = let zero-is : 0 ≡ height = cc in omega (arith, zero-is)
  go false f = absurd cc

low_under : (below : Option ℕ) (height : ℕ) → nat_lt 1000000000 (suc (unwrap_or below 0)) ≡ false → option_map suc below ≡ Some height → height ≤ 1000000000
low_under None height room e = absurd cc
low_under (Some h) height room e = let one : suc h ≡ height = cc in subst (λ (n : ℕ). n ≤ 1000000000) one (grind (arith, nat_tests))

low_more : (entry : Entry) (older : Tree) → AreLow older → is_full_under older entry.header.prev ≡ false → AreLow (entry ∷ older)
low_more entry older low room hash height e =
    elim (cases_Bool (same hash (block_hash entry.header))) [
      | inl is ↦ low_under (height_of older entry.header.prev) height room (rw is at e)
      | inr isnt ↦ low hash height (rw isnt at e)
    ]

low_marked : (first : Hash256) (tree : Tree) → AreLow tree → AreLow (marked_above first tree)
low_marked first tree low hash height e = low hash height (sym (marks_keep_height first tree hash) ∙ e)

-- where nothing speaks against a header, there is room above its parent
room_header : (tree : Tree) (header : Header) → header_fault tree header ≡ None → is_full_under tree header.prev ≡ false
room_header tree header e =
    let hash = block_hash header in
    let full = cond (is_full_under tree header.prev) (Some TooMany) None in
    let marked = cond (is_marked tree header.prev) (Some BadParent) full in
    let unknown = cond (not (is_known tree header.prev)) (Some NoParent) marked in
    let a = none_first (is_marked tree hash) BadParent (cond (is_known tree hash) (Some Known) unknown) e in
    let b = none_first (is_known tree hash) Known unknown a.1 in
    let c = none_first (not (is_known tree header.prev)) NoParent marked b.1 in
    let d = none_first (is_marked tree header.prev) BadParent full c.1 in
    (none_first (is_full_under tree header.prev) TooMany None d.1).0

room_block : (tree : Tree) (header : Header) → block_fault tree header ≡ None → is_full_under tree header.prev ≡ false
room_block tree header e =
    let hash = block_hash header in
    let full = cond (is_full_under tree header.prev) (Some TooMany) None in
    let unkept = cond (not (is_kept tree header.prev)) (Some NoParent) full in
    let marked = cond (is_marked tree header.prev) (Some BadParent) unkept in
    let a = none_first (is_marked tree hash) BadParent (cond (is_kept tree hash) (Some Known) marked) e in
    let b = none_first (is_kept tree hash) Known marked a.1 in
    let c = none_first (is_marked tree header.prev) BadParent unkept b.1 in
    let d = none_first (not (is_kept tree header.prev)) NoParent full c.1 in
    (none_first (is_full_under tree header.prev) TooMany None d.1).0

low_header : (old : Tree) (header : Header) (answer : Option Fault) (new : Tree) → AcceptsHeader old header answer new → AreLow old → AreLow new
low_header old header answer new (AcceptsHeader.without_work _ _ e) low = subst AreLow (sym e) low
low_header old header answer new (AcceptsHeader.refused _ _ _ _ e) low = subst AreLow (sym e) low
low_header old header answer new (AcceptsHeader.kept _ none _ e) low = subst AreLow (sym e) (low_more (header_entry header) old low (room_header old header none))

low_settled : (old new : Tree) (r : Result Unspent Stop) → AreLow new → AreLow (settled old new r).1
low_settled old new (Ok u) low = low
low_settled old new (Err (faulty first fault)) low = low_marked first new low
low_settled old new (Err (missing hash)) low = low

low_joined : (old : Tree) (block : Block) → block_fault old block.header ≡ None → AreLow old → AreLow (joined old block).1
low_joined old block none low =
    let new = block_entry block ∷ old in
    let hash = block_hash block.header in
    let more : AreLow new = low_more (block_entry block) old low (room_block old block.header none) in
    elim (cases_Bool (is_higher new hash (best old))) [
      | inl above ↦ rw above (low_settled old new (unspent_after new hash) more)
      | inr beside ↦ rw beside more
    ]

low_block : (old : Tree) (block : Block) (answer : Result Change Fault) (new : Tree) → AcceptsBlock old block answer new → AreLow old → AreLow new
low_block old block answer new (AcceptsBlock.without_work _ _ e) low = subst AreLow (sym e) low
low_block old block answer new (AcceptsBlock.refused _ _ _ _ e) low = subst AreLow (sym e) low
low_block old block answer new (AcceptsBlock.breaks_rule _ none _ _ _ e) low = subst AreLow (sym e) (low_more (bad_entry block.header) old low (room_block old block.header none))
low_block old block answer new (AcceptsBlock.meets_rules _ none _ e) low =
    subst AreLow (sym (ap (λ (both : Result Change Fault × Tree). both.1) e)) (low_joined old block none low)

low_step : (old : Tree) (call : Call) (new : Tree) → IsStep old call new → AreLow old → AreLow new
low_step old (HeaderCall header) new step low = low_header old header step.0 new step.1 low
low_step old (BlockCall block) new step low = low_block old block step.1 new step.2 low

low_after : (calls : List Call) (tree : Tree) → IsHistory calls tree → AreLow tree
low_after [] tree h = subst AreLow (sym h) low_first
low_after (call ∷ calls) tree h = low_step h.0 call tree h.2 (low_after calls h.0 h.1)

-- the tip's height, of any chain
pub tip_low : (tree : Tree) (height : ℕ) → IsHistoric tree → height_of tree (best tree) ≡ Some height → height ≤ 1000000000
tip_low tree height is e = low_after is.0 tree is.1 (best tree) height e
