-- What a call leaves of the active chain and of what is unspent behind it, and what a block that becomes the tip puts off.
use Rattle.std.proofs.Common.{◌≡◌, ◌≢◌, ℕ, suc, ◌≤◌, true, false, List, [], ◌∷◌, length, map, Some, None, Option, refl, sym, ap, subst, ◌∙◌, arith, inl, inr}
use Rattle.std.specs.Prelude.{nat_lt, reverse, unwrap_or, option_map, IfErr, IfOk, ◌⊎◌, Result, Ok, Err}
use Rattle.std.proofs.lemmas.Bool.{cases_Bool, ltb-true}
use Rattle.std.proofs.lemmas.Option.{slice_get_past}
use Rattle.std.proofs.lemmas.List.{length-append, length-map, length-reverse}
use Rattle.cb_base.specs.declared.fault.Fault.{Fault}
use Rattle.cb_base.specs.declared.fault.Fault.TheVariants.{BadWork, Memory, NoParent}
use Rattle.cb_base.specs.declared.hash.Hash256.{Hash256}
use Rattle.cb_block.specs.declared.block.Block.{Block}
use Rattle.cb_block.specs.declared.header.Header.{Header}
use Rattle.cb_block.specs.Blocks.{MeetsBlockRules}
use Rattle.cb_block.specs.Work.{HasWork}
use Rattle.cb_ledger.specs.Unspent.{Unspent}
use Rattle.cb_chain.specs.declared.change.Change.{Change}
use Rattle.cb_chain.specs.Best.{Stop, faulty, missing, active, best, branch, is_higher, unspent_after}
use Rattle.cb_chain.specs.Calls.AcceptsBlock.{without_work, refused, breaks_rule, meets_rules}
use Rattle.cb_chain.specs.Calls.{AcceptsBlock, AcceptsHeader, bad_entry, block_entry, block_fault, change_of, header_entry, joined, marked_above, no_change}
use Rattle.cb_chain.specs.Entries.{Entry, Tree, block_hash, entry_of, height_of, is_kept, is_known, same}
use Rattle.cb_chain.specs.Following.{above_branch, headers_above}
use Rattle.cb_chain.specs.Laws.{LeadsOver, MayLead, Stays, active_hashes, height_in}
use Rattle.cb_chain.proofs.LawLemmas.{tip_kept}
use Rattle.cb_chain.proofs.Roots.{AreRooted, known_behind, known_first}
use Rattle.cb_chain.proofs.Marks.{marks_keep_best, marks_keep_branch, marks_keep_unspent}
use Rattle.cb_chain.proofs.NewTip.{best_new, best_other, branch_new, height_new, height_other, joined_err, joined_ok}
use Rattle.cb_chain.proofs.Reached.{ArePlanted, kept_known, rooted_planted}
use Rattle.cb_chain.proofs.SideBranchIndexes.{active_aside, bare_best, block_free, header_free, kept_other, low_best}

-- ---- the active chain stays

pub stays_same : (old new : Tree) → new ≡ old → Stays old new
stays_same old new is = (ap active is, ap (λ (tree : Tree). unspent_after tree (best tree)) is)

pub stays_then : (one mid other : Tree) → Stays one mid → Stays mid other → Stays one other
stays_then one mid other a b = (b.0 ∙ a.0, b.1 ∙ a.1)

unspent_aside : (entry : Entry) (older : Tree) → best (entry ∷ older) ≡ best older → same (best older) (block_hash entry.header) ≡ false → unspent_after (entry ∷ older) (best (entry ∷ older)) ≡ unspent_after older (best older)
unfolding unspent_after
unspent_aside entry older stays other =
    let beyond : unspent_after (entry ∷ older) (best older) ≡ unspent_after older (best older) = rw other refl in
    ap (unspent_after (entry ∷ older)) stays ∙ beyond

-- an entry more that isn't the tip
over_entry : (entry : Entry) (older : Tree) → ArePlanted older → is_kept older (block_hash entry.header) ≡ false → best (entry ∷ older) ≡ best older → Stays older (entry ∷ older)
over_entry entry older are free stays =
    let other = kept_other older (best older) (block_hash entry.header) (tip_kept older are) free in
    (active_aside entry older stays other, unspent_aside entry older stays other)

-- marks
marks_stay : (first : Hash256) (tree : Tree) → Stays tree (marked_above first tree)
marks_stay first tree =
    let tip = marks_keep_best first tree in (
      ap reverse (ap (branch (marked_above first tree)) tip ∙ marks_keep_branch first tree (best tree)),
      ap (unspent_after (marked_above first tree)) tip ∙ marks_keep_unspent first tree (best tree),
    )

-- a header alone never is the tip
pub header_stays : (old new : Tree) (header : Header) (answer : Option Fault) → ArePlanted old → AcceptsHeader old header answer new → Stays old new
header_stays old new header answer are (AcceptsHeader.without_work work told is) = stays_same old new is
header_stays old new header answer are (AcceptsHeader.refused work fault why told is) = stays_same old new is
header_stays old new header answer are (AcceptsHeader.kept work none told is) =
    subst (Stays old) (sym is) (over_entry (header_entry header) old are (header_free old header none) (bare_best (header_entry header) old refl))

-- ---- how long branches are

-- a known hash stands at a height, and its branch has one header more
record Stands (tree : Tree) (hash : Hash256) : Type 0 where
  height : ℕ
  at : height_of tree hash ≡ Some height
  long : length (branch tree hash) ≡ suc height

stands : (tree : Tree) (hash : Hash256) → AreRooted tree → is_known tree hash ≡ true → Stands tree hash
unfolding branch
stands [] hash are known = let first = known_first hash known in record { height = 0; at = rw first refl; long = rw first refl }
stands (entry ∷ older) hash are known =
    elim (cases_Bool (same hash (block_hash entry.header))) [
      | inl own ↦ let below = stands older entry.header.prev are.1 are.0 in record { height = suc below.height; at = rw own (ap (option_map suc) below.at); long = rw own (ap suc below.long) }
      | inr other ↦ let below = stands older hash are.1 (known_behind entry older hash other known) in record { height = below.height; at = rw other below.at; long = rw other below.long }
    ]

-- ---- a block that becomes the tip

-- a block that stands higher than the tip, on a parent that is kept
record Above (old : Tree) (block : Block) : Type 0 where
  tip : Stands old (best old)
  parent : Stands old block.header.prev
  higher : tip.height ≤ parent.height

above : (old : Tree) (block : Block) → ArePlanted old → block_fault old block.header ≡ None → is_higher (block_entry block ∷ old) (block_hash block.header) (best old) ≡ true → Above old block
above old block are none up =
    let free = block_free old block.header none in
    let kept = tip_kept old are in
    let rooted = rooted_planted old are in
    let tip = stands old (best old) rooted (kept_known (entry_of old (best old)) kept) in
    let parent = stands old block.header.prev rooted (kept_known (entry_of old block.header.prev) free.under) in
    let other = kept_other old (best old) (block_hash block.header) kept free.once in
    let low : height_of (block_entry block ∷ old) (best old) ≡ Some tip.height = height_other (block_entry block) old (best old) other ∙ tip.at in
    let high : height_of (block_entry block ∷ old) (block_hash block.header) ≡ Some (suc parent.height) = height_new (block_entry block) old ∙ ap (option_map suc) parent.at in
    let test : nat_lt tip.height (suc parent.height) ≡ true =
    sym (ap (λ (o : Option ℕ). nat_lt (unwrap_or o 0) (suc parent.height)) low) ∙ (sym (ap (λ (o : Option ℕ). nat_lt (unwrap_or (height_of (block_entry block ∷ old) (best old)) 0) (unwrap_or o 0)) high) ∙ up) in
    let less = ltb-true tip.height (suc parent.height) test in
    record { tip = tip; parent = parent; higher = omega (arith, less) }

may_lead : (old : Tree) (block : Block) → Above old block → MayLead old block.header.prev
may_lead old block a =
    let tip : height_in old (best old) ≡ a.tip.height = ap (λ (o : Option ℕ). unwrap_or o 0) a.tip.at in
    (a.parent.height, a.parent.at, omega (arith, tip, a.higher))

active_long : (old : Tree) (block : Block) → Above old block → length (active old) ≤ length (branch old block.header.prev)
active_long old block a = omega (arith, length-reverse (branch old (best old)), a.tip.long, a.parent.long, a.higher)

-- it stands higher than all active headers, so it isn't among them
not_among : (headers : List Header) (below : List Header) (header : Header) → length headers ≤ length below → above_branch (header ∷ below) headers ≡ above_branch below headers
not_among headers below header le = rw (slice_get_past headers (length below) le) refl

-- what it puts off
puts_off : (old : Tree) (block : Block) (u : Unspent) → Above old block → best (block_entry block ∷ old) ≡ block_hash block.header
    → (change_of old (block_entry block ∷ old)).off ≡ reverse (map block_hash (headers_above old block.header.prev))
puts_off old block u a tip =
    let whole : branch (block_entry block ∷ old) (best (block_entry block ∷ old)) ≡ block.header ∷ branch old block.header.prev = ap (branch (block_entry block ∷ old)) tip ∙ branch_new (block_entry block) old in
    ap (λ (hs : List Header). reverse (map block_hash hs)) (ap (λ (hs : List Header). above_branch hs (active old)) whole ∙ not_among (active old) (branch old block.header.prev) block.header (active_long old block a))

-- something comes on where both chains begin alike: the new one is longer
comes_on : (old : Tree) (block : Block) (change : Change) → Above old block → best (block_entry block ∷ old) ≡ block_hash block.header
    → LeadsOver (active_hashes old) change (active_hashes (block_entry block ∷ old)) → change.on ≡ [] → ⊥
comes_on old block change a tip over none =
    let new = block_entry block ∷ old in
    let whole : branch new (best new) ≡ block.header ∷ branch old block.header.prev = ap (branch new) tip ∙ branch_new (block_entry block) old in
    let was = length-map (active old) block_hash in
    let is = length-map (active new) block_hash in
    let shared = ap length over.new_is ∙ length-append over.shared change.on in
    let front = ap length over.old_is ∙ length-append over.shared (reverse change.off) in
    absurd (omega (arith, was, is, shared, front, ap length none, active_long old block a, length-reverse (branch new (best new)), ap length whole))

-- ---- a call with a block

-- what becomes of one that is higher, by where its path stops
higher_stays : (old : Tree) (block : Block) (answer : Result Change Fault) (new : Tree) (path : Result Unspent Stop) → ArePlanted old → block_fault old block.header ≡ None → (answer, new) ≡ joined old block
    → is_higher (block_entry block ∷ old) (block_hash block.header) (best old) ≡ true → unspent_after (block_entry block ∷ old) (block_hash block.header) ≡ path
    → IfOk answer (λ change. LeadsOver (active_hashes old) change (active_hashes new)) → IfOk answer (λ change. change.on ≡ []) → Stays old new
higher_stays old block answer new (Ok u) are none is up ends over empty =
    let entry = block_entry block in
    let both : (answer, new) ≡ (Ok (change_of old (entry ∷ old)), entry ∷ old) = is ∙ joined_ok old block u up ends in
    let told : answer ≡ Ok (change_of old (entry ∷ old)) = ap (λ (p : Result Change Fault × Tree). p.0) both in
    let grown : new ≡ entry ∷ old = ap (λ (p : Result Change Fault × Tree). p.1) both in
    let tip : best (entry ∷ old) ≡ block_hash block.header = best_new entry old u ends up in
    absurd (comes_on old block (change_of old (entry ∷ old)) (above old block are none up) tip
    (subst (λ (t : Tree). LeadsOver (active_hashes old) (change_of old (entry ∷ old)) (active_hashes t)) grown (subst (λ (r : Result Change Fault). IfOk r (λ change. LeadsOver (active_hashes old) change (active_hashes new))) told over))
    (subst (λ (r : Result Change Fault). IfOk r (λ change. change.on ≡ [])) told empty))
higher_stays old block answer new (Err (faulty first fault)) are none is up ends over empty =
    let entry = block_entry block in
    let free = block_free old block.header none in
    let grown : new ≡ marked_above first (entry ∷ old) = ap (λ (p : Result Change Fault × Tree). p.1) (is ∙ joined_err old block first fault up ends) in
    subst (Stays old) (sym grown) (stays_then old (entry ∷ old) (marked_above first (entry ∷ old)) (over_entry entry old are free.once (best_other entry old (faulty first fault) ends)) (marks_stay first (entry ∷ old)))
higher_stays old block answer new (Err (missing hash)) are none is up ends over empty =
    let entry = block_entry block in
    let free = block_free old block.header none in
    let lost : joined old block ≡ (Err NoParent, entry ∷ old) = rw (up, ends) refl in
    let grown : new ≡ entry ∷ old = ap (λ (p : Result Change Fault × Tree). p.1) (is ∙ lost) in
    subst (Stays old) (sym grown) (over_entry entry old are free.once (best_other entry old (missing hash) ends))

joined_stays : (old : Tree) (block : Block) (answer : Result Change Fault) (new : Tree) → ArePlanted old → block_fault old block.header ≡ None → (answer, new) ≡ joined old block
    → IfOk answer (λ change. LeadsOver (active_hashes old) change (active_hashes new)) → IfOk answer (λ change. change.on ≡ []) → Stays old new
joined_stays old block answer new are none is over empty =
    let entry = block_entry block in
    let hash = block_hash block.header in
    let free = block_free old block.header none in
    elim (cases_Bool (is_higher (entry ∷ old) hash (best old))) [
      | inl up ↦ higher_stays old block answer new (unspent_after (entry ∷ old) hash) are none is up refl over empty
      | inr low ↦
          let aside : joined old block ≡ (Ok no_change, entry ∷ old) = rw low refl in
          subst (Stays old) (sym (ap (λ (p : Result Change Fault × Tree). p.1) (is ∙ aside))) (over_entry entry old are free.once (low_best entry old low))
    ]

-- Unless something comes on the active chain it stays, whatever is answered.
pub block_stays : (old new : Tree) (block : Block) (answer : Result Change Fault) → ArePlanted old → AcceptsBlock old block answer new
    → IfOk answer (λ change. LeadsOver (active_hashes old) change (active_hashes new)) → IfOk answer (λ change. change.on ≡ []) → Stays old new
block_stays old new block answer are (without_work work told is) over empty = stays_same old new is
block_stays old new block answer are (refused work fault why told is) over empty = stays_same old new is
block_stays old new block answer are (breaks_rule work none fault why told is) over empty =
    subst (Stays old) (sym is) (over_entry (bad_entry block.header) old are (block_free old block.header none).once (bare_best (bad_entry block.header) old refl))
block_stays old new block answer are (meets_rules work none rules is) over empty = joined_stays old block answer new are none is over empty

-- what is told of a higher one that is connected
higher_leads : (old : Tree) (block : Block) (change : Change) (new : Tree) (path : Result Unspent Stop) → ArePlanted old → block_fault old block.header ≡ None → (Ok change, new) ≡ joined old block
    → is_higher (block_entry block ∷ old) (block_hash block.header) (best old) ≡ true → unspent_after (block_entry block ∷ old) (block_hash block.header) ≡ path
    → MayLead old block.header.prev × (change.off ≡ reverse (map block_hash (headers_above old block.header.prev)))
higher_leads old block change new (Ok u) are none is up ends =
    let entry = block_entry block in
    let a = above old block are none up in
    let tip : best (entry ∷ old) ≡ block_hash block.header = best_new entry old u ends up in
    let told : Ok change ≡ Ok (change_of old (entry ∷ old)) = ap (λ (p : Result Change Fault × Tree). p.0) (is ∙ joined_ok old block u up ends) in
    let one : change ≡ change_of old (entry ∷ old) = cc in
    (may_lead old block a, ap (λ (c : Change). c.off) one ∙ puts_off old block u a tip)
higher_leads old block change new (Err (faulty first fault)) are none is up ends =
    let told : Ok change ≡ Err fault = ap (λ (p : Result Change Fault × Tree). p.0) (is ∙ joined_err old block first fault up ends) in absurd cc
higher_leads old block change new (Err (missing hash)) are none is up ends =
    let lost : joined old block ≡ (Err NoParent, block_entry block ∷ old) = rw (up, ends) refl in
    let told : Ok change ≡ Err NoParent = ap (λ (p : Result Change Fault × Tree). p.0) (is ∙ lost) in absurd cc

-- Where something comes on, its parent stood as high as the tip, and what is put off stood above its parent's branch.
pub block_leads : (old new : Tree) (block : Block) (change : Change) → ArePlanted old → AcceptsBlock old block (Ok change) new → change.on ≢ []
    → MayLead old block.header.prev × (change.off ≡ reverse (map block_hash (headers_above old block.header.prev)))
block_leads old new block change are (without_work work told is) some = let never : Ok change ≡ Err BadWork = told in absurd cc
block_leads old new block change are (refused work fault why told is) some = let never : Ok change ≡ Err fault = told in absurd cc
block_leads old new block change are (breaks_rule work none fault why told is) some = let never : Ok change ≡ Err fault = told in absurd cc
block_leads old new block change are (meets_rules work none rules is) some =
    let entry = block_entry block in
    let hash = block_hash block.header in
    elim (cases_Bool (is_higher (entry ∷ old) hash (best old))) [
      | inl up ↦ higher_leads old block change new (unspent_after (entry ∷ old) hash) are none is up refl
      | inr low ↦
          let aside : joined old block ≡ (Ok no_change, entry ∷ old) = rw low refl in
          let told : Ok change ≡ Ok no_change = ap (λ (p : Result Change Fault × Tree). p.0) (is ∙ aside) in
          let one : change ≡ no_change = cc in
          absurd (some (ap (λ (c : Change). c.on) one))
    ]

-- what a block meets that breaks no rule, or lacks memory
pub join_leads : (old new : Tree) (block : Block) (result : Result Change Fault) → ArePlanted old → HasWork block.header → block_fault old block.header ≡ None → MeetsBlockRules block
    → IfOk result (λ change. (Ok change, new) ≡ joined old block)
    → IfOk result (λ change. change.on ≢ [] → MayLead old block.header.prev × (change.off ≡ reverse (map block_hash (headers_above old block.header.prev))))
join_leads old new block (Ok change) are work none rules is = block_leads old new block change are (meets_rules work none rules is)
join_leads old new block (Err fault) are work none rules is = tt

pub join_stays : (old new : Tree) (block : Block) (result : Result Change Fault) → ArePlanted old → HasWork block.header → block_fault old block.header ≡ None → MeetsBlockRules block
    → IfOk result (λ change. (Ok change, new) ≡ joined old block) → IfErr result (λ fault. ((fault ≡ Memory) × (new ≡ old)) ⊎ ((Err fault, new) ≡ joined old block))
    → IfOk result (λ change. LeadsOver (active_hashes old) change (active_hashes new)) → IfOk result (λ change. change.on ≡ []) → Stays old new
join_stays old new block (Ok change) are work none rules is against over empty = block_stays old new block (Ok change) are (meets_rules work none rules is) over empty
join_stays old new block (Err fault) are work none rules is (inl lacked) over empty = stays_same old new lacked.1
join_stays old new block (Err fault) are work none rules is (inr told) over empty = block_stays old new block (Err fault) are (meets_rules work none rules told) tt tt
