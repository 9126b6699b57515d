-- What holds of each tree that calls leave, by recursion on the list of calls: how its entries stand on one another, that
-- their blocks meet the rules, and that no path to a marked one can be spent.
use Rattle.std.proofs.Common.{◌≡◌, Bool, true, false, cond, List, [], ◌∷◌, Some, None, Option, refl, sym, ap, subst, ◌∙◌, inl, inr, ◌⊎◌}
use Rattle.std.specs.Prelude.{⊤, ◌||◌, not, is_ok, is_some, IfSome, Result, Ok, Err, IsErr}
use Rattle.std.proofs.lemmas.Bool.{and_parts, cases_Bool, false≢true}
use Rattle.cb_base.specs.declared.fault.Fault.{Fault}
use Rattle.cb_base.specs.declared.fault.Fault.TheVariants.{BadParent, Known, NoParent, TooMany}
use Rattle.cb_base.specs.declared.hash.Hash256.{Hash256}
use Rattle.cb_block.specs.declared.block.Block.{Block}
use Rattle.cb_block.specs.declared.header.Header.{Header}
use Rattle.cb_block.specs.Blocks.{IsSoundBlock, MeetsBlockRules}
use Rattle.cb_ledger.specs.Spend.{spend}
use Rattle.cb_ledger.specs.Unspent.{Unspent}
use Rattle.cb_chain.specs.declared.change.Change.{Change}
use Rattle.cb_chain.specs.Entries.{Entry, Tree, block_hash, genesis_hash, same, entry_of, has_block, is_known, is_kept, is_marked}
use Rattle.cb_chain.specs.Best.{Stop, faulty, missing, best, is_higher, leads_through, spend_block, stopped_at, then_spend, unspent_after}
use Rattle.cb_chain.specs.Calls.{AcceptsBlock, AcceptsHeader, bad_entry, block_entry, block_fault, header_entry, header_fault, is_full_under, joined, marked_above, settled}
use Rattle.cb_chain.specs.History.{BlockCall, Call, HeaderCall, IsHistoric, IsHistory, IsStep}
use Rattle.cb_chain.specs.Laws.{CannotConnect}
use Rattle.cb_chain.proofs.SideBranchIndexes.{bare_err, block_free, known_is_kept, none_first, not_false}
use Rattle.cb_chain.proofs.Marks.{leads_none, mark_header, marked_is, marks, with_mark, marks_keep_kept, marks_keep_known, marks_keep_unspent}
use Rattle.cb_chain.proofs.BlockIndexes.{same-refl, same-true}
use Rattle.cb_chain.proofs.Roots.{AreRooted}

-- ---- how an entry stands on those behind it

pub record IsPlanted (entry : Entry) (older : Tree) : Type 0 where
  pub parent : is_known older entry.header.prev ≡ true
  pub once : is_kept older (block_hash entry.header) ≡ false
  pub under : is_some entry.block ≡ true → is_kept older entry.header.prev ≡ true
  pub own : IfSome entry.block (λ block. block.header ≡ entry.header)
  pub rules : IfSome entry.block MeetsBlockRules
  pub sound : IfSome entry.block IsSoundBlock

abbrev pub ArePlanted : Tree → Type 0
ArePlanted [] = ⊤
ArePlanted (entry ∷ older) = IsPlanted entry older × ArePlanted older

pub rooted_planted : (tree : Tree) → ArePlanted tree → AreRooted tree
rooted_planted [] are = tt
rooted_planted (entry ∷ older) are = (are.0.parent, rooted_planted older are.1)

-- ---- what is unspent after an entry's path

spent_own : (entry : Entry) (older : Tree) (hash : Hash256) → same hash (block_hash entry.header) ≡ true → unspent_after (entry ∷ older) hash ≡ then_spend entry (unspent_after older entry.header.prev)
unfolding unspent_after
spent_own entry older hash is = rw is refl

spent_behind : (entry : Entry) (older : Tree) (hash : Hash256) → same hash (block_hash entry.header) ≡ false → unspent_after (entry ∷ older) hash ≡ unspent_after older hash
unfolding unspent_after
spent_behind entry older hash isnt = rw isnt refl

spends_kept : (entry : Entry) (before : Result Unspent Stop) → is_ok (then_spend entry before) ≡ true → is_some entry.block ≡ true
spends_kept entry (Err stop) e = absurd (false≢true e)
spends_kept entry (Ok v) e =
    elim entry.block as (λ (o : Option Block). is_ok (spend_block (block_hash entry.header) o v) ≡ true → is_some o ≡ true) [
      | None ↦ λ none. absurd (false≢true none)
      | Some block ↦ λ _. refl
    ] e

-- a block that can be spent with its whole path is kept
pub spent_kept : (tree : Tree) (hash : Hash256) → is_ok (unspent_after tree hash) ≡ true → is_kept tree hash ≡ true
unfolding unspent_after
spent_kept [] hash ok =
    elim (cases_Bool (same hash genesis_hash)) [
      | inl is ↦ rw is refl
      | inr isnt ↦ let none : false ≡ true = rw isnt at ok in absurd (false≢true none)
    ]
spent_kept (entry ∷ older) hash ok =
    elim (cases_Bool (same hash (block_hash entry.header))) [
      | inl is ↦
          let here : is_ok (then_spend entry (unspent_after older entry.header.prev)) ≡ true = rw is at ok in
          rw is (spends_kept entry (unspent_after older entry.header.prev) here)
      | inr isnt ↦ let there : is_ok (unspent_after older hash) ≡ true = rw isnt at ok in rw isnt (spent_kept older hash there)
    ]

-- what isn't kept can't be spent
unkept_bad : (tree : Tree) (hash : Hash256) → is_kept tree hash ≡ false → is_ok (unspent_after tree hash) ≡ false
unkept_bad tree hash unkept =
    elim (cases_Bool (is_ok (unspent_after tree hash))) [
      | inl ok ↦ absurd (false≢true (sym unkept ∙ spent_kept tree hash ok))
      | inr bad ↦ bad
    ]

-- ---- what is kept

pub kept_own : (entry : Entry) (older : Tree) (hash : Hash256) → same hash (block_hash entry.header) ≡ true → is_kept (entry ∷ older) hash ≡ is_some entry.block
kept_own entry older hash is = rw is refl

pub kept_behind : (entry : Entry) (older : Tree) (hash : Hash256) → same hash (block_hash entry.header) ≡ false → is_kept (entry ∷ older) hash ≡ is_kept older hash
kept_behind entry older hash isnt = rw isnt refl

-- a kept block isn't the newest one, where that is a new one
pub kept_apart : (entry : Entry) (older : Tree) (hash : Hash256) → IsPlanted entry older → is_kept older hash ≡ true → same hash (block_hash entry.header) ≡ false
kept_apart entry older hash is kept =
    elim (cases_Bool (same hash (block_hash entry.header))) [
      | inl own ↦ absurd (false≢true (sym is.once ∙ subst (λ (h : Hash256). is_kept older h ≡ true) (same-true hash (block_hash entry.header) own) kept))
      | inr other ↦ other
    ]

bare_unkept : (o : Option Block) → o ≡ None → is_some o ≡ true → ⊥
bare_unkept o none kept = false≢true (sym (ap is_some none) ∙ kept)

first_spent : (hash : Hash256) (stop : Stop) → is_kept [] hash ≡ true → unspent_after [] hash ≡ Err stop → ⊥
unfolding unspent_after
first_spent hash stop kept e =
    elim (cases_Bool (same hash genesis_hash)) [
      | inl is ↦ let ok : is_ok (unspent_after [] hash) ≡ true = rw is refl in false≢true (sym (ap is_ok e) ∙ ok)
      | inr isnt ↦ let none : false ≡ true = rw isnt at kept in false≢true none
    ]

-- ---- no block of a kept block's path is missing

never_missing : (hash lacking : Hash256) (r : Result Unspent Fault) → stopped_at hash r ≡ Err (missing lacking) → ⊥
never_missing hash lacking (Ok u) e = let none : Ok u ≡ Err (missing lacking) = e in cc
never_missing hash lacking (Err fault) e = let none : Err (faulty hash fault) ≡ Err (missing lacking) = e in cc

lacks_block : (hash lacking : Hash256) (o : Option Block) (u : Unspent) → spend_block hash o u ≡ Err (missing lacking) → o ≡ None
lacks_block hash lacking None u e = refl
lacks_block hash lacking (Some block) u e = absurd (never_missing hash lacking (spend u block.txs) e)

missing_here : (entry : Entry) (below : Result Unspent Stop) (lacking : Hash256) → then_spend entry below ≡ Err (missing lacking) → (below ≡ Err (missing lacking)) ⊎ (entry.block ≡ None)
missing_here entry (Ok u) lacking e = inr (lacks_block (block_hash entry.header) lacking entry.block u e)
missing_here entry (Err stop) lacking e = inl e

none_missing : (tree : Tree) (hash lacking : Hash256) → ArePlanted tree → is_kept tree hash ≡ true → unspent_after tree hash ≡ Err (missing lacking) → ⊥
none_missing [] hash lacking are kept e = first_spent hash (missing lacking) kept e
none_missing (entry ∷ older) hash lacking are kept e =
    elim (cases_Bool (same hash (block_hash entry.header))) [
      | inl is ↦
          let here = sym (kept_own entry older hash is) ∙ kept in
          elim (missing_here entry (unspent_after older entry.header.prev) lacking (sym (spent_own entry older hash is) ∙ e)) [
            | inl below ↦ none_missing older entry.header.prev lacking are.1 (are.0.under here) below
            | inr none ↦ bare_unkept entry.block none here
          ]
      | inr isnt ↦ none_missing older hash lacking are.1 (sym (kept_behind entry older hash isnt) ∙ kept) (sym (spent_behind entry older hash isnt) ∙ e)
    ]

-- ---- where a kept block's path stops

-- it is kept, its own path stops there, and it can't be connected
pub record IsStop (tree : Tree) (first : Hash256) (fault : Fault) : Type 0 where
  pub kept : is_kept tree first ≡ true
  pub at : unspent_after tree first ≡ Err (faulty first fault)
  pub why : CannotConnect tree first fault

-- an entry's block can't be spent over what is unspent below
record Fails (entry : Entry) (below : Result Unspent Stop) (first : Hash256) (fault : Fault) : Type 0 where
  here : first ≡ block_hash entry.header
  block : Block
  unspent : Unspent
  kept : entry.block ≡ Some block
  parent : below ≡ Ok unspent
  why : spend unspent block.txs ≡ Err fault

stopped_first : (hash first : Hash256) (fault : Fault) (r : Result Unspent Fault) → stopped_at hash r ≡ Err (faulty first fault) → (first ≡ hash) × (r ≡ Err fault)
stopped_first hash first fault (Ok u) e = absurd (let none : Ok u ≡ Err (faulty first fault) = e in cc)
stopped_first hash first fault (Err other) e =
    let both : Err (faulty hash other) ≡ Err (faulty first fault) = e in
    let one : first ≡ hash = cc in
    let again : other ≡ fault = cc in (one, ap Err again)

fails_at : (entry : Entry) (first : Hash256) (fault : Fault) (o : Option Block) (u : Unspent) → entry.block ≡ o → spend_block (block_hash entry.header) o u ≡ Err (faulty first fault) → Fails entry (Ok u) first fault
fails_at entry first fault None u is e = absurd (let none : Err (missing (block_hash entry.header)) ≡ Err (faulty first fault) = e in cc)
fails_at entry first fault (Some block) u is e =
    let both = stopped_first (block_hash entry.header) first fault (spend u block.txs) e in
    record { here = both.0; block = block; unspent = u; kept = is; parent = refl; why = both.1 }

stop_here : (entry : Entry) (below : Result Unspent Stop) (first : Hash256) (fault : Fault) → then_spend entry below ≡ Err (faulty first fault)
    → (below ≡ Err (faulty first fault)) ⊎ Fails entry below first fault
stop_here entry (Ok u) first fault e = inr (fails_at entry first fault entry.block u refl e)
stop_here entry (Err other) first fault e = inl e

-- it can't be connected where one more entry stands before it too
cannot_more : (entry : Entry) (older : Tree) (first : Hash256) (fault : Fault) → IsPlanted entry older → same first (block_hash entry.header) ≡ false → CannotConnect older first fault
    → CannotConnect (entry ∷ older) first fault
cannot_more entry older first fault is other before =
    let prev = before.block.header.prev in
    let parent = kept_apart entry older prev is (spent_kept older prev (ap is_ok before.parent)) in
    record { block = before.block; unspent = before.unspent; kept = rw other before.kept; parent = spent_behind entry older prev parent ∙ before.parent; why = before.why }

cannot_here : (entry : Entry) (older : Tree) (first : Hash256) (fault : Fault) → IsPlanted entry older → Fails entry (unspent_after older entry.header.prev) first fault → CannotConnect (entry ∷ older) first fault
cannot_here entry older first fault is fails =
    let prev = entry.header.prev in
    let own : fails.block.header ≡ entry.header = subst (λ (o : Option Block). IfSome o (λ block. block.header ≡ entry.header)) fails.kept is.own in
    let parent : unspent_after (entry ∷ older) prev ≡ Ok fails.unspent = spent_behind entry older prev (kept_apart entry older prev is (spent_kept older prev (ap is_ok fails.parent))) ∙ fails.parent in
    record {
      block = fails.block;
      unspent = fails.unspent;
      kept = rw fails.here (rw (same-refl (block_hash entry.header)) fails.kept);
      parent = ap (λ (header : Header). unspent_after (entry ∷ older) header.prev) own ∙ parent;
      why = fails.why;
    }

stop_more : (entry : Entry) (older : Tree) (first : Hash256) (fault : Fault) → IsPlanted entry older → IsStop older first fault → IsStop (entry ∷ older) first fault
stop_more entry older first fault is before =
    let other = kept_apart entry older first is before.kept in
    record { kept = kept_behind entry older first other ∙ before.kept; at = spent_behind entry older first other ∙ before.at; why = cannot_more entry older first fault is other before.why }

pub stop_is : (tree : Tree) (hash first : Hash256) (fault : Fault) → ArePlanted tree → is_kept tree hash ≡ true → unspent_after tree hash ≡ Err (faulty first fault) → IsStop tree first fault
stop_is [] hash first fault are kept e = absurd (first_spent hash (faulty first fault) kept e)
stop_is (entry ∷ older) hash first fault are kept e =
    elim (cases_Bool (same hash (block_hash entry.header))) [
      | inl is ↦
          elim (stop_here entry (unspent_after older entry.header.prev) first fault (sym (spent_own entry older hash is) ∙ e)) [
            | inl below ↦ stop_more entry older first fault are.0 (stop_is older entry.header.prev first fault are.1 (are.0.under (sym (kept_own entry older hash is) ∙ kept)) below)
            | inr fails ↦
                let it : hash ≡ first = same-true hash (block_hash entry.header) is ∙ sym fails.here in
                record { kept = ap (is_kept (entry ∷ older)) (sym it) ∙ kept; at = ap (unspent_after (entry ∷ older)) (sym it) ∙ e; why = cannot_here entry older first fault are.0 fails }
          ]
      | inr isnt ↦ stop_more entry older first fault are.0 (stop_is older hash first fault are.1 (sym (kept_behind entry older hash isnt) ∙ kept) (sym (spent_behind entry older hash isnt) ∙ e))
    ]

-- ---- what leads through a block whose path stops

leads_own : (entry : Entry) (older : Tree) (first hash : Hash256) → same hash (block_hash entry.header) ≡ true
    → leads_through (entry ∷ older) first hash ≡ cond (same hash first) true (leads_through older first entry.header.prev)
unfolding leads_through
leads_own entry older first hash is = rw is refl

leads_behind : (entry : Entry) (older : Tree) (first hash : Hash256) → same hash (block_hash entry.header) ≡ false → leads_through (entry ∷ older) first hash ≡ leads_through older first hash
unfolding leads_through
leads_behind entry older first hash isnt = rw isnt refl

-- what stands on the path of a kept block is kept
leads_kept : (tree : Tree) (first hash : Hash256) → ArePlanted tree → is_kept tree hash ≡ true → leads_through tree first hash ≡ true → is_kept tree first ≡ true
leads_kept [] first hash are kept through = absurd (false≢true (sym (leads_none first hash) ∙ through))
leads_kept (entry ∷ older) first hash are kept through =
    let more : is_kept older first ≡ true → is_kept (entry ∷ older) first ≡ true = λ below. kept_behind entry older first (kept_apart entry older first are.0 below) ∙ below in
    elim (cases_Bool (same hash (block_hash entry.header))) [
      | inl is ↦
          elim (cases_Bool (same hash first)) [
            | inl it ↦ ap (is_kept (entry ∷ older)) (sym (same-true hash first it)) ∙ kept
            | inr isnt ↦
                let below : leads_through older first entry.header.prev ≡ true =
                ap (λ (b : Bool). cond b true (leads_through older first entry.header.prev)) (sym isnt) ∙ sym (leads_own entry older first hash is) ∙ through in
                more (leads_kept older first entry.header.prev are.1 (are.0.under (sym (kept_own entry older hash is) ∙ kept)) below)
          ]
      | inr isnt ↦ more (leads_kept older first hash are.1 (sym (kept_behind entry older hash isnt) ∙ kept) (sym (leads_behind entry older first hash isnt) ∙ through))
    ]

-- a path through it stops where its own does
leads_stop : (tree : Tree) (first hash : Hash256) (stop : Stop) → ArePlanted tree → unspent_after tree first ≡ Err stop → is_kept tree hash ≡ true → leads_through tree first hash ≡ true → unspent_after tree hash ≡ Err stop
leads_stop [] first hash stop are e kept through = absurd (false≢true (sym (leads_none first hash) ∙ through))
leads_stop (entry ∷ older) first hash stop are e kept through =
    let before : is_kept older first ≡ true → unspent_after older first ≡ Err stop = λ below. sym (spent_behind entry older first (kept_apart entry older first are.0 below)) ∙ e in
    elim (cases_Bool (same hash (block_hash entry.header))) [
      | inl is ↦
          elim (cases_Bool (same hash first)) [
            | inl it ↦ ap (unspent_after (entry ∷ older)) (same-true hash first it) ∙ e
            | inr isnt ↦
                let prev = entry.header.prev in
                let below : leads_through older first prev ≡ true = ap (λ (b : Bool). cond b true (leads_through older first prev)) (sym isnt) ∙ sym (leads_own entry older first hash is) ∙ through in
                let under = are.0.under (sym (kept_own entry older hash is) ∙ kept) in
                let stops = leads_stop older first prev stop are.1 (before (leads_kept older first prev are.1 under below)) under below in
                spent_own entry older hash is ∙ ap (then_spend entry) stops
          ]
      | inr isnt ↦
          let there = sym (kept_behind entry older hash isnt) ∙ kept in
          let leads = sym (leads_behind entry older first hash isnt) ∙ through in
          spent_behind entry older hash isnt ∙ leads_stop older first hash stop are.1 (before (leads_kept older first hash are.1 there leads)) there leads
    ]

either : (b : Bool) → cond b true true ≡ true
either true = refl
either false = refl

-- a kept block's path leads through the block where it stops
pub stop_leads : (tree : Tree) (hash first : Hash256) (fault : Fault) → ArePlanted tree → is_kept tree hash ≡ true → unspent_after tree hash ≡ Err (faulty first fault) → leads_through tree first hash ≡ true
stop_leads [] hash first fault are kept e = absurd (first_spent hash (faulty first fault) kept e)
stop_leads (entry ∷ older) hash first fault are kept e =
    let prev = entry.header.prev in
    elim (cases_Bool (same hash (block_hash entry.header))) [
      | inl is ↦
          leads_own entry older first hash is
          ∙ elim (stop_here entry (unspent_after older prev) first fault (sym (spent_own entry older hash is) ∙ e)) [
            | inl below ↦
                let leads = stop_leads older prev first fault are.1 (are.0.under (sym (kept_own entry older hash is) ∙ kept)) below in
                ap (cond (same hash first) true) leads ∙ either (same hash first)
            | inr fails ↦
                let it : same hash first ≡ true = ap (same hash) (fails.here ∙ sym (same-true hash (block_hash entry.header) is)) ∙ same-refl hash in
                ap (λ (b : Bool). cond b true (leads_through older first prev)) it
          ]
      | inr isnt ↦ leads_behind entry older first hash isnt ∙ stop_leads older hash first fault are.1 (sym (kept_behind entry older hash isnt) ∙ kept) (sym (spent_behind entry older hash isnt) ∙ e)
    ]

-- ---- what a call finds where it keeps something

record IsNew (tree : Tree) (header : Header) : Type 0 where
  unmarked : is_marked tree (block_hash header) ≡ false
  once : is_kept tree (block_hash header) ≡ false
  parent : is_known tree header.prev ≡ true

pub kept_known : (o : Option Entry) → has_block o ≡ true → is_some o ≡ true
kept_known None kept = absurd (false≢true kept)
kept_known (Some entry) kept = refl

header_new : (tree : Tree) (header : Header) → header_fault tree header ≡ None → IsNew tree header
header_new tree header e =
    let hash = block_hash header in
    let full = cond (is_full_under tree header.prev) (Some TooMany) None in
    let marked = cond (is_marked tree header.prev) (Some BadParent) full in
    let under = cond (not (is_known tree header.prev)) (Some NoParent) marked in
    let a = none_first (is_marked tree hash) BadParent (cond (is_known tree hash) (Some Known) under) e in
    let b = none_first (is_known tree hash) Known under a.1 in
    let d = none_first (not (is_known tree header.prev)) NoParent marked b.1 in
    record { unmarked = a.0; once = known_is_kept (entry_of tree hash) b.0; parent = not_false (is_known tree header.prev) d.0 }

block_new : (tree : Tree) (header : Header) → block_fault tree header ≡ None → IsNew tree header
block_new tree header e =
    let hash = block_hash header in
    let full = cond (is_full_under tree header.prev) (Some TooMany) None in
    let lacking = cond (not (is_kept tree header.prev)) (Some NoParent) full in
    let under = cond (is_marked tree header.prev) (Some BadParent) lacking in
    let a = none_first (is_marked tree hash) BadParent (cond (is_kept tree hash) (Some Known) under) e in
    let free = block_free tree header e in
    record { unmarked = a.0; once = free.once; parent = kept_known (entry_of tree header.prev) free.under }

-- ---- what holds of each tree that calls leave

pub record IsReached (tree : Tree) : Type 0 where
  pub planted : ArePlanted tree
  pub marks : (hash : Hash256) → is_marked tree hash ≡ true → is_ok (unspent_after tree hash) ≡ false
  pub stops : (hash first : Hash256) (fault : Fault) → is_kept tree hash ≡ true → unspent_after tree hash ≡ Err (faulty first fault) → is_marked tree hash ≡ is_marked tree first

pub first_unmarked : (hash : Hash256) → is_marked [] hash ≡ true → ⊥
first_unmarked hash marked =
    elim (cases_Bool (same hash genesis_hash)) [
      | inl is ↦ let none : false ≡ true = rw is at marked in false≢true none
      | inr isnt ↦ let none : false ≡ true = rw isnt at marked in false≢true none
    ]

reached_first : IsReached []
reached_first = record { planted = tt; marks = λ hash marked. absurd (first_unmarked hash marked); stops = λ hash first fault kept e. absurd (first_spent hash (faulty first fault) kept e) }

pub marked_own : (entry : Entry) (older : Tree) (hash : Hash256) → same hash (block_hash entry.header) ≡ true → is_marked (entry ∷ older) hash ≡ entry.marked
marked_own entry older hash is = rw is refl

pub marked_behind : (entry : Entry) (older : Tree) (hash : Hash256) → same hash (block_hash entry.header) ≡ false → is_marked (entry ∷ older) hash ≡ is_marked older hash
marked_behind entry older hash isnt = rw isnt refl

-- what a new entry must be: a block meets the rules and stands on a kept one that isn't marked, and what is marked at once
-- has no block
record IsFit (entry : Entry) (older : Tree) : Type 0 where
  new : IsNew older entry.header
  under : is_some entry.block ≡ true → is_kept older entry.header.prev ≡ true
  clean : is_some entry.block ≡ true → is_marked older entry.header.prev ≡ false
  bare : entry.marked ≡ true → entry.block ≡ None
  own : IfSome entry.block (λ block. block.header ≡ entry.header)
  rules : IfSome entry.block MeetsBlockRules
  sound : IfSome entry.block IsSoundBlock

-- a kept block isn't marked at once
fit_unmarked : (entry : Entry) (older : Tree) → IsFit entry older → is_some entry.block ≡ true → entry.marked ≡ false
fit_unmarked entry older is kept =
    elim (cases_Bool entry.marked) [
      | inl marked ↦ absurd (bare_unkept entry.block (is.bare marked) kept)
      | inr clean ↦ clean
    ]

-- one entry more
reached_more : (entry : Entry) (older : Tree) → IsReached older → IsFit entry older → IsReached (entry ∷ older)
reached_more entry older is fit =
    let prev = entry.header.prev in
    let planted : IsPlanted entry older = record { parent = fit.new.parent; once = fit.new.once; under = fit.under; own = fit.own; rules = fit.rules; sound = fit.sound } in
    let behind : (first : Hash256) (fault : Fault) → IsStop older first fault → is_marked older first ≡ is_marked (entry ∷ older) first =
    λ first fault at. sym (marked_behind entry older first (kept_apart entry older first planted at.kept)) in
    record {
      planted = (planted, is.planted);
      marks = λ hash marked. elim (cases_Bool (same hash (block_hash entry.header))) [
        | inl own ↦ ap is_ok (spent_own entry older hash own) ∙ bare_err entry (unspent_after older prev) (fit.bare (sym (marked_own entry older hash own) ∙ marked))
        | inr other ↦ ap is_ok (spent_behind entry older hash other) ∙ is.marks hash (sym (marked_behind entry older hash other) ∙ marked)
      ];
      stops = λ hash first fault kept e. elim (cases_Bool (same hash (block_hash entry.header))) [
        | inl own ↦
            let there = sym (kept_own entry older hash own) ∙ kept in
            elim (stop_here entry (unspent_after older prev) first fault (sym (spent_own entry older hash own) ∙ e)) [
              | inl below ↦
                  marked_own entry older hash own ∙ fit_unmarked entry older fit there ∙ sym (fit.clean there) ∙ is.stops prev first fault (fit.under there) below
                  ∙ behind first fault (stop_is older prev first fault is.planted (fit.under there) below)
              | inr fails ↦ ap (is_marked (entry ∷ older)) (same-true hash (block_hash entry.header) own ∙ sym fails.here)
            ]
        | inr other ↦
            let there = sym (kept_behind entry older hash other) ∙ kept in
            let before = sym (spent_behind entry older hash other) ∙ e in
            marked_behind entry older hash other ∙ is.stops hash first fault there before ∙ behind first fault (stop_is older hash first fault is.planted there before)
      ];
    }

-- ---- marks

planted_as : (b : Bool) (entry : Entry) (older newer : Tree) → IsPlanted entry older → ((h : Hash256) → is_known newer h ≡ is_known older h) → ((h : Hash256) → is_kept newer h ≡ is_kept older h) → IsPlanted (with_mark b entry) newer
planted_as true entry older newer is known kept =
    record { parent = known entry.header.prev ∙ is.parent; once = kept (block_hash entry.header) ∙ is.once; under = λ there. kept entry.header.prev ∙ is.under there; own = is.own; rules = is.rules; sound = is.sound }
planted_as false entry older newer is known kept =
    record { parent = known entry.header.prev ∙ is.parent; once = kept (block_hash entry.header) ∙ is.once; under = λ there. kept entry.header.prev ∙ is.under there; own = is.own; rules = is.rules; sound = is.sound }

planted_marked : (first : Hash256) (tree : Tree) → ArePlanted tree → ArePlanted (marked_above first tree)
planted_marked first [] are = tt
planted_marked first (entry ∷ older) are =
    (planted_as (marks first entry older) entry older (marked_above first older) are.0 (marks_keep_known first older) (marks_keep_kept first older), planted_marked first older are.1)

-- an entry that was marked before, or now
mark_cases : (b : Bool) (entry : Entry) → (with_mark b entry).marked ≡ true → (entry.marked ≡ true) ⊎ (b ≡ true)
mark_cases true entry e = inr refl
mark_cases false entry e = inl e

-- A block and all kept blocks above it are marked: the entry of a hash, and those behind it.
now_own : (first : Hash256) (entry : Entry) (older : Tree) (hash : Hash256) → same hash (block_hash entry.header) ≡ true → is_marked (marked_above first (entry ∷ older)) hash ≡ (with_mark (marks first entry older) entry).marked
now_own first entry older hash is =
    let b = marks first entry older in
    marked_own (with_mark b entry) (marked_above first older) hash (ap (λ (header : Header). same hash (block_hash header)) (mark_header b entry) ∙ is)

now_behind : (first : Hash256) (entry : Entry) (older : Tree) (hash : Hash256) → same hash (block_hash entry.header) ≡ false → is_marked (marked_above first (entry ∷ older)) hash ≡ is_marked (marked_above first older) hash
now_behind first entry older hash isnt =
    let b = marks first entry older in
    marked_behind (with_mark b entry) (marked_above first older) hash (ap (λ (header : Header). same hash (block_hash header)) (mark_header b entry) ∙ isnt)

-- what is marked was marked before, or is kept and leads through the first
pub marked_then : (first : Hash256) (tree : Tree) (hash : Hash256) → is_marked (marked_above first tree) hash ≡ true → (is_marked tree hash ≡ true) ⊎ ((is_kept tree hash ≡ true) × (leads_through tree first hash ≡ true))
marked_then first [] hash marked = inl marked
marked_then first (entry ∷ older) hash marked =
    elim (cases_Bool (same hash (block_hash entry.header))) [
      | inl is ↦
          elim (mark_cases (marks first entry older) entry (sym (now_own first entry older hash is) ∙ marked)) [
            | inl before ↦ inl (marked_own entry older hash is ∙ before)
            | inr leads ↦
                let both = and_parts (is_some entry.block) (leads_through (entry ∷ older) first (block_hash entry.header)) leads in
                inr (kept_own entry older hash is ∙ both.0, ap (leads_through (entry ∷ older) first) (same-true hash (block_hash entry.header) is) ∙ both.1)
          ]
      | inr isnt ↦
          elim (marked_then first older hash (sym (now_behind first entry older hash isnt) ∙ marked)) [
            | inl before ↦ inl (marked_behind entry older hash isnt ∙ before)
            | inr leads ↦ inr (kept_behind entry older hash isnt ∙ leads.0, leads_behind entry older first hash isnt ∙ leads.1)
          ]
    ]

one_stop : (r : Result Unspent Stop) (first other : Hash256) (fault again : Fault) → r ≡ Err (faulty first fault) → r ≡ Err (faulty other again) → other ≡ first
one_stop r first other fault again e f = let one : Err (faulty other again) ≡ Err (faulty first fault) = sym f ∙ e in cc

-- What leads through a block leads through that block's stop, or neither does: for both the path stops at the same block.
alike : (tree : Tree) (hash first other : Hash256) (fault again : Fault) → ArePlanted tree → IsStop tree first fault → IsStop tree other again → is_kept tree hash ≡ true
    → unspent_after tree hash ≡ Err (faulty other again) → leads_through tree first hash ≡ leads_through tree first other
alike tree hash first other fault again are at there kept e =
    elim (cases_Bool (leads_through tree first hash)) [
      | inl leads ↦
          let one : other ≡ first = one_stop (unspent_after tree hash) first other fault again (leads_stop tree first hash (faulty first fault) are at.at kept leads) e in
          let own : leads_through tree first first ≡ true = stop_leads tree first first fault are at.kept at.at in
          leads ∙ sym own ∙ ap (leads_through tree first) (sym one)
      | inr apart ↦
          elim (cases_Bool (leads_through tree first other)) [
            | inl leads ↦
                let one : other ≡ first = one_stop (unspent_after tree other) first other fault again (leads_stop tree first other (faulty first fault) are at.at there.kept leads) there.at in
                let through : leads_through tree first hash ≡ true = ap (λ (h : Hash256). leads_through tree h hash) (sym one) ∙ stop_leads tree hash other again are kept e in
                absurd (false≢true (sym apart ∙ through))
            | inr also ↦ apart ∙ sym also
          ]
    ]

reached_marked : (tree : Tree) (first : Hash256) (fault : Fault) → IsStop tree first fault → IsReached tree → IsReached (marked_above first tree)
reached_marked tree first fault at is =
    record {
      planted = planted_marked first tree is.planted;
      marks = λ hash marked.
          ap is_ok (marks_keep_unspent first tree hash)
          ∙ elim (marked_then first tree hash marked) [
            | inl before ↦ is.marks hash before
            | inr leads ↦ ap is_ok (leads_stop tree first hash (faulty first fault) is.planted at.at leads.0 leads.1)
          ];
      stops = λ hash other again kept e.
          let was : unspent_after tree hash ≡ Err (faulty other again) = sym (marks_keep_unspent first tree hash) ∙ e in
          let there : is_kept tree hash ≡ true = sym (marks_keep_kept first tree hash) ∙ kept in
          let end = stop_is tree hash other again is.planted there was in
          marked_is tree first hash there ∙ ap (λ (b : Bool). b || leads_through tree first hash) (is.stops hash other again there was)
          ∙ ap (λ (b : Bool). is_marked tree other || b) (alike tree hash first other fault again is.planted at end there was) ∙ sym (marked_is tree first other end.kept);
    }

-- ---- calls

-- a header alone
bare_fit : (header : Header) (marked : Bool) (old : Tree) → IsNew old header → IsFit (record { header = header; block = None; marked = marked }) old
bare_fit header marked old new =
    record { new = new; under = λ there. absurd (false≢true there); clean = λ there. absurd (false≢true there); bare = λ _. refl; own = tt; rules = tt; sound = tt }

reached_settled : (old new : Tree) (hash : Hash256) (r : Result Unspent Stop) → unspent_after new hash ≡ r → is_kept new hash ≡ true → IsReached new → IsReached (settled old new r).1
reached_settled old new hash (Ok u) e kept is = is
reached_settled old new hash (Err (faulty first fault)) e kept is = reached_marked new first fault (stop_is new hash first fault is.planted kept e) is
reached_settled old new hash (Err (missing lacking)) e kept is = is

reached_joined : (old : Tree) (block : Block) → block_fault old block.header ≡ None → MeetsBlockRules block → IsSoundBlock block → IsReached old → IsReached (joined old block).1
reached_joined old block none rules sound is =
    let new = block_entry block ∷ old in
    let hash = block_hash block.header in
    let free = block_free old block.header none in
    let fit : IsFit (block_entry block) old =
    record { new = block_new old block.header none; under = λ _. free.under; clean = λ _. free.marks; bare = λ marked. absurd (false≢true marked); own = refl; rules = rules; sound = sound } in
    let more : IsReached new = reached_more (block_entry block) old is fit in
    let kept : is_kept new hash ≡ true = rw (same-refl hash) refl in
    elim (cases_Bool (is_higher new hash (best old))) [
      | inl above ↦ rw above (reached_settled old new hash (unspent_after new hash) refl kept more)
      | inr low ↦ rw low more
    ]

reached_header : (old : Tree) (header : Header) (answer : Option Fault) (new : Tree) → AcceptsHeader old header answer new → IsReached old → IsReached new
reached_header old header answer new (AcceptsHeader.without_work _ _ e) is = subst IsReached (sym e) is
reached_header old header answer new (AcceptsHeader.refused _ _ _ _ e) is = subst IsReached (sym e) is
reached_header old header answer new (AcceptsHeader.kept _ none _ e) is =
    subst IsReached (sym e) (reached_more (header_entry header) old is (bare_fit header false old (header_new old header none)))

reached_block : (old : Tree) (block : Block) (answer : Result Change Fault) (new : Tree) → IsSoundBlock block → AcceptsBlock old block answer new → IsReached old → IsReached new
reached_block old block answer new sound (AcceptsBlock.without_work _ _ e) is = subst IsReached (sym e) is
reached_block old block answer new sound (AcceptsBlock.refused _ _ _ _ e) is = subst IsReached (sym e) is
reached_block old block answer new sound (AcceptsBlock.breaks_rule _ none _ _ _ e) is =
    subst IsReached (sym e) (reached_more (bad_entry block.header) old is (bare_fit block.header true old (block_new old block.header none)))
reached_block old block answer new sound (AcceptsBlock.meets_rules _ none rules e) is =
    subst IsReached (sym (ap (λ (both : Result Change Fault × Tree). both.1) e)) (reached_joined old block none rules sound is)

reached_step : (old : Tree) (call : Call) (new : Tree) → IsStep old call new → IsReached old → IsReached new
reached_step old (HeaderCall header) new step is = reached_header old header step.0 new step.1 is
reached_step old (BlockCall block) new step is = reached_block old block step.1 new step.0 step.2 is

pub reached : (calls : List Call) (tree : Tree) → IsHistory calls tree → IsReached tree
reached [] tree h = subst IsReached (sym h) reached_first
reached (call ∷ calls) tree h = reached_step h.0 call tree h.2 (reached calls h.0 h.1)

pub planted_after : (tree : Tree) → IsHistoric tree → ArePlanted tree
planted_after tree is = (reached is.0 tree is.1).planted

-- ---- what can't be spent

err_of : (r : Result Unspent Stop) → is_ok r ≡ false → IsErr r
err_of (Ok u) bad = absurd (false≢true (sym bad))
err_of (Err stop) bad = refl

pub marked_err : (tree : Tree) (hash : Hash256) → IsHistoric tree → is_marked tree hash ≡ true → IsErr (unspent_after tree hash)
marked_err tree hash is marked = err_of (unspent_after tree hash) ((reached is.0 tree is.1).marks hash marked)

pub unkept_err : (tree : Tree) (hash : Hash256) → is_kept tree hash ≡ false → IsErr (unspent_after tree hash)
unkept_err tree hash unkept = err_of (unspent_after tree hash) (unkept_bad tree hash unkept)

pub marked_stop : (tree : Tree) (hash first : Hash256) (fault : Fault) → IsHistoric tree → is_kept tree hash ≡ true → unspent_after tree hash ≡ Err (faulty first fault)
    → is_marked tree hash ≡ is_marked tree first
marked_stop tree hash first fault is kept e = (reached is.0 tree is.1).stops hash first fault kept e

pub nothing_missing : (tree : Tree) (hash lacking : Hash256) → IsHistoric tree → is_kept tree hash ≡ true → unspent_after tree hash ≡ Err (missing lacking) → ⊥
nothing_missing tree hash lacking is kept e = none_missing tree hash lacking (planted_after tree is) kept e
