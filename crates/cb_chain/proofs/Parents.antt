-- A kept block index and its parent: where the parent stands, and what is unspent after both.
use Rattle.std.proofs.Common.{◌≡◌, ℕ, zero, suc, ◌<◌, Bool, true, false, cond, List, [], ◌∷◌, length, map, Some, None, refl, sym, ap, subst, ◌∙◌, arith, inl, inr}
use Rattle.std.specs.Prelude.{is_some, nat_eq, reverse, slice_get}
use Rattle.std.proofs.lemmas.Bool.{cases_Bool}
use Rattle.std.proofs.lemmas.List.{length-map, reverse-reverse}
use Rattle.std.proofs.lemmas.Option.{same_Some}
use Rattle.cb_base.specs.declared.hash.Hash256.{Hash256}
use Rattle.cb_chain.specs.Marking.{BlockIndex}
use Rattle.cb_chain.specs.Best.{then_spend, unspent_after}
use Rattle.cb_chain.specs.Entries.{Entry, Tree, block_hash, is_kept, same}
use Rattle.cb_chain.specs.Keeping.{AreIndexes, IsIndex, IsTree, entry_from, place_of, tree_of}
use Rattle.cb_chain.proofs.SideBranchIndexes.{kept_other, unspent_own}
use Rattle.cb_chain.proofs.Places.{eq_true, index_snoc, place_low}
use Rattle.cb_chain.proofs.BlockIndexes.{same-refl}

-- ---- one entry more, whose block wasn't kept before

module _ (entry : Entry) (older : Tree) (once : is_kept older (block_hash entry.header) ≡ false) where
  pub other : (hash : Hash256) → is_kept older hash ≡ true → same hash (block_hash entry.header) ≡ false
  other hash kept = kept_other older hash (block_hash entry.header) kept once

  pub kept_more : (hash : Hash256) → is_kept older hash ≡ true → is_kept (entry ∷ older) hash ≡ true
  kept_more hash kept = rw (other hash kept) kept

  pub place_more : (hash : Hash256) → is_kept older hash ≡ true → place_of (entry ∷ older) hash ≡ place_of older hash
  place_more hash kept = rw (other hash kept) refl

  pub spent_more : (hash : Hash256) → is_kept older hash ≡ true → unspent_after (entry ∷ older) hash ≡ unspent_after older hash
  unfolding unspent_after
  spent_more hash kept = rw (other hash kept) refl

-- ---- a kept block index

pub record HasParent (tree : Tree) (place : ℕ) (block_index : BlockIndex) : Type 0 where
  pub kept : is_kept tree block_index.hash ≡ true
  pub parent_at : place_of tree block_index.header.prev ≡ Some block_index.parent
  pub parent_kept : is_kept tree block_index.header.prev ≡ true
  pub low : block_index.parent < place
  pub spent : unspent_after tree block_index.hash ≡ then_spend (entry_from block_index) (unspent_after tree block_index.header.prev)

parent_more : (entry : Entry) (older : Tree) (place : ℕ) (block_index : BlockIndex) → is_kept older (block_hash entry.header) ≡ false → HasParent older place block_index → HasParent (entry ∷ older) place block_index
parent_more entry older place block_index once is =
    record {
      kept = kept_more entry older once block_index.hash is.kept;
      parent_at = place_more entry older once block_index.header.prev is.parent_kept ∙ is.parent_at;
      parent_kept = kept_more entry older once block_index.header.prev is.parent_kept;
      low = is.low;
      spent = spent_more entry older once block_index.hash is.kept ∙ is.spent ∙ ap (then_spend (entry_from block_index)) (sym (spent_more entry older once block_index.header.prev is.parent_kept));
    }

parent_top : (block_index : BlockIndex) (older : Tree) → IsIndex block_index older → is_some block_index.kept ≡ true → HasParent (entry_from block_index ∷ older) (suc (length older)) block_index
parent_top block_index older is kept =
    let entry = entry_from block_index in
    let prev = block_index.header.prev in
    let once : is_kept older (block_hash block_index.header) ≡ false = subst (λ (h : Hash256). is_kept older h ≡ false) is.hash is.once in
    let under = is.under kept in
    record {
      kept = subst (λ (h : Hash256). is_kept (entry ∷ older) h ≡ true) (sym is.hash) (rw (same-refl (block_hash block_index.header)) kept);
      parent_at = place_more entry older once prev under ∙ is.parent;
      parent_kept = kept_more entry older once prev under;
      low = place_low older prev block_index.parent is.parent;
      spent = ap (unspent_after (entry ∷ older)) is.hash ∙ unspent_own entry older ∙ ap (then_spend entry) (sym (spent_more entry older once prev under));
    }

pub named_once : (block_index : BlockIndex) (older : Tree) → IsIndex block_index older → is_kept older (block_hash block_index.header) ≡ false
named_once block_index older is = subst (λ (h : Hash256). is_kept older h ≡ false) is.hash is.once

parent_above : (first : BlockIndex) (above : List BlockIndex) (place : ℕ) (block_index : BlockIndex) → AreIndexes above → slice_get (first ∷ reverse above) place ≡ Some block_index → 0 < place → is_some block_index.kept ≡ true
    → HasParent (map entry_from above) place block_index
parent_above first [] zero block_index are at some kept = absurd (omega (arith, some))
parent_above first [] (suc place) block_index are at some kept = absurd (let none : None ≡ Some block_index = at in cc)
parent_above first (top ∷ older) place block_index are at some kept =
    let tree = map entry_from older in
    let here : cond (nat_eq place (suc (length older))) (Some top) (slice_get (first ∷ reverse older) place) ≡ Some block_index = sym (index_snoc first top older place) ∙ at in
    elim (cases_Bool (nat_eq place (suc (length older)))) [
      | inl is ↦
          let one : top ≡ block_index = same_Some top block_index (sym (ap (λ (b : Bool). cond b (Some top) (slice_get (first ∷ reverse older) place)) is) ∙ here) in
          let there : HasParent (entry_from top ∷ tree) (suc (length tree)) top = parent_top top tree are.0 (ap (λ (n : BlockIndex). is_some n.kept) one ∙ kept) in
          let long : suc (length tree) ≡ place = ap suc (length-map older entry_from) ∙ sym (eq_true place (suc (length older)) is) in
          subst (λ (p : ℕ). HasParent (entry_from top ∷ tree) p block_index) long (subst (λ (n : BlockIndex). HasParent (entry_from top ∷ tree) (suc (length tree)) n) one there)
      | inr isnt ↦
          let before : slice_get (first ∷ reverse older) place ≡ Some block_index = sym (ap (λ (b : Bool). cond b (Some top) (slice_get (first ∷ reverse older) place)) isnt) ∙ here in
          parent_more (entry_from top) tree place block_index (named_once top tree are.0) (parent_above first older place block_index are.1 before some kept)
    ]

pub has_parent : (block_indexes : List BlockIndex) (place : ℕ) (block_index : BlockIndex) → IsTree block_indexes → slice_get block_indexes place ≡ Some block_index → 0 < place → is_some block_index.kept ≡ true → HasParent (tree_of block_indexes) place block_index
has_parent [] place block_index is at some kept = absurd is
has_parent (first ∷ others) place block_index is at some kept =
    parent_above first (reverse others) place block_index is.1 (subst (λ (ns : List BlockIndex). slice_get (first ∷ ns) place ≡ Some block_index) (sym (reverse-reverse others)) at) some kept
