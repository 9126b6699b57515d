-- A new chain, and the tip among the active blocks.
use Rattle.std.proofs.Common.{◌≡◌, ℕ, zero, suc, ◌+◌, ◌-◌, ◌<◌, Bool, true, false, cond, List, [], ◌∷◌, ◌++◌, length, map, get_or, Some, None, Option, refl, sym, ap, subst, ◌∙◌, arith, inl, inr, length-append}
use Rattle.std.specs.Prelude.{reverse, is_ok, slice_get, unwrap_or, ◌&&◌}
use Rattle.std.specs.FinMap as finite
use Rattle.std.proofs.lemmas.Bool.{cases_Bool}
use Rattle.std.proofs.lemmas.List.{get_or_push, map-append}
use Rattle.std.specs.List.{All}
use Rattle.std.proofs.lemmas.List.Elements.{All-nil, All-cons, All-append, All-map}
use Rattle.cb_base.specs.declared.hash.Hash256.{Hash256}
use Rattle.cb_ledger.specs.declared.undo.CoinChange.{CoinChange}
use Rattle.cb_ledger.specs.Unspent.{Unspent}
use Rattle.cb_chain.specs.Entries.{Entry, Tree, block_hash, genesis_hash, height_of, same}
use Rattle.cb_chain.specs.Best.{best, is_higher, unspent_after}
use Rattle.cb_chain.specs.Keeping.{IsTree, Step, active_places, climb, place_of, tree_of, way}
use Rattle.cb_chain.specs.SideBranches.{IsChain, record_at}
use Rattle.cb_chain.specs.Marking.{BlockIndex}
use Rattle.cb_chain.proofs.BlockIndexes.{same-refl, chosen, found, length_tree, reverse_cons}

-- ---- a new chain

no_record : (place : ℕ) (changes : List CoinChange) → record_at (None ∷ []) place ≡ Some changes → ⊥
no_record zero changes has = let none : None ≡ Some changes = has in cc
no_record (suc place) changes has = let none : None ≡ Some changes = has in cc

-- of the first block alone
alone : IsChain [] (0 ∷ []) (None ∷ []) finite.empty None
unfolding best unspent_after way
alone =
    let own = same-refl genesis_hash in
    record {
      places = refl;
      ledger = rw own refl;
      undos_are = record { long = refl; each = λ hash place changes at has. absurd (no_record place changes has) };
      tip = record { place = 0; at = rw own refl; kept = rw own refl; has = inl refl };
      side_branch_is = tt;
    }

pub chain_first : (tree : Tree) (path : List ℕ) (undos : List (Option (List CoinChange))) (unspent : Unspent) → tree ≡ [] → path ≡ 0 ∷ [] → undos ≡ None ∷ [] → unspent ≡ finite.empty → IsChain tree path undos unspent None
chain_first tree path undos unspent bare first unnoted nothing = rw (bare, first, unnoted, nothing) alone

-- ---- the tip is known

some_either : (b : Bool) (x : ℕ) (o : Option ℕ) (p : ℕ) → o ≡ Some p → (q : ℕ) × (cond b (Some x) o ≡ Some q)
some_either true x o p e = (x, refl)
some_either false x o p e = (p, e)

known_step : (entry : Entry) (older : Tree) (b : Bool) → (p : ℕ) × (place_of older (best older) ≡ Some p) → (q : ℕ) × (place_of (entry ∷ older) (cond b (block_hash entry.header) (best older)) ≡ Some q)
known_step entry older true below = (suc (length older), rw (same-refl (block_hash entry.header)) refl)
known_step entry older false below = some_either (same (best older) (block_hash entry.header)) (suc (length older)) (place_of older (best older)) below.0 below.1

pub known_best : (tree : Tree) → (p : ℕ) × (place_of tree (best tree) ≡ Some p)
unfolding best
known_best [] = (0, rw (same-refl genesis_hash) refl)
known_best (entry ∷ older) =
    known_step entry older (is_ok (unspent_after (entry ∷ older) (block_hash entry.header)) && is_higher (entry ∷ older) (block_hash entry.header) (best older)) (known_best older)

-- ---- the last of the active places is the tip's

-- the places of a way from the first block's on end with its own
places_end : (tree : Tree) (hash : Hash256) (p : ℕ) → place_of tree hash ≡ Some p → (front : List ℕ) × (0 ∷ map (λ step. step.place) (climb tree hash) ≡ front ++ p ∷ [])
unfolding way
places_end [] hash p e =
    elim (chosen (same hash genesis_hash) 0 None p e) [
      | inl w ↦ ([], ap (λ (q : ℕ). q ∷ []) w.1)
      | inr w ↦ absurd (let none : None ≡ Some p = w.1 in cc)
    ]
places_end (entry ∷ older) hash p e =
    elim (chosen (same hash (block_hash entry.header)) (suc (length older)) (place_of older hash) p e) [
      | inl w ↦
          let step : Step = record { place = suc (length older); entry = entry } in
          let below = climb older entry.header.prev in
          let whole : climb (entry ∷ older) hash ≡ below ++ step ∷ [] = rw w.0 (reverse_cons (way older entry.header.prev) step) in
          (0 ∷ map (λ step. step.place) below, ap (λ (steps : List Step). 0 ∷ map (λ step. step.place) steps) whole ∙ ap (◌∷◌ 0) (map-append (λ step. step.place) below (step ∷ [])) ∙ ap (λ (q : ℕ). 0 ∷ map (λ step. step.place) below ++ q ∷ []) w.1)
      | inr w ↦ let r = places_end older hash p w.1 in (r.0, rw w.0 r.1)
    ]

pub record IsTip (tree : Tree) (path : List ℕ) : Type 0 where
  pub place : ℕ
  pub known : place_of tree (best tree) ≡ Some place
  pub some : 0 < length path
  pub last : (d : ℕ) → get_or path (length path - 1) d ≡ place

pub tip_last : (tree : Tree) (path : List ℕ) → path ≡ active_places tree → IsTip tree path
tip_last tree path is =
    let known = known_best tree in
    let down = places_end tree (best tree) known.0 known.1 in
    let ends : path ≡ down.0 ++ known.0 ∷ [] = is ∙ down.1 in
    let long : length path ≡ length down.0 + 1 = ap length ends ∙ length-append down.0 (known.0 ∷ []) in
    record {
      place = known.0;
      known = known.1;
      some = omega (arith, long);
      last = λ d. ap (λ (xs : List ℕ). get_or xs (length path - 1) d) ends ∙ get_or_push down.0 known.0 d (length path - 1) (omega (arith, long));
    }

-- ---- the places of a way are places among the block indexes

abbrev Low : ℕ → Step → Type 0
Low n step = step.place < n

way_low : (tree : Tree) (hash : Hash256) (n : ℕ) → length tree < n → All (Low n) (way tree hash)
unfolding way
way_low [] hash n lt = All-nil (Low n)
way_low (entry ∷ older) hash n lt =
    let fewer : length older < n = omega (arith, lt) in
    elim (cases_Bool (same hash (block_hash entry.header))) [
      | inl is ↦ rw is (All-cons (Low n) (record { place = suc (length older); entry = entry }) (way older entry.header.prev) lt (way_low older entry.header.prev n fewer))
      | inr isnt ↦ rw isnt (way_low older hash n fewer)
    ]

low_back : (n : ℕ) (steps : List Step) → All (Low n) steps → All (Low n) (reverse steps)
low_back n [] all = all
low_back n (step ∷ steps) all =
    let here : step.place < n = all 0 step (omega arith) in
    let others : All (Low n) steps = λ k d lt. all (suc k) d (omega (arith, lt)) in
    rw (reverse_cons steps step) (All-append (Low n) (reverse steps) (step ∷ []) (low_back n steps others) (All-cons (Low n) step [] here (All-nil (Low n))))

-- all active places are
pub active_low : (block_indexes : List BlockIndex) → IsTree block_indexes → All (λ p. p < length block_indexes) (active_places (tree_of block_indexes))
active_low block_indexes is =
    let n = length block_indexes in
    let tree = tree_of block_indexes in
    let long : length block_indexes ≡ suc (length tree) = length_tree block_indexes is in
    let steps = low_back n (way tree (best tree)) (way_low tree (best tree) n (omega (arith, long))) in
    All-cons (λ p. p < n) 0 (map (λ step. step.place) (climb tree (best tree))) (omega (arith, long)) (All-map (λ p. p < n) (λ (step : Step). step.place) (climb tree (best tree)) steps)

pub low_at : (block_indexes : List BlockIndex) (path : List ℕ) (i p : ℕ) → path ≡ active_places (tree_of block_indexes) → i < length path → p ≡ get_or path i p → IsTree block_indexes → p < length block_indexes
low_at block_indexes path i p places lt at is =
    let low : All (λ q. q < length block_indexes) path = subst (All (λ q. q < length block_indexes)) (sym places) (active_low block_indexes is) in
    let there : get_or path i p < length block_indexes = low i p lt in
    omega (arith, there, at)

-- ---- the tip's block index

pub record IsTipIndex (tree : Tree) (block_index : BlockIndex) : Type 0 where
  pub hash : block_index.hash ≡ best tree
  pub height : height_of tree (best tree) ≡ Some block_index.height

pub tip_index : (block_indexes : List BlockIndex) (path : List ℕ) (i p : ℕ) (block_index : BlockIndex) → path ≡ active_places (tree_of block_indexes) → i ≡ length path - 1 → p ≡ get_or path i p → slice_get block_indexes p ≡ Some block_index → IsTree block_indexes
    → IsTipIndex (tree_of block_indexes) block_index
tip_index block_indexes path i p block_index places end at there is =
    let tree = tree_of block_indexes in
    let tip = tip_last tree path places in
    let last : p ≡ tip.place = at ∙ ap (λ (j : ℕ). get_or path j p) end ∙ tip.last p in
    let one = found block_indexes (best tree) tip.place is tip.known in
    let same_index : one.block_index ≡ block_index = ap (λ (o : Option BlockIndex). unwrap_or o block_index) (sym one.at ∙ ap (slice_get block_indexes) (sym last) ∙ there) in
    record {
      hash = ap (λ (n : BlockIndex). n.hash) (sym same_index) ∙ one.name;
      height = one.height ∙ ap (λ (n : BlockIndex). Some n.height) same_index;
    }
