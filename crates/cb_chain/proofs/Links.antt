-- How the kept blocks on each block index are linked, as block indexes come and are marked.
use Rattle.std.proofs.Common.{◌≡◌, ℕ, zero, suc, ◌+◌, ◌<◌, Bool, true, false, cond, List, [], ◌∷◌, ◌++◌, length, length-append, append_assoc, get_or, map, refl, sym, ap, subst, ◌∙◌, arith, inl, inr}
use Rattle.std.specs.Prelude.{◌&&◌, is_some, nat_eq, reverse}
use Rattle.std.proofs.lemmas.Bool.{cases_Bool, false≢true}
use Rattle.std.proofs.lemmas.List.{append-nil, get_or-set_other, get_or-set_same, length-reverse, length-set, reverse-reverse}
use Rattle.std.proofs.Math.ListN.{get_or-append, set}
use Rattle.std.proofs.Math.Seq.{get_or-append_seam}
use Rattle.cb_base.specs.declared.hash.Hash256.{Hash256}
use Rattle.cb_chain.specs.Marking.{BlockIndex}
use Rattle.cb_chain.specs.Entries.{block_hash}
use Rattle.cb_chain.specs.Best.{leads_through}
use Rattle.cb_chain.specs.Keeping.{AreLinked, AreLinks, IsTree, above_at, above_first, entry_from, mark_indexes, marked_indexes}
use Rattle.cb_chain.proofs.Marks.{length_marked, length_marks, marked_as}
use Rattle.cb_chain.proofs.BlockIndexes.{reverse_push}
use Rattle.cb_chain.proofs.Places.{eq_same, eq_true}

zero_more : (xs : List ℕ) (p : ℕ) → get_or (xs ++ 0 ∷ []) p 0 ≡ get_or xs p 0
zero_more [] zero = refl
zero_more [] (suc p) = refl
zero_more (x ∷ xs) zero = refl
zero_more (x ∷ xs) (suc p) = zero_more xs p

linked_more : (elder : List ℕ) (e newest : ℕ) (places : List ℕ) → AreLinked elder newest places → AreLinked (elder ++ e ∷ []) newest places
linked_more elder e newest [] are = are
linked_more elder e newest (place ∷ places) are = (
  are.0,
  are.1,
  omega (arith, are.2, length-append elder (e ∷ [])),
  subst (λ (n : ℕ). AreLinked (elder ++ e ∷ []) n places) (sym (get_or-append elder (e ∷ []) 0 place are.2)) (linked_more elder e (get_or elder place 0) places are.3),
)

-- ---- those on one parent, as they are pushed

-- one more is pushed
pub linked_step : (elder found old places rest : List ℕ) (place : ℕ) → AreLinked elder place rest → found ++ rest ≡ old ++ places → 0 < place
    → (more : List ℕ) × AreLinked elder (get_or elder place 0) more × ((found ++ place ∷ []) ++ more ≡ old ++ places) × (place < length elder) × (length found < length old + length places)
linked_step elder found old places [] place are split some = absurd (omega (arith, are, some))
linked_step elder found old places (x ∷ xs) place are split some =
    let long : length found + suc (length xs) ≡ length old + length places = sym (length-append found (x ∷ xs)) ∙ ap length split ∙ length-append old places in (
      xs,
      subst (λ (p : ℕ). AreLinked elder (get_or elder p 0) xs) (sym are.0) are.3,
      append_assoc found (place ∷ []) xs ∙ ap (λ (p : ℕ). found ++ p ∷ xs) are.0 ∙ split,
      subst (λ (p : ℕ). p < length elder) (sym are.0) are.2,
      omega (arith, long),
    )

-- all are
pub linked_end : (elder found old places rest : List ℕ) (place : ℕ) → AreLinked elder place rest → found ++ rest ≡ old ++ places → place ≡ 0 → found ≡ old ++ places
linked_end elder found old places [] place are split none = sym (append-nil found) ∙ split
linked_end elder found old places (x ∷ xs) place are split none = absurd (omega (arith, are.0, are.1, none))

-- the first block index alone
pub links_first : (first : BlockIndex) → AreLinks (first ∷ []) (0 ∷ []) (0 ∷ [])
links_first first = record { newest_long = refl; elder_long = refl; each = λ place. zero_more [] place }

-- ---- a block index more

above_grown : (block_indexes : List BlockIndex) (block_index : BlockIndex) → IsTree block_indexes → above_first (block_indexes ++ block_index ∷ []) ≡ block_index ∷ above_first block_indexes
above_grown [] block_index is = absurd is
above_grown (first ∷ others) block_index is = reverse_push others block_index

pub above_long : (block_indexes : List BlockIndex) → IsTree block_indexes → suc (length (above_first block_indexes)) ≡ length block_indexes
above_long [] is = absurd is
above_long (first ∷ others) is = ap suc (length-reverse others)

-- a header
pub links_header : (block_indexes : List BlockIndex) (newest elder : List ℕ) (block_index : BlockIndex) → IsTree block_indexes → AreLinks block_indexes newest elder → is_some block_index.kept ≡ false → AreLinks (block_indexes ++ block_index ∷ []) (newest ++ 0 ∷ []) (elder ++ 0 ∷ [])
links_header block_indexes newest elder block_index is are unkept =
    record {
      newest_long = length-append newest (0 ∷ []) ∙ ap (λ (n : ℕ). n + 1) are.newest_long ∙ sym (length-append block_indexes (block_index ∷ []));
      elder_long = length-append elder (0 ∷ []) ∙ ap (λ (n : ℕ). n + 1) are.elder_long ∙ sym (length-append block_indexes (block_index ∷ []));
      each = λ place. rw (above_grown block_indexes block_index is, unkept, zero_more newest place) (linked_more elder 0 (get_or newest place 0) (above_at (above_first block_indexes) place) (are.each place));
    }

-- a block, now the newest on its parent
pub links_block : (block_indexes : List BlockIndex) (newest elder : List ℕ) (block_index : BlockIndex) → IsTree block_indexes → AreLinks block_indexes newest elder → is_some block_index.kept ≡ true → block_index.parent < length newest
    → AreLinks (block_indexes ++ block_index ∷ []) (set newest block_index.parent (length block_indexes) ++ 0 ∷ []) (elder ++ get_or newest block_index.parent 0 ∷ [])
links_block block_indexes newest elder block_index is are kept low =
    let q = block_index.parent in
    let above = above_first block_indexes in
    let before = get_or newest q 0 in
    let now = set newest q (length block_indexes) in
    let older = elder ++ before ∷ [] in
    let long : length older ≡ length elder + 1 = length-append elder (before ∷ []) in
    let here : suc (length above) ≡ length block_indexes = above_long block_indexes is in
    let seam : get_or older (suc (length above)) 0 ≡ before = ap (λ (n : ℕ). get_or older n 0) (here ∙ sym are.elder_long) ∙ get_or-append_seam elder before [] 0 in
    let rest : AreLinked older (get_or older (suc (length above)) 0) (above_at above q) = subst (λ (n : ℕ). AreLinked older n (above_at above q)) (sym seam) (linked_more elder before before (above_at above q) (are.each q)) in
    let within : suc (length above) < length older = omega (arith, long, here, are.elder_long) in
    let some : 0 < suc (length above) = omega arith in
    let top : get_or now q 0 ≡ suc (length above) = get_or-set_same newest q (length block_indexes) 0 low ∙ sym here in
    record {
      newest_long = length-append now (0 ∷ []) ∙ ap (λ (n : ℕ). n + 1) (length-set newest q (length block_indexes) ∙ are.newest_long) ∙ sym (length-append block_indexes (block_index ∷ []));
      elder_long = long ∙ ap (λ (n : ℕ). n + 1) are.elder_long ∙ sym (length-append block_indexes (block_index ∷ []));
      each = λ place.
          rw (above_grown block_indexes block_index is, kept, zero_more now place)
          (elim (cases_Bool (nat_eq q place)) [
            | inl w ↦
                subst (λ (p : ℕ). AreLinked older (get_or now p 0) (cond (nat_eq q p) (suc (length above) ∷ above_at above p) (above_at above p))) (eq_true q place w)
                (rw (eq_same q q refl) (top, some, within, rest))
            | inr w ↦
                rw (w, get_or-set_other newest q place (length block_indexes) 0 (λ e. false≢true (sym w ∙ eq_same q place (sym e))))
                (linked_more elder before (get_or newest place 0) (above_at above place) (are.each place))
          ]);
    }

-- ---- marks

above_step : (b : Bool) (block_index : BlockIndex) (older newer : List BlockIndex) (q : ℕ) → length newer ≡ length older → above_at newer q ≡ above_at older q → above_at (marked_as b block_index ∷ newer) q ≡ above_at (block_index ∷ older) q
above_step true block_index older newer q long like = rw (long, like) refl
above_step false block_index older newer q long like = rw (long, like) refl

above_marks : (lowest : Hash256) (above : List BlockIndex) (q : ℕ) → above_at (mark_indexes lowest above) q ≡ above_at above q
above_marks lowest [] q = refl
above_marks lowest (block_index ∷ older) q =
    let b = is_some block_index.kept && leads_through (entry_from block_index ∷ map entry_from older) lowest (block_hash block_index.header) in
    above_step b block_index older (mark_indexes lowest older) q (length_marks lowest older) (above_marks lowest older q)

pub links_marked : (lowest : Hash256) (block_indexes : List BlockIndex) (newest elder : List ℕ) → AreLinks block_indexes newest elder → AreLinks (marked_indexes lowest block_indexes) newest elder
links_marked lowest [] newest elder are = are
links_marked lowest (first ∷ others) newest elder are =
    let same = sym (length_marked lowest (first ∷ others)) in
    record {
      newest_long = are.newest_long ∙ same;
      elder_long = are.elder_long ∙ same;
      each = λ place.
          subst (AreLinked elder (get_or newest place 0))
          (sym (ap (λ (ns : List BlockIndex). above_at ns place) (reverse-reverse (mark_indexes lowest (reverse others))) ∙ above_marks lowest (reverse others) place)) (are.each place);
    }
