-- Block indexes and the marks that are stored beside them.
use Rattle.std.proofs.Common.{◌≡◌, ℕ, zero, suc, ◌+◌, ◌<◌, Bool, true, false, List, [], ◌∷◌, ◌++◌, length, get_or, map, take, drop, Some, None, refl, sym, ap, subst, ◌∙◌, arith}
use Rattle.std.specs.Prelude.{IsSome, reverse, slice_get}
use Rattle.std.proofs.lemmas.List.{length-map, reverse-reverse, take_at}
use Rattle.std.proofs.lemmas.Option.{same_Some}
use Rattle.std.proofs.Math.ListN.{set}
use Rattle.cb_base.specs.declared.hash.Hash256.{Hash256}
use Rattle.cb_chain.specs.declared.block_index.BareIndex.{BareIndex}
use Rattle.cb_chain.specs.Keeping.{AreLinks, IsMarked, IsTree, block_at, mark_indexes, marked_indexes}
use Rattle.cb_chain.specs.Marking.{BlockIndex, mark_at, marks_of, index_of, with_marks}
use Rattle.cb_chain.proofs.Marks.{marked_as}
use Rattle.cb_chain.proofs.BlockIndexes.{map_reverse}

abbrev bare_of : BlockIndex → BareIndex
bare_of block_index = record { header = block_index.header; hash = block_index.hash; height = block_index.height; parent = block_index.parent; kept = block_index.kept }

-- ---- what stands at a place

pub length_with : (bares : List BareIndex) (marks : List Bool) → length bares ≡ length marks → length (with_marks bares marks) ≡ length marks
length_with [] [] long = refl
length_with [] (marked ∷ marks) long = absurd (omega (arith, long))
length_with (bare ∷ bares) [] long = refl
length_with (bare ∷ bares) (marked ∷ marks) long = ap suc (length_with bares marks (omega (arith, long)))

pub get_with : (bares : List BareIndex) (marks : List Bool) (place : ℕ) (bare : BareIndex) → length bares ≡ length marks → slice_get bares place ≡ Some bare
    → slice_get (with_marks bares marks) place ≡ Some (index_of bare (mark_at (with_marks bares marks) place))
get_with [] marks place bare long at = absurd (let none : None ≡ Some bare = at in cc)
get_with (first ∷ bares) [] place bare long at = absurd (omega (arith, long))
get_with (first ∷ bares) (marked ∷ marks) zero bare long at = ap (λ (b : BareIndex). Some (index_of b marked)) (same_Some first bare at)
get_with (first ∷ bares) (marked ∷ marks) (suc place) bare long at = get_with bares marks place bare (omega (arith, long)) at

pub mark_with : (bares : List BareIndex) (marks : List Bool) (place : ℕ) (marked : Bool) → length bares ≡ length marks → place < length marks → marked ≡ get_or marks place marked → marked ≡ mark_at (with_marks bares marks) place
mark_with bares [] place marked long low read = absurd (omega (arith, low))
mark_with [] (first ∷ marks) place marked long low read = absurd (omega (arith, long))
mark_with (bare ∷ bares) (first ∷ marks) zero marked long low read = read
mark_with (bare ∷ bares) (first ∷ marks) (suc place) marked long low read = mark_with bares marks place marked (omega (arith, long)) (omega (arith, low)) read

pub with_more : (bares : List BareIndex) (marks : List Bool) (bare : BareIndex) (marked : Bool) → length bares ≡ length marks → with_marks (bares ++ bare ∷ []) (marks ++ marked ∷ []) ≡ with_marks bares marks ++ index_of bare marked ∷ []
with_more [] [] bare marked long = refl
with_more [] (first ∷ marks) bare marked long = absurd (omega (arith, long))
with_more (one ∷ bares) [] bare marked long = absurd (omega (arith, long))
with_more (one ∷ bares) (first ∷ marks) bare marked long = ap (λ (ns : List BlockIndex). index_of one first ∷ ns) (with_more bares marks bare marked (omega (arith, long)))

-- ---- the two lists

pub marks_with : (bares : List BareIndex) (marks : List Bool) → length bares ≡ length marks → marks_of (with_marks bares marks) ≡ marks
marks_with [] [] long = refl
marks_with [] (first ∷ marks) long = absurd (omega (arith, long))
marks_with (bare ∷ bares) [] long = absurd (omega (arith, long))
marks_with (bare ∷ bares) (first ∷ marks) long = ap (λ (ms : List Bool). first ∷ ms) (marks_with bares marks (omega (arith, long)))

bares_with : (bares : List BareIndex) (marks : List Bool) → length bares ≡ length marks → map bare_of (with_marks bares marks) ≡ bares
bares_with [] [] long = refl
bares_with [] (first ∷ marks) long = absurd (omega (arith, long))
bares_with (bare ∷ bares) [] long = absurd (omega (arith, long))
bares_with (bare ∷ bares) (first ∷ marks) long = ap (λ (bs : List BareIndex). bare ∷ bs) (bares_with bares marks (omega (arith, long)))

with_own : (block_indexes : List BlockIndex) → with_marks (map bare_of block_indexes) (marks_of block_indexes) ≡ block_indexes
with_own [] = refl
with_own (block_index ∷ block_indexes) = ap (λ (ns : List BlockIndex). block_index ∷ ns) (with_own block_indexes)

-- ---- marks

bare_as : (b : Bool) (block_index : BlockIndex) → bare_of (marked_as b block_index) ≡ bare_of block_index
bare_as true block_index = refl
bare_as false block_index = refl

bares_marks : (first : Hash256) (above : List BlockIndex) → map bare_of (mark_indexes first above) ≡ map bare_of above
bares_marks first [] = refl
bares_marks first (block_index ∷ older) = ap (λ (b : BareIndex). b ∷ map bare_of (mark_indexes first older)) (bare_as _ block_index) ∙ ap (λ (bs : List BareIndex). bare_of block_index ∷ bs) (bares_marks first older)

bares_marked : (first : Hash256) (block_indexes : List BlockIndex) → map bare_of (marked_indexes first block_indexes) ≡ map bare_of block_indexes
bares_marked first [] = refl
bares_marked first (lowest ∷ others) =
    ap (λ (bs : List BareIndex). bare_of lowest ∷ bs)
    (map_reverse bare_of (mark_indexes first (reverse others)) ∙ ap reverse (bares_marks first (reverse others)) ∙ sym (map_reverse bare_of (reverse others)) ∙ ap (map bare_of) (reverse-reverse others))

-- the marks of marked block indexes, laid over the same block indexes
pub with_marked : (bares : List BareIndex) (marks new : List Bool) (first : Hash256) → length bares ≡ length marks → new ≡ marks_of (marked_indexes first (with_marks bares marks)) → with_marks bares new ≡ marked_indexes first (with_marks bares marks)
with_marked bares marks new first long is =
    let old = with_marks bares marks in
    let same : bares ≡ map bare_of (marked_indexes first old) = sym (bares_marked first old ∙ bares_with bares marks long) in
    ap (with_marks bares) is ∙ ap (λ (bs : List BareIndex). with_marks bs (marks_of (marked_indexes first old))) same ∙ with_own (marked_indexes first old)

-- one more is marked
pub marks_set : (block_indexes : List BlockIndex) (place : ℕ) (block_index : BlockIndex) → marks_of (set block_indexes place (marked_as true block_index)) ≡ set (marks_of block_indexes) place true
marks_set [] place block_index = refl
marks_set (first ∷ block_indexes) zero block_index = refl
marks_set (first ∷ block_indexes) (suc place) block_index = ap (λ (ms : List Bool). first.marked ∷ ms) (marks_set block_indexes place block_index)

pub length_marks_of : (block_indexes : List BlockIndex) → length (marks_of block_indexes) ≡ length block_indexes
length_marks_of block_indexes = length-map block_indexes (λ (block_index : BlockIndex). block_index.marked)

-- ---- marks and links that are lent whole

pub lent_are : (bares : List BareIndex) (marks lent : List Bool) (newest elder n e : List ℕ) (first : ℕ) → length bares ≡ length marks → IsTree (with_marks bares marks) → AreLinks (with_marks bares marks) newest elder
    → IsSome (block_at (with_marks bares marks) first) → lent ≡ marks → n ≡ newest → e ≡ elder → IsMarked (with_marks bares marks) lent n e first
lent_are bares marks lent newest elder n e first long is links kept same top older =
    let old = with_marks bares marks in
    record {
      tree = is;
      links = subst (λ (ps : List ℕ). AreLinks old ps e) (sym top) (subst (AreLinks old newest) (sym older) links);
      kept = kept;
      marks_are = same ∙ sym (marks_with bares marks long);
    }

-- the marks come back
pub lent_marks : (bares : List BareIndex) (marks lent new : List Bool) (count : ℕ) (first : Hash256) → length bares ≡ length marks → count ≡ length marks → lent ≡ marks → length new ≡ length lent
    → new ≡ marks_of (marked_indexes first (with_marks bares marks)) → with_marks bares (take count (new ++ drop (length new) marks)) ≡ marked_indexes first (with_marks bares marks)
lent_marks bares marks lent new count first long all same kept is =
    ap (with_marks bares) (take_at new (drop (length new) marks) count (kept ∙ ap length same ∙ sym all)) ∙ with_marked bares marks new first long is
