-- Laws of the parts of a list, cut at its open marks, for marks of any type.
use Rattle.std.proofs.Common.{◌≡◌, ℕ, suc, zero, ◌+◌, ◌<◌, Bool, true, false, cond, List, [], ◌∷◌, ◌++◌, length, get_or, refl, sym, ap, subst, ◌∙◌, arith}
use Rattle.std.specs.List.{onto_first}
use Rattle.std.proofs.lemmas.List.Splits.{length-slice_split}
use Rattle.cb_crew.specs.Line.{connections}
use Rattle.cb_crew.specs.Parts.{parts, part}
use Rattle.cb_crew.specs.Laws.{IsBeginning}

-- there are as many parts as connections
pub parts_count : {M : Type 0} (is_open : M → Bool) (ms : List M) → length (parts is_open ms) ≡ connections is_open ms
parts_count is_open ms = omega (arith, length-slice_split is_open ms)

-- what stands at each place, once a mark was set before the first part
first_at : {M : Type 0} (m : M) (ps : List (List M)) → get_or (onto_first m ps) 0 [] ≡ m ∷ get_or ps 0 []
first_at m [] = refl
first_at m (p ∷ ps) = refl

later_at : {M : Type 0} (m : M) (ps : List (List M)) (k : ℕ) → get_or (onto_first m ps) (suc k) [] ≡ get_or ps (suc k) []
later_at m [] k = refl
later_at m (p ∷ ps) k = refl

still_short : {M : Type 0} (m : M) (ps : List (List M)) (k : ℕ) → k + 1 < length (onto_first m ps) → k + 1 < length ps
still_short m [] k lt = absurd (omega arith)
still_short m (p ∷ ps) k lt = lt

begins_at : {M : Type 0} (a b c d : List M) → a ≡ c → b ≡ d → IsBeginning c d → IsBeginning a b
begins_at a b c d p q h = (h.0, q ∙ (h.1 ∙ ap (λ ms. ms ++ h.0) (sym p)))

begins_behind : {M : Type 0} (m : M) (a b : List M) → IsBeginning a b → IsBeginning (m ∷ a) (m ∷ b)
begins_behind m a b h = (h.0, ap (λ ms. m ∷ ms) h.1)

begins_step : {M : Type 0} (m : M) (begins : Bool) (ps qs : List (List M)) → ((k : ℕ) → IsBeginning (get_or ps k []) (get_or qs k [])) → (k : ℕ) → IsBeginning (get_or (cond begins ([] ∷ ps) (onto_first m ps)) k []) (get_or (cond begins ([] ∷ qs) (onto_first m qs)) k [])
begins_step m true ps qs h zero = ([], refl)
begins_step m true ps qs h (suc k) = h k
begins_step m false ps qs h zero =
    begins_at (get_or (onto_first m ps) 0 []) (get_or (onto_first m qs) 0 []) (m ∷ get_or ps 0 []) (m ∷ get_or qs 0 []) (first_at m ps) (first_at m qs) (begins_behind m (get_or ps 0 []) (get_or qs 0 []) (h 0))
begins_step m false ps qs h (suc k) =
    begins_at (get_or (onto_first m ps) (suc k) []) (get_or (onto_first m qs) (suc k) []) (get_or ps (suc k) []) (get_or qs (suc k) []) (later_at m ps k) (later_at m qs k) (h (suc k))

-- each part of a beginning is a beginning of the same part of the whole
pub part_begins : {M : Type 0} (is_open : M → Bool) (xs ys : List M) (k : ℕ) → IsBeginning (part is_open xs k) (part is_open (xs ++ ys) k)
part_begins is_open [] ys zero = (part is_open ys 0, refl)
part_begins is_open [] ys (suc k) = (part is_open ys (suc k), refl)
part_begins is_open (m ∷ xs) ys k = begins_step m (is_open m) (parts is_open xs) (parts is_open (xs ++ ys)) (part_begins is_open xs ys) k

whole_step : {M : Type 0} (m : M) (begins : Bool) (ps qs : List (List M)) → ((k : ℕ) → k + 1 < length ps → get_or ps k [] ≡ get_or qs k []) → (k : ℕ) → k + 1 < length (cond begins ([] ∷ ps) (onto_first m ps)) → get_or (cond begins ([] ∷ ps) (onto_first m ps)) k [] ≡ get_or (cond begins ([] ∷ qs) (onto_first m qs)) k []
whole_step m true ps qs h zero lt = refl
whole_step m true ps qs h (suc k) lt = h k (omega arith)
whole_step m false ps qs h zero lt = first_at m ps ∙ (ap (λ ms. m ∷ ms) (h 0 (still_short m ps 0 lt)) ∙ sym (first_at m qs))
whole_step m false ps qs h (suc k) lt = later_at m ps k ∙ (h (suc k) (still_short m ps (suc k) lt) ∙ sym (later_at m qs k))

-- and all of it, if it isn't the last part of the beginning
pub part_whole : {M : Type 0} (is_open : M → Bool) (xs ys : List M) (k : ℕ) → k + 1 < length (parts is_open xs) → part is_open xs k ≡ part is_open (xs ++ ys) k
part_whole is_open [] ys k lt = absurd (omega arith)
part_whole is_open (m ∷ xs) ys k lt = whole_step m (is_open m) (parts is_open xs) (parts is_open (xs ++ ys)) (part_whole is_open xs ys) k lt

-- the same of a beginning, as it is defined
pub begun_part : {M : Type 0} (is_open : M → Bool) (front whole : List M) → IsBeginning front whole → (k : ℕ) → IsBeginning (part is_open front k) (part is_open whole k)
begun_part is_open front whole begun k = subst (λ ms. IsBeginning (part is_open front k) (part is_open ms k)) (sym begun.1) (part_begins is_open front begun.0 k)

pub whole_part : {M : Type 0} (is_open : M → Bool) (front whole : List M) → IsBeginning front whole → (k : ℕ) → k + 1 < connections is_open front → part is_open front k ≡ part is_open whole k
whole_part is_open front whole begun k lt = part_whole is_open front begun.0 k (omega (arith, parts_count is_open front)) ∙ ap (λ ms. part is_open ms k) (sym begun.1)
