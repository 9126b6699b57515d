-- Lists of indexes that rise, their differences, and what stands between them.
use Rattle.std.proofs.Common.{◌≡◌, ◌≢◌, ℕ, suc, ◌+◌, ◌-◌, ◌<◌, ◌≤◌, List, [], ◌∷◌, ◌++◌, length, take, drop, get_or, All, Any, refl, sym, ap, ◌∙◌, subst, arith, drop-cons, length-drop}
use Rattle.std.proofs.lemmas.List.Elements.{All-cons, All-head, All-nil, All-tail}
use Rattle.cb_compact.specs.Differences.{Rise, differences, sums}
use Rattle.cb_compact.specs.Forms.{left_out}

-- A list from a place on is the element there, and the list from the next on.
pub from_here : {A : Type 0} (xs : List A) (i : ℕ) (d : A) → i < length xs → drop i xs ≡ get_or xs i d ∷ drop (i + 1) xs
from_here xs i d there = let one : suc i ≡ i + 1 = omega arith in drop-cons xs i d there ∙ ap (λ k. get_or xs i d ∷ drop k xs) one

pub rise_below : (least total : ℕ) (indexes : List ℕ) → Rise least total indexes → All (λ index. index < total) indexes
rise_below least total [] rises = All-nil (λ index. index < total)
rise_below least total (index ∷ others) (low, below, rest) = All-cons (λ index. index < total) index others below (rise_below (index + 1) total others rest)

-- One difference more.
pub sums_here : (least : ℕ) (list : List ℕ) (i : ℕ) → i < length list → sums least (drop i list) ≡ (least + get_or list i 0) ∷ sums (least + get_or list i 0 + 1) (drop (i + 1) list)
sums_here least list i there = ap (sums least) (from_here list i 0 there)

-- One index more: its difference comes next, and the others rise behind it.
pub differences_here : (before total : ℕ) (list : List ℕ) (i : ℕ) → i < length list → Rise (before + 1) total (drop i list)
    → (differences (before + 1) (drop i list) ≡ (get_or list i 0 - before - 1) ∷ differences (get_or list i 0 + 1) (drop (i + 1) list)) × (before < get_or list i 0) × Rise (get_or list i 0 + 1) total (drop (i + 1) list)
differences_here before total list i there rises =
    let here = from_here list i 0 there in
    let next = subst (Rise (before + 1) total) here rises in
    let same : get_or list i 0 - (before + 1) ≡ get_or list i 0 - before - 1 = omega arith in
    (ap (differences (before + 1)) here ∙ ap (λ d. d ∷ differences (get_or list i 0 + 1) (drop (i + 1) list)) same, omega (arith, next.0), next.2)

pub any_first : (P : ℕ → Type 0) (x : ℕ) (xs : List ℕ) → P x → Any P (x ∷ xs)
any_first P x xs p = (0, x, omega arith, refl, p)

pub any_later : (P : ℕ → Type 0) (x : ℕ) (xs : List ℕ) → Any P xs → Any P (x ∷ xs)
any_later P x xs (k, y, within, is, p) = (suc k, y, omega (arith, within), is, p)

pub sums_next : (total least index : ℕ) (list : List ℕ) (i : ℕ) → i < length list → index ≡ least + get_or list i 0 → index < total → All (λ it. it < total) (sums (index + 1) (drop (i + 1) list)) → All (λ it. it < total) (sums least (drop i list))
sums_next total least index list i there is below others =
    subst (All (λ it. it < total)) (sym (sums_here least list i there))
    (All-cons (λ it. it < total) (least + get_or list i 0) (sums (least + get_or list i 0 + 1) (drop (i + 1) list))
    (subst (λ it. it < total) is below) (subst (λ it. All (λ it. it < total) (sums (it + 1) (drop (i + 1) list))) is others))

pub sums_past : (total least index : ℕ) (list : List ℕ) (i : ℕ) → i < length list → index ≡ least + get_or list i 0 → Any (λ it. total ≤ it) (sums (index + 1) (drop (i + 1) list)) → Any (λ it. total ≤ it) (sums least (drop i list))
sums_past total least index list i there is others =
    subst (Any (λ it. total ≤ it)) (sym (sums_here least list i there))
    (any_later (λ it. total ≤ it) (least + get_or list i 0) (sums (least + get_or list i 0 + 1) (drop (i + 1) list)) (subst (λ it. Any (λ it. total ≤ it) (sums (it + 1) (drop (i + 1) list))) is others))

pub sums_reach : (total least : ℕ) (list : List ℕ) (i : ℕ) → i < length list → total ≤ least + get_or list i 0 → Any (λ it. total ≤ it) (sums least (drop i list))
sums_reach total least list i there past =
    subst (Any (λ it. total ≤ it)) (sym (sums_here least list i there)) (any_first (λ it. total ≤ it) (least + get_or list i 0) (sums (least + get_or list i 0 + 1) (drop (i + 1) list)) past)

-- Each of the sums is below the total: the next, and those after it.
pub sum_below : (total least : ℕ) (list : List ℕ) (i : ℕ) → i < length list → All (λ it. it < total) (sums least (drop i list)) → (least + get_or list i 0 < total) × All (λ it. it < total) (sums (least + get_or list i 0 + 1) (drop (i + 1) list))
sum_below total least list i there all =
    let here = subst (All (λ it. it < total)) (sums_here least list i there) all in
    (All-head (λ it. it < total) (least + get_or list i 0) (sums (least + get_or list i 0 + 1) (drop (i + 1) list)) here, All-tail (λ it. it < total) (least + get_or list i 0) (sums (least + get_or list i 0 + 1) (drop (i + 1) list)) here)

-- What is left out from a place on where that place is the next one, and where it isn't.
pub left_at : {A : Type 0} (first place : ℕ) (places : List ℕ) (x : A) (xs : List A) → place ≡ first → left_out first (place ∷ places) (x ∷ xs) ≡ left_out (first + 1) places xs
left_at first place places x xs is =
    let none : place - first ≡ 0 = omega (arith, is) in
    ap (λ n. take n (x ∷ xs) ++ left_out (place + 1) places (drop (n + 1) (x ∷ xs))) none ∙ ap (λ n. left_out (n + 1) places xs) is

pub left_kept : {A : Type 0} (first total : ℕ) (places : List ℕ) (x : A) (xs : List A) → Rise (first + 1) total places → left_out first places (x ∷ xs) ≡ x ∷ left_out (first + 1) places xs
left_kept first total [] x xs rises = refl
left_kept first total (place ∷ places) x xs (low, below, rest) =
    let more : place - first ≡ suc (place - (first + 1)) = omega (arith, low) in
    let next : place - first + 1 ≡ suc (place - (first + 1) + 1) = omega (arith, low) in
    ap (λ n. take n (x ∷ xs) ++ left_out (place + 1) places (drop (place - first + 1) (x ∷ xs))) more
    ∙ ap (λ n. x ∷ take (place - (first + 1)) xs ++ left_out (place + 1) places (drop n (x ∷ xs))) next

first_apart : (places : List ℕ) (passed place : ℕ) → (passed < length places → get_or places passed 0 ≢ place) → 0 < length (drop passed places) → get_or (drop passed places) 0 0 ≢ place
first_apart places passed place other some same =
    let within : passed < length places = omega (arith, some, length-drop passed places) in
    let here : get_or (drop passed places) 0 0 ≡ get_or places passed 0 = ap (λ list. get_or list 0 0) (from_here places passed 0 within) in
    other within (sym here ∙ same)

-- The same of what is left of two lists.
pub left_passed : {A : Type 0} (total place passed : ℕ) (places : List ℕ) (xs : List A) (d : A) → place < length xs → passed < length places → get_or places passed 0 ≡ place → Rise place total (drop passed places)
    → (left_out place (drop passed places) (drop place xs) ≡ left_out (place + 1) (drop (passed + 1) places) (drop (place + 1) xs)) × Rise (place + 1) total (drop (passed + 1) places)
left_passed total place passed places xs d within some is rises =
    let here = from_here places passed 0 some in
    let there = from_here xs place d within in
    let next = subst (Rise place total) here rises in (
      ap (λ ps. left_out place ps (drop place xs)) here ∙ ap (λ ys. left_out place (get_or places passed 0 ∷ drop (passed + 1) places) ys) there
          ∙ left_at place (get_or places passed 0) (drop (passed + 1) places) (get_or xs place d) (drop (place + 1) xs) is,
      subst (λ n. Rise (n + 1) total (drop (passed + 1) places)) is next.2,
    )

pub rise_more : (least total : ℕ) (places : List ℕ) → (0 < length places → get_or places 0 0 ≢ least) → Rise least total places → Rise (least + 1) total places
rise_more least total [] other rises = rises
rise_more least total (place ∷ places) other (low, below, rest) = let apart : place ≢ least = other (omega arith) in (omega (arith, low, apart), below, rest)

pub left_unpassed : {A : Type 0} (total place passed : ℕ) (places : List ℕ) (xs : List A) (d : A) → place < length xs → (passed < length places → get_or places passed 0 ≢ place) → Rise place total (drop passed places)
    → (left_out place (drop passed places) (drop place xs) ≡ get_or xs place d ∷ left_out (place + 1) (drop passed places) (drop (place + 1) xs)) × Rise (place + 1) total (drop passed places)
left_unpassed total place passed places xs d within other rises =
    let later = rise_more place total (drop passed places) (first_apart places passed place other) rises in
    (ap (left_out place (drop passed places)) (from_here xs place d within) ∙ left_kept place total (drop passed places) (get_or xs place d) (drop (place + 1) xs) later, later)

-- Behind the last place nothing is left.
pub left_none : {A : Type 0} (first : ℕ) (places : List ℕ) (xs : List A) → length xs ≡ 0 → Rise first first places → left_out first places xs ≡ []
left_none first [] [] none rises = refl
left_none first [] (x ∷ xs) none rises = absurd (let no : suc (length xs) ≡ 0 = none in omega (arith, no))
left_none first (place ∷ places) xs none (low, below, rest) = absurd (omega (arith, low, below))

-- Rising indexes are the sums of their differences.
pub sums_of_differences : (least total : ℕ) (indexes : List ℕ) → Rise least total indexes → sums least (differences least indexes) ≡ indexes
sums_of_differences least total [] rises = refl
sums_of_differences least total (index ∷ others) (low, below, rest) =
    let same : least + (index - least) ≡ index = omega (arith, low) in
    ap (λ it. it ∷ sums (it + 1) (differences (index + 1) others)) same ∙ ap (λ list. index ∷ list) (sums_of_differences (index + 1) total others rest)

-- Sums have the differences that they were made of.
pub differences_of_sums : (least : ℕ) (list : List ℕ) → differences least (sums least list) ≡ list
differences_of_sums least [] = refl
differences_of_sums least (difference ∷ others) =
    let same : least + difference - least ≡ difference = omega arith in
    ap (λ it. it ∷ differences (least + difference + 1) (sums (least + difference + 1) others)) same ∙ ap (λ list. difference ∷ list) (differences_of_sums (least + difference + 1) others)

-- Sums rise.
pub sums_rise : (least total : ℕ) (list : List ℕ) → All (λ index. index < total) (sums least list) → Rise least total (sums least list)
sums_rise least total [] below = tt
sums_rise least total (difference ∷ others) below =
    let rest = sums (least + difference + 1) others in (
      omega arith,
      All-head (λ index. index < total) (least + difference) rest below,
      sums_rise (least + difference + 1) total others (All-tail (λ index. index < total) (least + difference) rest below),
    )
