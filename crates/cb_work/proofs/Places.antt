-- Places of those in a list that pass a test.
use Rattle.std.proofs.Common.{◌≡◌, ◌∙◌, ◌++◌, ◌∷◌, [], ◌<◌, ◌≤◌, ◌+◌, ◌&&◌, not, ℕ, List, All, Bool, true, false, cond, length, nat_eq, if◌then◌else◌, refl, ap, sym, arith, take, get_or, inl, inr}
use Rattle.std.specs.List.{count_by}
use Rattle.std.proofs.lemmas.Bool.{cases_Bool}
use Rattle.std.proofs.lemmas.Bool.Decides.{nat_tests}
use Rattle.std.proofs.lemmas.List.{append_assoc, length-take-le, take_more}
use Rattle.std.proofs.lemmas.List.Elements.{All-append, All-cons, All-nil}
use Rattle.std.proofs.lemmas.List.Sums.{sum_by-append, sum_by-cons}
use Rattle.cb_work.specs.declared.due.ToldTip.{ToldTip}
use Rattle.cb_work.specs.Due.{due_places, is_due, is_due_as, places_where}

-- some, and then others
pub places_then : (test : ToldTip → Bool) (place : ℕ) (all others : List ToldTip) → places_where test place (all ++ others) ≡ places_where test place all ++ places_where test (place + length all) others
places_then test place [] others = let here : place ≡ place + 0 = omega arith in ap (λ (n : ℕ). places_where test n others) here
places_then test place (first ∷ all) others =
    let there : place + 1 + length all ≡ place + length (first ∷ all) = omega arith in
    let later : places_where test (place + 1) (all ++ others) ≡ places_where test (place + 1) all ++ places_where test (place + length (first ∷ all)) others =
    places_then test (place + 1) all others ∙ ap (λ (n : ℕ). places_where test (place + 1) all ++ places_where test n others) there in
    elim (cases_Bool (test first)) [
      | inl is ↦ rw is (ap (λ (l : List ℕ). place ∷ l) later)
      | inr isnt ↦ rw isnt later
    ]

-- one more was looked at
pub one_more : (test : ToldTip → Bool) (all : List ToldTip) (place : ℕ) (d : ToldTip) (before after : List ℕ) → place < length all
    → after ≡ before ++ (if test (get_or all place d) then place ∷ [] else []) → (first : List ℕ) → before ≡ first ++ places_where test 0 (take place all)
    → after ≡ first ++ places_where test 0 (take (place + 1) all)
one_more test all place d before after within put first is =
    let here : ToldTip = get_or all place d in
    let seen : List ℕ = places_where test 0 (take place all) in
    let whole : length (take place all) ≡ place = length-take-le place all (omega (arith, within)) in
    let many : 0 + length (take place all) ≡ place = omega (arith, whole) in
    let more : places_where test 0 (take (place + 1) all) ≡ seen ++ places_where test place (here ∷ []) =
    ap (places_where test 0) (take_more all place d within) ∙ places_then test 0 (take place all) (here ∷ [])
    ∙ ap (λ (n : ℕ). seen ++ places_where test n (here ∷ [])) many in
    put ∙ ap (λ (l : List ℕ). l ++ places_where test place (here ∷ [])) is ∙ append_assoc first seen (places_where test place (here ∷ []))
    ∙ ap (λ (l : List ℕ). first ++ l) (sym more)

-- ---- how often a place stands there

differ : (m n : ℕ) → (m ≡ n → ⊥) → ◌≡◌ {A = ℕ} (cond (nat_eq m n) 1 0) 0
differ m n apart = grind (arith, nat_tests)

same : (n : ℕ) → ◌≡◌ {A = ℕ} (cond (nat_eq n n) 1 0) 1
same n = grind (arith, nat_tests)

-- one in front of others
count_front : (n place : ℕ) (others : List ℕ) → count_by (nat_eq n) (place ∷ others) ≡ cond {A = ℕ} (nat_eq n place) 1 0 + count_by (nat_eq n) others
count_front n place others = sum_by-cons _ place others

-- not in front of all
pub none_below : (test : ToldTip → Bool) (n place : ℕ) (all : List ToldTip) → n < place → count_by (nat_eq n) (places_where test place all) ≡ 0
none_below test n place [] low = refl
none_below test n place (first ∷ others) low =
    let later : count_by (nat_eq n) (places_where test (place + 1) others) ≡ 0 = none_below test n (place + 1) others (omega (arith, low)) in
    elim (cases_Bool (test first)) [
      | inl is ↦ let apart : ◌≡◌ {A = ℕ} (cond (nat_eq n place) 1 0) 0 = differ n place (λ e. omega (arith, e, low)) in rw is (omega (arith, apart, later, count_front n place (places_where test (place + 1) others)))
      | inr isnt ↦ rw isnt later
    ]

-- not behind all
pub none_above : (test : ToldTip → Bool) (n place : ℕ) (all : List ToldTip) → place + length all ≤ n → count_by (nat_eq n) (places_where test place all) ≡ 0
none_above test n place [] high = refl
none_above test n place (first ∷ others) high =
    let later : count_by (nat_eq n) (places_where test (place + 1) others) ≡ 0 = none_above test n (place + 1) others (omega (arith, high)) in
    elim (cases_Bool (test first)) [
      | inl is ↦ let apart : ◌≡◌ {A = ℕ} (cond (nat_eq n place) 1 0) 0 = differ n place (λ e. omega (arith, e, high)) in rw is (omega (arith, apart, later, count_front n place (places_where test (place + 1) others)))
      | inr isnt ↦ rw isnt later
    ]

-- one of a list stands once if it passes, and never if it doesn't
pub once_if : (test : ToldTip → Bool) (before after : List ToldTip) (told : ToldTip) → count_by (nat_eq (length before)) (places_where test 0 (before ++ told ∷ after)) ≡ cond (test told) 1 0
once_if test before after told =
    let n : ℕ = length before in
    let front : count_by (nat_eq n) (places_where test 0 before) ≡ 0 = none_above test n 0 before (omega arith) in
    let behind : count_by (nat_eq n) (places_where test (n + 1) after) ≡ 0 = none_below test n (n + 1) after (omega arith) in
    let mine : count_by (nat_eq n) (places_where test n (told ∷ after)) ≡ cond (test told) 1 0 =
    elim (cases_Bool (test told)) [
      | inl is ↦ let once : ◌≡◌ {A = ℕ} (cond (nat_eq n n) 1 0) 1 = same n in rw is (omega (arith, once, behind, count_front n n (places_where test (n + 1) after)))
      | inr isnt ↦ rw isnt behind
    ] in
    let parts : count_by (nat_eq n) (places_where test 0 (before ++ told ∷ after)) ≡ count_by (nat_eq n) (places_where test 0 before) + count_by (nat_eq n) (places_where test (0 + n) (told ∷ after)) =
    ap (count_by (nat_eq n)) (places_then test 0 before (told ∷ after)) ∙ sum_by-append _ (places_where test 0 before) (places_where test (0 + n) (told ∷ after)) in
    let there : ◌≡◌ {A = ℕ} (0 + n) n = omega arith in
    let same : count_by (nat_eq n) (places_where test (0 + n) (told ∷ after)) ≡ cond (test told) 1 0 = ap (λ (k : ℕ). count_by (nat_eq n) (places_where test k (told ∷ after))) there ∙ mine in
    parts ∙ omega (arith, front, same)

both : (due high : Bool) → ◌≡◌ {A = ℕ} (cond (due && (if true then high else not high)) 1 0 + cond (due && (if false then high else not high)) 1 0) (if due then 1 else 0)
both true true = refl
both true false = refl
both false high = refl

pub stands_once : (tip : ℕ) (before after : List ToldTip) (told : ToldTip) → count_by (nat_eq (length before)) (due_places tip (before ++ told ∷ after)) ≡ (if is_due tip told then 1 else 0)
stands_once tip before after told =
    let all : List ToldTip = before ++ told ∷ after in
    let parts : count_by (nat_eq (length before)) (due_places tip all) ≡ count_by (nat_eq (length before)) (places_where (is_due_as tip true) 0 all) + count_by (nat_eq (length before)) (places_where (is_due_as tip false) 0 all) =
    sum_by-append _ (places_where (is_due_as tip true) 0 all) (places_where (is_due_as tip false) 0 all) in
    let high = once_if (is_due_as tip true) before after told in
    let low = once_if (is_due_as tip false) before after told in
    let two = both (is_due tip told) told.high in
    parts ∙ omega (arith, high, low, two)

-- ---- no other place stands there

pub all_within : (test : ToldTip → Bool) (place end : ℕ) (all : List ToldTip) → place + length all ≤ end → All (λ (p : ℕ). p < end) (places_where test place all)
all_within test place end [] within = All-nil (λ (p : ℕ). p < end)
all_within test place end (told ∷ others) within =
    let later = all_within test (place + 1) end others (omega (arith, within)) in
    elim (cases_Bool (test told)) [
      | inl is ↦ rw is (All-cons (λ (p : ℕ). p < end) place (places_where test (place + 1) others) (omega (arith, within)) later)
      | inr isnt ↦ rw isnt later
    ]

pub stand_within : (tip : ℕ) (all : List ToldTip) → All (λ (p : ℕ). p < length all) (due_places tip all)
stand_within tip all =
    All-append (λ (p : ℕ). p < length all) (places_where (is_due_as tip true) 0 all) (places_where (is_due_as tip false) 0 all)
    (all_within (is_due_as tip true) 0 (length all) all (omega arith)) (all_within (is_due_as tip false) 0 (length all) all (omega arith))
