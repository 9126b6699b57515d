-- The first that a list has, found by a loop over its places.
use Rattle.std.proofs.Common.{◌≡◌, ◌∙◌, ℕ, ◌+◌, ◌<◌, ◌≤◌, Bool, true, false, cond, List, [], ◌∷◌, ◌++◌, length, take, drop, get_or, Option, None, Some, refl, sym, ap}
use Rattle.std.specs.Option.{option_or}
use Rattle.std.proofs.lemmas.List.{take_all, take-append-drop}
use Rattle.cb_audit.proofs.Listing.{one_more}

-- A list has what its first item has, or else what the others have.
pub record IsSearch {A B : Type 0} (all : List A → Option B) (one : A → Option B) : Type 0 where
  pub nil : all [] ≡ None
  pub cons : (x : A) (xs : List A) → all (x ∷ xs) ≡ option_or (one x) (all xs)

or_none : {B : Type 0} (a : Option B) → option_or a None ≡ a
or_none None = refl
or_none (Some x) = refl

or_assoc : {B : Type 0} (a b c : Option B) → option_or a (option_or b c) ≡ option_or (option_or a b) c
or_assoc None b c = refl
or_assoc (Some x) b c = refl

-- what a test decides
pub or_test : {B : Type 0} (found : Bool) (x : B) (others : Option B) → cond found (Some x) others ≡ option_or (cond found (Some x) None) others
or_test true x others = refl
or_test false x others = refl

pub or_test_not : {B : Type 0} (not_found : Bool) (x : B) (others : Option B) → cond not_found others (Some x) ≡ option_or (cond not_found None (Some x)) others
or_test_not true x others = refl
or_test_not false x others = refl

pub search_append : {A B : Type 0} (all : List A → Option B) (one : A → Option B) (xs ys : List A) → IsSearch all one → all (xs ++ ys) ≡ option_or (all xs) (all ys)
search_append all one [] ys is = sym (ap (λ (o : Option _). option_or o (all ys)) is.nil)
search_append all one (x ∷ xs) ys is =
    is.cons x (xs ++ ys) ∙ ap (option_or (one x)) (search_append all one xs ys is) ∙ or_assoc (one x) (all xs) (all ys)
    ∙ sym (ap (λ (o : Option _). option_or o (all ys)) (is.cons x xs))

-- nothing so far: what the list has is what its last item has
pub search_last : {A B : Type 0} (all : List A → Option B) (one : A → Option B) (xs : List A) (last : A) → IsSearch all one → all xs ≡ None → all (xs ++ last ∷ []) ≡ one last
search_last all one xs last is none =
    search_append all one xs (last ∷ []) is ∙ ap (λ (o : Option _). option_or o (all (last ∷ []))) none
    ∙ is.cons last [] ∙ ap (option_or (one last)) is.nil ∙ or_none (one last)

pub search_front : {A B : Type 0} (all : List A → Option B) (one : A → Option B) (xs ys : List A) (found : B) → IsSearch all one → all xs ≡ Some found → all (xs ++ ys) ≡ Some found
search_front all one xs ys found is some = search_append all one xs ys is ∙ ap (λ (o : Option _). option_or o (all ys)) some

pub search_more : {A B : Type 0} (all : List A → Option B) (one : A → Option B) (xs : List A) (n : ℕ) (here : A) → IsSearch all one → all (take n xs) ≡ None → n < length xs → here ≡ get_or xs n here → one here ≡ None
    → all (take (n + 1) xs) ≡ None
search_more all one xs n here is none low own here_none = ap all (one_more xs n here low own) ∙ search_last all one (take n xs) here is none ∙ here_none

pub search_found : {A B : Type 0} (all : List A → Option B) (one : A → Option B) (xs : List A) (n : ℕ) (here : A) (found : B) → IsSearch all one → all (take n xs) ≡ None → n < length xs → here ≡ get_or xs n here → one here ≡ Some found
    → all xs ≡ Some found
search_found all one xs n here found is none low own some =
    ap all (sym (take-append-drop (n + 1) xs))
    ∙ search_front all one (take (n + 1) xs) (drop (n + 1) xs) found is (ap all (one_more xs n here low own) ∙ search_last all one (take n xs) here is none ∙ some)

pub search_none : {A B : Type 0} (all : List A → Option B) (xs : List A) (n : ℕ) → all (take n xs) ≡ None → length xs ≤ n → all xs ≡ None
search_none all xs n none past = sym (ap all (take_all n xs past)) ∙ none

-- ---- by what a loop reads

-- the item at this place has something
pub found_in : {A B : Type 0} {all : List A → Option B} {one : A → Option B} (is : IsSearch all one) (xs : List A) (n : ℕ) (here : A) (got : Option B) (found : B) → all (take n xs) ≡ None → n < length xs → here ≡ get_or xs n here
    → got ≡ one here → got ≡ Some found → Some found ≡ all xs
found_in {all = all} {one = one} is xs n here got found none low own asked some = sym (search_found all one xs n here found is none low own (sym asked ∙ some))

-- the same, where one more item stands behind the list
pub found_before : {A B : Type 0} {all : List A → Option B} {one : A → Option B} (is : IsSearch all one) (xs past : List A) (last : A) (n : ℕ) (here : A) (got : Option B) (found : B) → xs ≡ past → all (take n xs) ≡ None → n < length xs
    → here ≡ get_or xs n here → got ≡ one here → got ≡ Some found → Some found ≡ all (past ++ last ∷ [])
found_before {all = all} {one = one} is xs past last n here got found same none low own asked some =
    sym (search_front all one past (last ∷ []) found is (sym (ap all same) ∙ sym (found_in is xs n here got found none low own asked some)))

-- it has nothing
pub none_more : {A B : Type 0} {all : List A → Option B} {one : A → Option B} (is : IsSearch all one) (xs : List A) (n : ℕ) (here : A) (got : Option B) → all (take n xs) ≡ None → n < length xs → here ≡ get_or xs n here → got ≡ one here
    → got ≡ None → all (take (n + 1) xs) ≡ None
none_more {all = all} {one = one} is xs n here got none low own asked nothing = search_more all one xs n here is none low own (sym asked ∙ nothing)

-- none has anything but for the item behind the list
pub by_last : {A B : Type 0} {all : List A → Option B} {one : A → Option B} (is : IsSearch all one) (xs past : List A) (last here : A) (n : ℕ) (got : Option B) → xs ≡ past → all (take n xs) ≡ None → length xs ≤ n → here ≡ last
    → got ≡ one here → got ≡ all (past ++ last ∷ [])
by_last {all = all} {one = one} is xs past last here n got same none over own asked =
    asked ∙ ap one own ∙ sym (search_last all one past last is (sym (ap all same) ∙ search_none all xs n none over))
