-- Traces that are listed one after another.
use Rattle.std.proofs.Common.{◌≡◌, ◌∙◌, ℕ, ◌+◌, ◌<◌, ◌≤◌, List, [], ◌∷◌, ◌++◌, length, take, get_or, sym, ap, append_assoc}
use Rattle.std.specs.Prelude.{map}
use Rattle.std.specs.List.{flat_map}
use Rattle.std.proofs.lemmas.List.{append-nil, map-append, take_all, take_more}
use Rattle.std.proofs.lemmas.List.Concat.{flat_map-append}

-- one work after another
pub map_first : {A B : Type 0} (f : A → B) (list : List B) (xs : List A) → list ≡ list ++ map f (take 0 xs)
map_first f list xs = sym (append-nil list)

pub one_more : {A : Type 0} (xs : List A) (n : ℕ) (here : A) → n < length xs → here ≡ get_or xs n here → take (n + 1) xs ≡ take n xs ++ here ∷ []
one_more xs n here low is = take_more xs n here low ∙ ap (λ (x : _). take n xs ++ x ∷ []) (sym is)

pub map_more : {A B : Type 0} (f : A → B) (list so_far more : List B) (xs : List A) (n : ℕ) (here : A) → so_far ≡ list ++ map f (take n xs) → n < length xs → here ≡ get_or xs n here → more ≡ so_far ++ f here ∷ []
    → more ≡ list ++ map f (take (n + 1) xs)
map_more f list so_far more xs n here is low own pushed =
    pushed ∙ ap (λ (l : List _). l ++ f here ∷ []) is ∙ append_assoc list (map f (take n xs)) (f here ∷ [])
    ∙ ap (λ (l : List _). list ++ l) (sym (ap (map f) (one_more xs n here low own) ∙ map-append f (take n xs) (here ∷ [])))

pub map_last : {A B : Type 0} (f : A → B) (list so_far more : List B) (xs : List A) (n : ℕ) (last : A) → so_far ≡ list ++ map f (take n xs) → length xs ≤ n → more ≡ so_far ++ f last ∷ []
    → more ≡ list ++ map f (xs ++ last ∷ [])
map_last f list so_far more xs n last is past pushed =
    pushed ∙ ap (λ (l : List _). l ++ f last ∷ []) (is ∙ ap (λ (l : List _). list ++ map f l) (take_all n xs past)) ∙ append_assoc list (map f xs) (f last ∷ [])
    ∙ ap (λ (l : List _). list ++ l) (sym (map-append f xs (last ∷ [])))

-- one desk after another
pub flat_more : {A B : Type 0} (f : A → List B) (so_far more : List B) (xs : List A) (n : ℕ) (here : A) → so_far ≡ flat_map f (take n xs) → n < length xs → here ≡ get_or xs n here → more ≡ so_far ++ f here
    → more ≡ flat_map f (take (n + 1) xs)
flat_more f so_far more xs n here is low own added =
    added ∙ ap (λ (l : List _). l ++ f here) is ∙ ap (λ (l : List _). flat_map f (take n xs) ++ l) (sym (append-nil (f here)))
    ∙ sym (ap (flat_map f) (one_more xs n here low own) ∙ flat_map-append f (take n xs) (here ∷ []))

pub flat_all : {A B : Type 0} (f : A → List B) (so_far : List B) (xs : List A) (n : ℕ) → so_far ≡ flat_map f (take n xs) → length xs ≤ n → so_far ≡ flat_map f xs
flat_all f so_far xs n is past = is ∙ ap (flat_map f) (take_all n xs past)
