-- Lines, one after another.
use Rattle.std.proofs.Common.{◌≡◌, ◌<◌, ◌+◌, ℕ, List, [], ◌∷◌, ◌++◌, length, take, get_or, sym, ap, ◌∙◌}
use Rattle.std.specs.List.{flat_map}
use Rattle.std.proofs.lemmas.List.{flat_map_more, take_more}

-- one more line behind those so far
pub one_more_line : {A : Type 0} (line : A → List ℕ) (xs : List A) (n : ℕ) (x : A) (start before after : List ℕ) → n < length xs → get_or xs n x ≡ x → before ≡ start ++ flat_map line (take n xs) → after ≡ before ++ line x
    → after ≡ start ++ flat_map line (take (n + 1) xs)
one_more_line {A} line xs n x start before after there is so_far printed =
    let more : take (n + 1) xs ≡ take n xs ++ x ∷ [] = take_more xs n x there ∙ ap (λ (e : A). take n xs ++ e ∷ []) is in
    printed ∙ ap (λ (l : List ℕ). l ++ line x) so_far ∙ flat_map_more line start (take n xs) x ∙ ap (λ (l : List A). start ++ flat_map line l) (sym more)
