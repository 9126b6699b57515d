-- Items, one after another.
use Rattle.std.proofs.Common.{◌≡◌, ◌<◌, ◌+◌, ℕ, List, [], ◌∷◌, ◌++◌, length, take, get_or, sym, ap, ◌∙◌}
use Rattle.std.specs.List.{flat_map}
use Rattle.std.proofs.lemmas.List.{flat_map_more, take_more}

-- one more item behind those so far
pub one_more_item : {A T : Type 0} (item : A → List T) (xs : List A) (n : ℕ) (x : A) (start before after : List T) → n < length xs → get_or xs n x ≡ x → before ≡ start ++ flat_map item (take n xs) → after ≡ before ++ item x
    → after ≡ start ++ flat_map item (take (n + 1) xs)
one_more_item {A} {T} item xs n x start before after there is so_far written =
    let more : take (n + 1) xs ≡ take n xs ++ x ∷ [] = take_more xs n x there ∙ ap (λ (e : A). take n xs ++ e ∷ []) is in
    written ∙ ap (λ (l : List T). l ++ item x) so_far ∙ flat_map_more item start (take n xs) x ∙ ap (λ (l : List A). start ++ flat_map item l) (sym more)
