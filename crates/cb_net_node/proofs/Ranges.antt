-- A list that is made number by number.
use Rattle.std.proofs.Common.{◌≡◌, ℕ, suc, ◌+◌, ◌-◌, ◌<◌, List, [], ◌∷◌, ◌++◌, map, sym, ap, ◌∙◌, append_assoc, arith}
use Rattle.std.specs.List.{range_with_len}

-- one more was made, and one less is left
pub made_one : {A : Type 0} (f : ℕ → A) (made made' all : List A) (i n : ℕ) → i < n → made' ≡ made ++ f i ∷ []
    → made ++ map f (range_with_len i (n - i)) ≡ all → made' ++ map f (range_with_len (i + 1) (n - (i + 1))) ≡ all
made_one f made made' all i n h one e =
    let left : n - i ≡ suc (n - (i + 1)) = omega (arith, h) in
    ap (λ l. l ++ map f (range_with_len (i + 1) (n - (i + 1)))) one
    ∙ append_assoc made (f i ∷ []) (map f (range_with_len (i + 1) (n - (i + 1))))
    ∙ ap (λ (k : ℕ). made ++ map f (range_with_len i k)) (sym left)
    ∙ e
