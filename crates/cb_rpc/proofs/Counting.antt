-- The answers to a list of requests.
use Rattle.std.proofs.Common.{◌≡◌, ◌+◌, ◌||◌, ℕ, suc, Bool, true, false, List, [], ◌∷◌, length, refl, ap, sym, subst, ◌∙◌, arith}
use Rattle.json.specs.Token.{Token}
use Rattle.json.specs.Json.{Json}
use Rattle.json.specs.declared.value.Value.{Value}
use Rattle.json.specs.Value.{items_view}
use Rattle.cb_rpc.specs.Outcomes.{Answering}
use Rattle.cb_rpc.specs.Requests.{count_of}
use Rattle.cb_rpc.specs.Responses.{Adds, AreAdded, has_told, is_told_at}

pub count_is : {A : Type 0} (xs : List (Value A)) → count_of (items_view xs) ≡ length xs
count_is [] = refl
count_is (x ∷ xs) = ap suc (count_is xs)

-- one more
pub added_next : (answers : Answering) (requests : Json) (n : ℕ) (before after : List Token)
    → AreAdded answers requests n before → Adds answers requests n before after → AreAdded answers requests (n + 1) after
added_next answers requests n before after are adds =
    let e : suc n ≡ n + 1 = omega arith in
    subst (λ k. AreAdded answers requests k after) e (before, are, adds)

-- whether one of them is answered: this one, or one before it
here : (empty before : Bool) → true ≡ (empty || (before || true))
here true before = refl
here false true = refl
here false false = refl

none_here : (empty before : Bool) → (empty || before) ≡ (empty || (before || false))
none_here true before = refl
none_here false true = refl
none_here false false = refl

pub told_here : (empty : Bool) (requests : Json) (n : ℕ) → is_told_at n requests ≡ true → true ≡ (empty || has_told (n + 1) requests)
told_here empty requests n is =
    let e : suc n ≡ n + 1 = omega arith in
    here empty (has_told n requests) ∙ ap (λ b. empty || (has_told n requests || b)) (sym is) ∙ ap (λ k. empty || has_told k requests) e

pub told_before : (empty told : Bool) (requests : Json) (n : ℕ) → is_told_at n requests ≡ false → told ≡ (empty || has_told n requests) → told ≡ (empty || has_told (n + 1) requests)
told_before empty told requests n is was =
    let e : suc n ≡ n + 1 = omega arith in
    was ∙ none_here empty (has_told n requests) ∙ ap (λ b. empty || (has_told n requests || b)) (sym is) ∙ ap (λ k. empty || has_told k requests) e
