-- The lowest slot that never had a socket.
use Rattle.std.proofs.Common.{◌≡◌, ◌↔◌, ℕ, ◌+◌, ◌<◌, ◌≤◌, Bool, true, false, List, length, Some, sym, subst, ◌∙◌, arith, inl, inr}
use Rattle.std.specs.Prelude.{slice_get}
use Rattle.std.proofs.lemmas.Bool.{cases_lt, false≢true}
use Rattle.std.proofs.lemmas.Option.{get_or_from_slice_get, slice_get-get_or, slice_get_within}
use Rattle.cb_node.specs.Choosing.{HasNone, IsLowest}

-- one place more has none
pub none_more : (uses : List Bool) (first n : ℕ) (found : Bool) → HasNone uses false first n → ((found ≡ true) ↔ (slice_get uses n ≡ Some false)) → found ≡ false → HasNone uses false first (n + 1)
none_more uses first n found none tells not k from lt within is =
    elim (cases_lt k n) [
      | inl before ↦ none k from before within is
      | inr behind ↦
          let same : k ≡ n = omega (arith, lt, behind) in
          let there : slice_get uses n ≡ Some false = subst (λ m. slice_get uses m ≡ Some false) same (subst (λ b. slice_get uses k ≡ Some b) is (slice_get-get_or uses k false within)) in
          false≢true (sym not ∙ tells.1 there)
    ]

-- the first that never had one is the lowest
pub is_lowest : (uses : List Bool) (first end n : ℕ) → first ≤ n → n < end → HasNone uses false first n → slice_get uses n ≡ Some false → IsLowest uses false first end n
is_lowest uses first end n from lt none at =
    let within : n < length uses = slice_get_within uses n false at in
    record {
      from = from;
      before = lt;
      within = within;
      there = get_or_from_slice_get uses n false false at;
      lowest = λ k above below. none k above below (omega (arith, below, within));
    }
