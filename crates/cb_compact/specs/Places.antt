-- The places of a compact block's prefilled transactions (BIP 152): their indexes are sent as
-- differences.
use Rattle.std.specs.Prelude.{ℕ, ◌+◌, Bool, nat_lt, List, [], ◌∷◌, length, map}
use Rattle.std.specs.List.{list_all}
use Rattle.cb_compact.specs.Differences.{sums}
use Rattle.cb_compact.specs.declared.form.Prefilled.{Prefilled}
use Rattle.cb_wire.specs.ShortForms.{ShortForm}
use Rattle.cb_wire.specs.declared.prefilled.PrefilledTransaction.{PrefilledTransaction}

-- The number of the block's transactions.
abbrev pub total_of : ShortForm → ℕ
total_of form = length form.ids + length form.prefilled

-- The differences, as sent.
abbrev pub differences_of : List PrefilledTransaction → List ℕ
differences_of prefilled = map (λ given. given.difference) prefilled

-- Whether the differences lead to places in the block.
unfoldable pub has_places : ShortForm → Bool
has_places form =
    list_all (λ place. nat_lt place (total_of form)) (sums 0 (differences_of form.prefilled))

-- The prefilled transactions with the places to which their differences lead, from `least` on.
abbrev pub placed_from : ℕ → List PrefilledTransaction → List Prefilled
placed_from least [] = []
placed_from least (given ∷ more) =
    record { place = least + given.difference; tx = given.tx }
    ∷ placed_from (least + given.difference + 1) more
