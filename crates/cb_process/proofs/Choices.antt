-- The choice of a place that is given away.
use Rattle.std.proofs.Common.{◌≡◌, ◌<◌, ◌≤◌, ℕ, ◌+◌, List, ◌∷◌, [], ◌++◌, Option, None, length, take, get_or, sym, subst, arith}
use Rattle.std.proofs.lemmas.List.{length-take-le, take_all, take_more}
use Rattle.std.specs.List.{All}
use Rattle.cb_process.specs.declared.places.Choice.{Choice}
use Rattle.cb_process.specs.declared.places.Guest.{Guest}
use Rattle.cb_process.specs.Places.{IsChoice, MayLeave}

-- nothing is chosen of all
pub none_of_all : (guests : List Guest) (now place : ℕ) (choice : Option Choice) → choice ≡ None → length guests ≤ place → IsChoice (take place guests) now choice → All (λ guest. MayLeave now guest → ⊥) guests
none_of_all guests now place choice none whole so =
    subst (λ (seen : List Guest). All (λ guest. MayLeave now guest → ⊥) seen) (take_all place guests whole) (subst (λ (last : Option Choice). IsChoice (take place guests) now last) none so)

-- one more was looked at
pub one_more : (guests : List Guest) (now place : ℕ) (d : Guest) (old new : Option Choice) → place < length guests → IsChoice (take place guests) now old
    → ((before : List Guest) → length before ≡ place → IsChoice before now old → IsChoice (before ++ get_or guests place d ∷ []) now new) → IsChoice (take (place + 1) guests) now new
one_more guests now place d old new within so step =
    subst (λ (seen : List Guest). IsChoice seen now new) (sym (take_more guests place d within)) (step (take place guests) (length-take-le place guests (omega (arith, within))) so)
