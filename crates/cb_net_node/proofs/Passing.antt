-- What is returned as it came from a call.
use Rattle.std.specs.Prelude.{◌≡◌, ◌⊎◌, Bool, true, false, Result, Ok, Err, OnErr, refl}
use Rattle.std.proofs.Common.{inl, inr}

-- one that holds anyway
pub on_err_of : {T E P : Type 0} (r : Result T E) → P → OnErr r P
on_err_of (Ok x) p = tt
on_err_of (Err e) p = p

-- what holds of yes, or what holds of no
pub either : {P Q : Type 0} (b : Bool) → (b ≡ true → P) → (b ≡ false → Q) → P ⊎ Q
either true p q = inl (p refl)
either false p q = inr (q refl)
