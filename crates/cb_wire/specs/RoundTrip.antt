-- What it means that reading and writing fit together.
use Rattle.std.specs.Prelude.{◌≡◌, ◌⊎◌, ℕ, ◌<◌, List, ◌++◌, Result, Ok, Err}
use Rattle.std.specs.List.{AllByRecursion}
use Rattle.cb_base.specs.declared.fault.Fault.{Fault}
use Rattle.cb_base.specs.declared.fault.Fault.TheVariants.{Memory}
use Rattle.cb_base.specs.Reading.{Read}

-- The text of a value is read as that value, whatever bytes follow. Conversely, bytes that are read
-- as a value begin with the value's text, and the value is in range.
pub record IsReadAsWritten {A : Type 0} (text : A → List ℕ) (value_at : List ℕ → Read A)
    (Is : A → Type 0) : Type 0 where
  pub back : (value : A) (rest : List ℕ) → Is value
      → value_at (text value ++ rest) ≡ Ok (value, rest)
  pub only : (bytes : List ℕ) (value : A) (rest : List ℕ)
      → AllByRecursion (λ byte. byte < 256) bytes → value_at bytes ≡ Ok (value, rest)
      → (bytes ≡ text value ++ rest) × Is value

-- the result of a function that may allocate: the definition's, or `Memory`
abbrev pub Gives : {A : Type 0} → Result A Fault → Result A Fault → Type 0
Gives read (Ok value) = read ≡ Ok value
Gives read (Err fault) = (fault ≡ Memory) ⊎ (read ≡ Err fault)
