-- How lists reach the caller's buffers.
use Rattle.std.specs.Prelude.{◌≡◌, ℕ, ◌<◌, ◌≤◌, ◌⊎◌, List, ◌++◌, drop, length}
use Rattle.cb_base.specs.declared.fault.Fault.{Fault}
use Rattle.cb_c.specs.Status.{status_of}

-- The needed length is told. The list is at the front of the buffer, and the rest of the buffer is
-- what it was; or the buffer is too small and unchanged.
abbrev pub IsGiven : {A : Type 0} → List A → List A → List A → ℕ → ℕ → Type 0
IsGiven list old new len status =
    (len ≡ length list)
    × (((length list ≤ length old) × (status ≡ 0) × (new ≡ list ++ drop (length list) old))
    ⊎ ((length old < length list) × (status ≡ 65536) × (new ≡ old)))

-- The same for two lists and two buffers: both lists are given, or none.
abbrev pub AreGiven :
    {A B : Type 0} → List A → List A → List A → List B → List B → List B → ℕ → Type 0
AreGiven first first-old first-new second second-old second-new status =
    ((length first ≤ length first-old) × (length second ≤ length second-old) × (status ≡ 0)
    × (first-new ≡ first ++ drop (length first) first-old)
    × (second-new ≡ second ++ drop (length second) second-old))
    ⊎ (((length first-old < length first) ⊎ (length second-old < length second))
    × (status ≡ 65536) × (first-new ≡ first-old) × (second-new ≡ second-old))

-- The one statement holds of a list, which is given; or the other of a fault, and nothing changed.
abbrev pub Gives :
    {A : Type 0} → (List A → Type 0) → (Fault → Type 0) → List A → List A → ℕ → ℕ → ℕ → Type 0
Gives {A = A} fine failed old new len-old len status =
    ((list : List A) × fine list × IsGiven list old new len status)
    ⊎ ((fault : Fault) × (status ≡ status_of fault) × failed fault × (new ≡ old) × (len ≡ len-old))
