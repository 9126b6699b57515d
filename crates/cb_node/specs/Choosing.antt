-- Which slot comes next.
use Rattle.std.specs.Prelude.{◌≡◌, ◌≢◌, ℕ, ◌<◌, ◌≤◌, ◌⊎◌, Bool, false, List, length, slice_index_or}

-- Of the places from `first` to before `end`, this is the lowest at which the list has the wanted
-- value.
pub record IsLowest {A : Type 0} (list : List A) (wanted : A) (first end place : ℕ) : Type 0 where
  pub from : first ≤ place
  pub before : place < end
  pub within : place < length list
  pub there : slice_index_or list place wanted ≡ wanted
  pub lowest : (k : ℕ) → first ≤ k → k < place → slice_index_or list k wanted ≢ wanted

-- At none of these places the list has the wanted value.
abbrev pub HasNone : {A : Type 0} → List A → A → ℕ → ℕ → Type 0
HasNone list wanted first end =
    (k : ℕ) → first ≤ k → k < end → k < length list → slice_index_or list k wanted ≢ wanted

-- Of the slots from `first` to before `end`, this one is the lowest that never had a socket. Or it
-- is any of them, where each had one.
abbrev pub IsChosen : List Bool → ℕ → ℕ → ℕ → Type 0
IsChosen used first end slot =
    IsLowest used false first end slot
    ⊎ (HasNone used false first end × (first ≤ slot) × (slot < end))
