-- The works of a peer's past connections. They keep at most 1,000,000 bytes together, and the
-- oldest let go first.
use Rattle.std.specs.Prelude.{◌≡◌, ℕ, ◌≤◌, Bool, List, [], ◌∷◌, ◌++◌, drop, length, take}
use Rattle.std.specs.List.{AllZip, sum_by}
use Rattle.cb_crew.specs.declared.work.Given.{Given}
use Rattle.cb_crew.specs.Work.{IsKeptOrLetGo}

pub record PastState (W : Type 0) : Type 0 where
  pub works : List W  -- the oldest first
  pub capacity : ℕ  -- for how many there is room

-- Wherever the works from one on to the last keep at most 1,000,000 bytes together, they are as
-- before.
abbrev pub LatestStay : {W : Type 0} → (W → ℕ) → List W → List W → Type 0
LatestStay weight old new =
    (from : ℕ) → sum_by weight (drop from old) ≤ 1000000 → drop from new ≡ drop from old

-- Each work is as before, or it let go. The latest are as before, as far as 1,000,000 bytes go.
pub record OldestLetGo {W M : Type 0} (label : W → ℕ) (given : W → List (Given M) → Type 0)
    (ticked : W → List ℕ → Type 0) (is_closed : W → Bool) (weight : W → ℕ) (old new : List W)
    : Type 0 where
  pub each : AllZip (IsKeptOrLetGo label given ticked is_closed weight) old new
  pub latest : LatestStay weight old new

-- It is as before if it keeps at most 1,000,000 bytes. Else it may have let go.
abbrev pub StaysIfFew : {W M : Type 0} → (W → ℕ) → (W → List (Given M) → Type 0)
    → (W → List ℕ → Type 0) → (W → Bool) → (W → ℕ) → W → W → Type 0
StaysIfFew label given ticked is_closed weight old new =
    IsKeptOrLetGo label given ticked is_closed weight old new × (weight old ≤ 1000000 → new ≡ old)

-- A work came behind the others. If it alone kept more than 1,000,000 bytes, it let go first.
pub record IsPushed {W M : Type 0} (label : W → ℕ) (given : W → List (Given M) → Type 0)
    (ticked : W → List ℕ → Type 0) (is_closed : W → Bool) (weight : W → ℕ) (work : W)
    (old new : List W) : Type 0 where
  pub latest : W
  pub became : StaysIfFew label given ticked is_closed weight work latest
  pub few : weight latest ≤ 1000000
  pub past : OldestLetGo label given ticked is_closed weight (old ++ latest ∷ []) new

-- The works keep so many bytes together, and so many of the oldest keep none.
pub record Keeps {W : Type 0} (weight : W → ℕ) (works : List W) (gone kept : ℕ) : Type 0 where
  pub together : sum_by weight works ≡ kept
  pub none : sum_by weight (take gone works) ≡ 0
  pub within : gone ≤ length works
