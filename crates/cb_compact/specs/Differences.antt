-- Indexes as differences (BIP 152): the first is the index itself, each next is the index less the
-- one before, less 1.
use Rattle.std.specs.Prelude.{ℕ, ◌+◌, ◌-◌, ◌<◌, ◌≤◌, List, [], ◌∷◌, ⊤}

-- the indexes rise, the first is at least `least`, and each is below the total
abbrev pub Rise : ℕ → ℕ → List ℕ → Type 0
Rise least total [] = ⊤
Rise least total (index ∷ others) =
    (least ≤ index) × (index < total) × Rise (index + 1) total others

-- the differences of these indexes, where the first is counted from `least`
abbrev pub differences : ℕ → List ℕ → List ℕ
differences least [] = []
differences least (index ∷ others) = (index - least) ∷ differences (index + 1) others

-- the indexes that these differences stand for, where the first is counted from `least`
abbrev pub sums : ℕ → List ℕ → List ℕ
sums least [] = []
sums least (difference ∷ others) = (least + difference) ∷ sums (least + difference + 1) others
