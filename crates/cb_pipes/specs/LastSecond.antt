-- What was within the last second.
use Rattle.std.specs.Prelude.{ℕ, ◌+◌, Bool, List, filter, nat_lt}

-- it was within the last second before a time, in milliseconds
abbrev pub is_fresh : {T : Type 0} → (T → ℕ) → ℕ → T → Bool
is_fresh time now entry = nat_lt now (time entry + 1000)

-- those that were
abbrev pub lately : {T : Type 0} → (T → ℕ) → ℕ → List T → List T
lately time now entries = filter (is_fresh time now) entries
