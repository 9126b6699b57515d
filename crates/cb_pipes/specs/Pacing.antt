-- How often lines of one kind are logged.
use Rattle.std.specs.Prelude.{ℕ, ◌+◌, ◌-◌, ◌^◌, ◌<◌, ◌==◌, if◌then◌else◌, List, [], ◌∷◌, ◌++◌, length, min}
use Rattle.cb_pipes.specs.LastSecond.{lately}

-- When the lines of the last second were logged; how many others there were since these were told,
-- and when they are told.
pub record PaceState : Type 0 where
  pub times : List ℕ
  pub others : ℕ
  pub due : ℕ

abbrev pub new_pace : PaceState
new_pace = record { times = []; others = 0; due = 0 }

-- the time in milliseconds that is a second later, or the last one
abbrev pub second_later : ℕ → ℕ
second_later time = min (time + 1000) (2 ^ 64 - 1)

-- the times that lie within the last second
abbrev pub recent : List ℕ → ℕ → List ℕ
recent times now = lately (λ time. time) now times

-- fewer than 19 lines were logged within the last second
abbrev pub HasRoom : List ℕ → ℕ → Type 0
HasRoom times now = length (recent times now) < 19

-- a line was logged
abbrev pub told_at : PaceState → ℕ → PaceState
told_at pace now = record pace { times = recent pace.times now ++ now ∷ [] }

-- there was one more of the others: the first of them is told of a second later
abbrev pub with_other : PaceState → ℕ → PaceState
with_other pace now = record pace {
  others = min (pace.others + 1) (2 ^ 64 - 1);
  due = if pace.others == 0 then second_later now else pace.due;
}

-- a line wasn't logged
abbrev pub counts_at : PaceState → ℕ → PaceState
counts_at pace now = with_other (record pace { times = recent pace.times now }) now
