-- A line that sends one message after the other.
use Rattle.std.specs.Prelude.{ℕ, ◌+◌, ◌-◌, ◌*◌, ◌/◌, ◌^◌, ◌==◌, if◌then◌else◌, max, min}

-- how many microseconds so many bytes take, at so many bytes a second
abbrev pub time_of : ℕ → ℕ → ℕ
time_of bytes rate = if rate == 0 then 2 ^ 64 - 1 else min (bytes * 1000000) (2 ^ 64 - 1) / rate

-- When the last byte has left, of so many that are sent now. The line is free at a time, and takes
-- them then, or now if that is later.
abbrev pub left_at : ℕ → ℕ → ℕ → ℕ → ℕ
left_at free now bytes rate = min (max free now + time_of bytes rate) (2 ^ 64 - 1)
