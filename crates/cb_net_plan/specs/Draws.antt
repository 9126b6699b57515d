-- SplitMix64 (Steele, Lea and Flood, "Fast splittable pseudorandom number generators", 2014).
use Rattle.std.specs.Prelude.{ℕ, ◌+◌, ◌-◌, ◌*◌, ◌/◌, ◌%◌, ◌^◌, ◌==◌, if◌then◌else◌, bit_xor}
use Rattle.cb_net_plan.specs.declared.draws.Draws.{Draws}

-- the sum and the product of two words, modulo 2 ^ 64
abbrev pub plus : ℕ → ℕ → ℕ
plus x y = (x + y) % 2 ^ 64

abbrev pub times : ℕ → ℕ → ℕ
times x y = (x * y) % 2 ^ 64

-- a word, and it without so many low bits, by exclusive or
abbrev pub folded : ℕ → ℕ → ℕ
folded x bits = bit_xor x (x / 2 ^ bits)

-- the number that a state gives
unfoldable pub mixed : ℕ → ℕ
mixed state =
    let first = times (folded state 30) 0xbf58_476d_1ce4_e5b9 in
    let second = times (folded first 27) 0x94d0_49bb_1331_11eb in
    folded second 31

-- the draws after one more
unfoldable pub after : Draws → Draws
after draws = record { state = plus draws.state 0x9e37_79b9_7f4a_7c15 }

-- the first number of the draws
unfoldable pub first_number : Draws → ℕ
first_number draws = mixed (after draws).state

-- ---- a number that is drawn

-- below a bound: what is left when the bound divides the first number
unfoldable pub below : ℕ → Draws → ℕ
below bound draws = if bound == 0 then 0 else first_number draws % bound

-- from low to high, or low if high is lower
unfoldable pub between : ℕ → ℕ → Draws → ℕ
between low high draws = low + first_number draws % (high - low + 1)
