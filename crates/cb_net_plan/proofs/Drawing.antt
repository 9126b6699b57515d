-- Numbers that are drawn.
use Rattle.std.proofs.Common.{◌≡◌, ◌≢◌, ℕ, ◌+◌, ◌-◌, ◌%◌, ◌≤◌, ◌<◌, ◌^◌, Bool, true, false, sym, ap, subst, arith}
use Rattle.std.specs.Prelude.{◌==◌, if◌then◌else◌}
use Rattle.std.proofs.Math.Nat.{mod-eq_of_lt, mod-lt}
use Rattle.std.proofs.lemmas.Bool.Decides.{nat_tests}
use Rattle.cb_net_plan.specs.declared.draws.Draws.{Draws}
use Rattle.cb_net_plan.specs.Draws.{below, first_number}

-- a test of numbers that holds, and one that doesn't
pub same_is : (a b : ℕ) → a ≡ b → (a == b) ≡ true
same_is a b e = grind (arith, nat_tests)

pub other_is : (a b : ℕ) → a ≢ b → (a == b) ≡ false
other_is a b e = grind (arith, nat_tests)

pub below_none : (bound number : ℕ) → bound ≡ 0 → 0 ≡ (if bound == 0 then 0 else number % bound)
below_none bound number none =
    sym (ap (λ (b : Bool). if b then 0 else number % bound) (same_is bound 0 none))

pub below_some : (bound number : ℕ) → bound ≢ 0 → number % bound ≡ (if bound == 0 then 0 else number % bound)
below_some bound number some =
    sym (ap (λ (b : Bool). if b then 0 else number % bound) (other_is bound 0 some))

-- a number that is drawn below a bound
pub below_le : (number bound : ℕ) → bound ≢ 0 → number % bound ≤ bound - 1
below_le number bound some =
    let less : number % bound < bound = mod-lt number (omega (arith, some)) in omega (arith, less)

-- one that is drawn from low to high
pub between_le : (low high number : ℕ) → low ≤ high → low + number % (high - low + 1) ≤ high
between_le low high number up =
    let less : number % (high - low + 1) < high - low + 1 = mod-lt number (omega arith) in
    omega (arith, less, up)

-- all words are drawn
pub between_all : (low high number : ℕ) → high - low ≡ 2 ^ 64 - 1 → high < 2 ^ 64 → number < 2 ^ 64 → number ≡ low + number % (high - low + 1)
between_all low high number all h n =
    let least : low ≡ 0 = omega (arith, all, h) in
    let small : number % (high - low + 1) ≡ number = mod-eq_of_lt (omega (arith, all, n)) in
    omega (arith, least, small)

pub below_lt : (bound : ℕ) (draws : Draws) → 0 < bound → below bound draws < bound
unfolding below
below_lt bound draws some =
    subst (λ (n : ℕ). n < bound) (below_some bound (first_number draws) (omega (arith, some))) (mod-lt (first_number draws) some)
