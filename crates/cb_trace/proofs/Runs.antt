-- Nonces one behind another, and lists in which each differs from the one before it.
use Rattle.std.proofs.Common.{◌≡◌, ◌≢◌, ℕ, zero, suc, ◌+◌, ◌<◌, ◌^◌, Bool, true, false, List, [], ◌∷◌, ◌++◌, get_or, length, refl, sym, ap, ◌∙◌, arith}
use Rattle.std.specs.Prelude.{◌%◌}
use Rattle.cb_peer_state.specs.Replying.{differ}
use Rattle.cb_peer_state.specs.Serving.{nonces_from}
use Rattle.cb_trace.specs.Whole.{AreAlternating}

-- ---- nonces

-- the nonce so many behind
abbrev pub behind : ℕ → ℕ → ℕ
behind nonce count = (nonce + count) % 2 ^ 64

behind_more : (nonce count : ℕ) → behind (behind nonce 1) count ≡ behind nonce (suc count)
behind_more nonce count = omega arith

pub run_length : (nonce count : ℕ) → length (nonces_from nonce count) ≡ count
run_length nonce zero = refl
run_length nonce (suc count) = (let rest = run_length (behind nonce 1) count in omega (arith, rest))

pub run_append : (nonce first more : ℕ) → nonce < 2 ^ 64 → nonces_from nonce first ++ nonces_from (behind nonce first) more ≡ nonces_from nonce (first + more)
run_append nonce zero more small =
    let start : behind nonce 0 ≡ nonce = omega (arith, small) in
    let none : more ≡ 0 + more = omega arith in
    ap (λ (n : ℕ). nonces_from n more) start ∙ ap (nonces_from nonce) none
run_append nonce (suc first) more small =
    let next : behind nonce 1 < 2 ^ 64 = omega arith in
    let one : suc (first + more) ≡ suc first + more = omega arith in
    ap (λ (l : List ℕ). nonce ∷ l) (ap (λ (n : ℕ). nonces_from (behind nonce 1) first ++ nonces_from n more) (sym (behind_more nonce first)) ∙ run_append (behind nonce 1) first more next) ∙ ap (nonces_from nonce) one

pub run_at : (nonce count k : ℕ) → nonce < 2 ^ 64 → k < count → get_or (nonces_from nonce count) k 0 ≡ behind nonce k
run_at nonce zero k small within = absurd (omega (arith, within))
run_at nonce (suc count) zero small within = omega (arith, small)
run_at nonce (suc count) (suc k) small within =
    let next : behind nonce 1 < 2 ^ 64 = omega arith in
    run_at (behind nonce 1) count k next (omega (arith, within)) ∙ behind_more nonce k

apart : (nonce i j : ℕ) → i < j → j < 2 ^ 64 → behind nonce i ≢ behind nonce j
apart nonce i j before small same = omega (arith, before, small, same)

pub run_once : (nonce i j : ℕ) (nonces : List ℕ) → nonces ≡ nonces_from nonce (length nonces) → nonce < 2 ^ 64 → i < j → j < length nonces → j < 2 ^ 64 → get_or nonces i 0 ≢ get_or nonces j 0
run_once nonce i j nonces is small before within few same =
    let at_i = ap (λ (l : List ℕ). get_or l i 0) is ∙ run_at nonce (length nonces) i small (omega (arith, before, within)) in
    let at_j = ap (λ (l : List ℕ). get_or l j 0) is ∙ run_at nonce (length nonces) j small within in
    apart nonce i j before few (sym at_i ∙ same ∙ at_j)

-- ---- wishes

-- the last of them, or false where there is none
abbrev pub last_of : List Bool → Bool
last_of [] = false
last_of (first ∷ []) = first
last_of (first ∷ (next ∷ others)) = last_of (next ∷ others)

pub last_more : (highs : List Bool) (high : Bool) → last_of (highs ++ high ∷ []) ≡ high
last_more [] high = refl
last_more (first ∷ []) high = refl
last_more (first ∷ (next ∷ others)) high = last_more (next ∷ others) high

pub alternates_more : (highs : List Bool) (high : Bool) → AreAlternating highs → differ (last_of highs) high ≡ true → AreAlternating (highs ++ high ∷ [])
alternates_more [] high each other = tt
alternates_more (first ∷ []) high each other = (other, tt)
alternates_more (first ∷ (next ∷ others)) high each other = (each.0, alternates_more (next ∷ others) high each.1 other)
