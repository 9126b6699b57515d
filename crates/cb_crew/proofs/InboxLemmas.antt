-- One mark more of a list was taken.
use Rattle.std.proofs.Common.{◌≡◌, ℕ, suc, zero, ◌+◌, Bool, List, [], ◌∷◌, ◌++◌, take, drop, refl, ap}
use Rattle.std.proofs.Math.Numerals.{add-one}
use Rattle.std.proofs.lemmas.List.{drop-drop}
use Rattle.cb_crew.specs.Line.{Line, line_taken}

front_step : {M : Type 0} (n : ℕ) (ms : List M) → take (suc n) ms ≡ take n ms ++ take 1 (drop n ms)
front_step zero ms = refl
front_step (suc n) [] = refl
front_step (suc n) (m ∷ ms) = ap (λ rest. m ∷ rest) (front_step n ms)

abbrev pub line_at : {M : Type 0} → List M → ℕ → Bool → Line M
line_at ms n ended = record { queued = ms; inbox = drop n ms; taken = take n ms; ended = ended }

pub line_at_more : {M : Type 0} (ms : List M) (n : ℕ) (ended : Bool) → line_at ms (n + 1) ended ≡ line_taken (line_at ms n ended)
line_at_more ms n ended = rw (drop-drop 1 n ms, add-one, front_step n ms) refl
