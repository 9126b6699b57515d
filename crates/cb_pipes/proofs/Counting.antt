-- Dropped lines are counted once.
use Rattle.std.proofs.Common.{◌≡◌, ℕ, ◌+◌, suc, Bool, true, false, List, [], ◌∷◌, ◌++◌, append_assoc, ap, sym, ◌∙◌, sum, arith}
use Rattle.std.proofs.lemmas.List.Sums.{sum_by-cons}
use Rattle.std.specs.Prelude.{codes}
use Rattle.std.specs.Fmt.{decimal}
use Rattle.cb_pipes.specs.Logging.{count_text, dropped_in, left_of, told_by}

counted : (before : ℕ) (outcomes : List Bool) → sum (told_by before outcomes) + left_of before outcomes ≡ before + dropped_in outcomes
counted before [] = let one : 0 + before ≡ before + 0 = omega arith in one
counted before (true ∷ outcomes) =
    let rest : sum (told_by 0 outcomes) + left_of 0 outcomes ≡ 0 + dropped_in outcomes = counted 0 outcomes in
    let first : sum (before ∷ told_by 0 outcomes) ≡ before + sum (told_by 0 outcomes) = sum_by-cons (λ (n : ℕ). n) before (told_by 0 outcomes) in
    let all : sum (before ∷ told_by 0 outcomes) + left_of 0 outcomes ≡ before + dropped_in outcomes = omega arith in
    all
counted before (false ∷ outcomes) =
    let rest : sum (told_by (suc before) outcomes) + left_of (suc before) outcomes ≡ suc before + dropped_in outcomes = counted (suc before) outcomes in
    let all : sum (told_by (suc before) outcomes) + left_of (suc before) outcomes ≡ before + suc (dropped_in outcomes) = omega arith in
    all

pub counted_once : (outcomes : List Bool) → sum (told_by 0 outcomes) + left_of 0 outcomes ≡ dropped_in outcomes
counted_once outcomes = let all : sum (told_by 0 outcomes) + left_of 0 outcomes ≡ 0 + dropped_in outcomes = counted 0 outcomes in omega arith

-- the line of a count, as it is written: what is appended leans to the right, and a definition to the left
pub count_put : (old new stamp : List ℕ) (dropped : ℕ) → new ≡ old ++ (stamp ++ (codes "[WARN  cbrelay] " ++ (decimal dropped ++ codes " lines of the log were dropped\n"))) → new ≡ old ++ count_text stamp dropped
count_put old new stamp dropped e =
    e ∙ ap (λ (l : List ℕ). old ++ l) (sym (append_assoc (stamp ++ codes "[WARN  cbrelay] ") (decimal dropped) (codes " lines of the log were dropped\n") ∙ append_assoc stamp (codes "[WARN  cbrelay] ") (decimal dropped ++ codes " lines of the log were dropped\n")))
