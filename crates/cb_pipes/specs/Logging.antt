-- The lines of a log of which some are dropped.
use Rattle.std.specs.Prelude.{◌≡◌, ℕ, suc, ◌==◌, Bool, true, false, if◌then◌else◌, List, [], ◌∷◌, ◌++◌, codes, string_bytes, Option, None, Some, ⊤}
use Rattle.std.specs.Fmt.{decimal}
use Rattle.cb_pipes.specs.declared.log_line.LogLine.{LogLine}

-- the line that tells how many lines were dropped
abbrev pub count_text : List ℕ → ℕ → List ℕ
count_text stamp dropped =
    stamp ++ codes "[WARN  cbrelay] " ++ decimal dropped ++ codes " lines of the log were dropped\n"

-- the same, if any were
abbrev pub loss_text : List ℕ → ℕ → List ℕ
loss_text stamp dropped = if dropped == 0 then [] else count_text stamp dropped

-- a line, behind the one that tells how many were dropped before it
abbrev pub line_text : LogLine → List ℕ
line_text line =
    loss_text (string_bytes line.stamp) line.dropped ++ string_bytes line.stamp
    ++ string_bytes line.text ++ 10 ∷ []

-- known lines grow by these
abbrev pub Gets : Option (List LogLine) → Option (List LogLine) → List LogLine → Type 0
Gets None new lines = ⊤
Gets (Some held) None lines = ⊥
Gets (Some held) (Some holds) lines = holds ≡ held ++ lines

-- ---- which lines went out: a list of yes and no, the first line's first

-- how many lines were dropped
abbrev pub dropped_in : List Bool → ℕ
dropped_in [] = 0
dropped_in (true ∷ outcomes) = dropped_in outcomes
dropped_in (false ∷ outcomes) = suc (dropped_in outcomes)

-- how many were dropped behind the last that went out, where so many were before the first
abbrev pub left_of : ℕ → List Bool → ℕ
left_of before [] = before
left_of before (true ∷ outcomes) = left_of 0 outcomes
left_of before (false ∷ outcomes) = left_of (suc before) outcomes

-- what the lines that went out tell: how many were dropped before each
abbrev pub told_by : ℕ → List Bool → List ℕ
told_by before [] = []
told_by before (true ∷ outcomes) = before ∷ told_by 0 outcomes
told_by before (false ∷ outcomes) = told_by (suc before) outcomes
