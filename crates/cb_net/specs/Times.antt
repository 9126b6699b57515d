-- Times in microseconds, as they are printed: in whole milliseconds.
use Rattle.std.specs.Prelude.{ℕ, ◌/◌, List, [], codes, Option, Some, None}
use Rattle.std.specs.Fmt.{decimal}

-- a dash stands for no time
abbrev pub time_text : Option ℕ → List ℕ
time_text None = codes "-"
time_text (Some time) = decimal (time / 1000)

-- in a row, nothing does
abbrev pub cell_text : Option ℕ → List ℕ
cell_text None = []
cell_text (Some time) = decimal (time / 1000)
