-- How a mark is printed.
use Rattle.std.specs.Prelude.{ℕ, List, codes}
use Rattle.std.specs.Fmt.{decimal}
use Rattle.cb_crew.specs.declared.act.Mark.{Mark}
use Rattle.cb_crew.specs.declared.act.Mark.TheVariants.{Item, End, Open}

-- an item as its decimal digits, the two other marks as a word
abbrev pub mark_text : Mark → List ℕ
mark_text (Item x) = decimal x
mark_text End = codes "end"
mark_text Open = codes "open"
