-- Which answers are compared by a list that is made for it.
use Rattle.std.specs.Prelude.{Bool, true, false}
use Rattle.cb_hall.specs.declared.answer.Answer.{Answer}
use Rattle.cb_hall.specs.declared.answer.Answer.TheVariants as answer

-- The transactions that may be in a compact block (BIP 152) are a list only once they are listed.
abbrev pub is_listed : Answer → Bool
is_listed (answer.Pairs pairs) = true
is_listed other = false
