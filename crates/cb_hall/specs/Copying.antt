-- What can be copied without failing (this node's own choice). It holds no list, whose copy would
-- need memory. It shares nothing, so no count of owners can overflow.
use Rattle.std.specs.Prelude.{Bool, true, false}
use Rattle.cb_hall.specs.declared.entry.Entry.{Entry}
use Rattle.cb_hall.specs.declared.entry.Entry.TheVariants.{Asked, Submitted}
use Rattle.cb_hall.specs.declared.question.Question.{Question}
use Rattle.cb_hall.specs.declared.question.Question.TheVariants as question

abbrev pub is_plain_question : Question → Bool
is_plain_question question.Admit = true
is_plain_question question.Locator = true
is_plain_question (question.News since) = true
is_plain_question other = false

abbrev pub is_plain_entry : Entry → Bool
is_plain_entry (Asked connection question) = is_plain_question question
is_plain_entry (Submitted local) = false
is_plain_entry other = true
