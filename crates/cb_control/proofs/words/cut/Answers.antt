use Rattle.std.proofs.lemmas.Str.Pattern.{split_parts}
use Rattle.std.proofs.Common.{arith}
use Rattle.cb_control.proofs.WordLemmas.{cut_is}
use Rattle.cb_control.proofs.words.cut.Goals as goal

pub returns : goal.returns
returns c = cut_is c.args.text.now c.split_once.result (split_parts 32 c.args.text.now c.split_once.result c.split_once.ensures.cases (omega arith))
