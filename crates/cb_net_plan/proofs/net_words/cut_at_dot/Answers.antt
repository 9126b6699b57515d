use Rattle.std.proofs.Common.{arith}
use Rattle.std.proofs.lemmas.Str.Pattern.{split_parts}
use Rattle.cb_net_plan.proofs.Reading.{cut_is}
use Rattle.cb_net_plan.proofs.net_words.cut_at_dot.Goals as goal

pub returns : goal.returns
returns c = cut_is 46 c.args.text.now c.split_once.result (split_parts 46 c.args.text.now c.split_once.result c.split_once.ensures.cases (omega arith))
