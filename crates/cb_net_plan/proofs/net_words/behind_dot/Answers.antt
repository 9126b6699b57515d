use Rattle.std.proofs.Common.{arith}
use Rattle.std.proofs.lemmas.Str.Pattern.{strip_prefix_char}
use Rattle.cb_net_plan.proofs.Reading.{behind_is}
use Rattle.cb_net_plan.proofs.net_words.behind_dot.Goals as goal

pub returns : goal.returns
returns c = behind_is 46 c.args.text.now c.strip_prefix.result (strip_prefix_char 46 c.args.text.now c.strip_prefix.result c.strip_prefix.ensures.cases (omega arith))
