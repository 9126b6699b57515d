use Rattle.std.proofs.Common.{◌∙◌}
use Rattle.cb_net_plan.proofs.Reading.{number_is}
use Rattle.cb_net_plan.proofs.net_words.wide_in.Goals as goal

pub returns : goal.returns
returns c = c.ok.ensures.value ∙ number_is 64 c.args.text.now c.parse.result c.parse.ensures.value.0
