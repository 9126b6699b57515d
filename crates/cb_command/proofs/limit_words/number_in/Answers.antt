use Rattle.std.proofs.Common.{◌∙◌}
use Rattle.cb_command.proofs.Options.{plus_number_is}
use Rattle.cb_command.proofs.limit_words.number_in.Goals as goal

pub returns : goal.returns
returns c = c.ok.ensures.value ∙ plus_number_is c.args.text.now c.parse.result c.parse.ensures.value.0
