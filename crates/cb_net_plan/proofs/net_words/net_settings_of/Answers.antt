use Rattle.std.proofs.Common.{ap, ◌∙◌}
use Rattle.cb_net_plan.specs.NetWords.{asked_settings}
use Rattle.cb_net_plan.proofs.Reading.{net_rows_are}
use Rattle.cb_net_plan.proofs.net_words.net_settings_of.Goals as goal

pub returns : goal.returns
returns c =
    c.asked_settings.ensures ∙ ap asked_settings (net_rows_are c.args.matches.now c.subcommand_matches.result c.subcommand_matches.ensures.found c.subcommand_matches.ensures.rows)
