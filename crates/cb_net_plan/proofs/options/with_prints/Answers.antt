use Rattle.std.proofs.Common.{ap, ap₂, ◌∙◌}
use Rattle.clap.specs.Words.{app_of, with_rule}
use Rattle.cb_net_plan.proofs.Reading.{if_ok_more}
use Rattle.cb_net_plan.proofs.options.with_prints.Goals as goal

pub returns : goal.returns
returns c =
    let one = c.in_ok-arg.ensures.shape c.value_arg.ensures.local ∙ ap (with_rule (app_of c.args.net)) c.value_arg.ensures.rule in
    if_ok_more c.arg-2.result (λ more adds. adds.shape c.csv_arg.ensures.local ∙ ap₂ with_rule one c.csv_arg.ensures.rule) c.arg-2.ensures
