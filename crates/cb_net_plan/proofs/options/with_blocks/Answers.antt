use Rattle.std.proofs.Common.{ap, ap₂, ◌∙◌}
use Rattle.clap.specs.Words.{app_of, with_rule}
use Rattle.cb_net_plan.proofs.Reading.{if_ok_more}
use Rattle.cb_net_plan.proofs.options.with_blocks.Goals as goal

pub returns : goal.returns
returns c =
    let one = c.in_ok-arg.ensures.shape c.number_arg.ensures.local ∙ ap (with_rule (app_of c.args.net)) c.number_arg.ensures.rule in
    let two = c.in_ok-arg-2.ensures.shape c.number_arg-2.ensures.local ∙ ap₂ with_rule one c.number_arg-2.ensures.rule in
    let three = c.in_ok-arg-3.ensures.shape c.number_arg-3.ensures.local ∙ ap₂ with_rule two c.number_arg-3.ensures.rule in
    if_ok_more c.arg-4.result (λ more adds. adds.shape c.number_arg-4.ensures.local ∙ ap₂ with_rule three c.number_arg-4.ensures.rule) c.arg-4.ensures
