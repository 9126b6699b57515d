use Rattle.std.proofs.Common.{ap, ap₂, ◌∙◌}
use Rattle.clap.specs.Words.{app_of, with_rule}
use Rattle.cb_net_plan.proofs.Reading.{if_ok_more}
use Rattle.cb_net_plan.proofs.options.with_links.Goals as goal

pub returns : goal.returns
returns c =
    let one = c.in_ok-arg.ensures.shape c.nodes_arg.ensures.local ∙ ap (with_rule (app_of c.args.net)) c.nodes_arg.ensures.rule in
    let two = c.in_ok-arg-2.ensures.shape c.number_arg.ensures.local ∙ ap₂ with_rule one c.number_arg.ensures.rule in
    let three = c.in_ok-arg-3.ensures.shape c.wide_arg.ensures.local ∙ ap₂ with_rule two c.wide_arg.ensures.rule in
    let four = c.in_ok-arg-4.ensures.shape c.value_arg.ensures.local ∙ ap₂ with_rule three c.value_arg.ensures.rule in
    if_ok_more c.arg-5.result (λ more adds. adds.shape c.wide_arg-2.ensures.local ∙ ap₂ with_rule four c.wide_arg-2.ensures.rule) c.arg-5.ensures
