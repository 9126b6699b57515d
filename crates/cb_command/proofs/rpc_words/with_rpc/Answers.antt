use Rattle.std.proofs.Common.{ap, ap₂, ◌∙◌}
use Rattle.clap.specs.Words.{app_of, with_rule}
use Rattle.cb_command.proofs.Entering.{if_ok_more}
use Rattle.cb_command.proofs.rpc_words.with_rpc.Goals as goal

pub returns : goal.returns
returns c =
    let one = c.in_ok-arg.ensures.shape c.rpc_arg.ensures.local ∙ ap (with_rule (app_of c.args.node)) c.rpc_arg.ensures.rule in
    let two = c.in_ok-arg-2.ensures.shape c.user_arg.ensures.local ∙ ap₂ with_rule one c.user_arg.ensures.rule in
    let three = c.in_ok-arg-3.ensures.shape c.password_arg.ensures.local ∙ ap₂ with_rule two c.password_arg.ensures.rule in
    let four = c.in_ok-arg-4.ensures.shape c.remote_arg.ensures.local ∙ ap₂ with_rule three c.remote_arg.ensures.rule in
    if_ok_more c.arg-5.result (λ more adds. adds.shape c.no_input_arg.ensures.local ∙ ap₂ with_rule four c.no_input_arg.ensures.rule) c.arg-5.ensures
