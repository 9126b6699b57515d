use Rattle.std.proofs.Common.{rules, ◌≡◌, ap, ap₂, codes, ◌∙◌}
use Rattle.clap.specs.Words.{app_of, new_app, with_rule}
use Rattle.cb_command.specs.NodeWords.{with_limits}
use Rattle.cb_command.specs.RpcWords.{with_rpc}
use Rattle.cb_command.proofs.Entering.{if_ok_more}
use Rattle.cb_command.proofs.node_words.node_line.Goals as goal

pub returns : goal.returns
returns c =
    let bare : app_of c.after_help.result ≡ new_app (codes "node") = search rules in
    let one = c.in_ok-arg.ensures.shape c.listen_arg.ensures.local ∙ ap₂ with_rule bare c.listen_arg.ensures.rule in
    let two = c.in_ok-arg-2.ensures.shape c.connect_arg.ensures.local ∙ ap₂ with_rule one c.connect_arg.ensures.rule in
    let three = c.in_ok-arg-3.ensures.shape c.threads_arg.ensures.local ∙ ap₂ with_rule two c.threads_arg.ensures.rule in
    let four = c.in_ok-node.ensures.shape c.tick_arg.ensures.local ∙ ap₂ with_rule three c.tick_arg.ensures.rule in
    let more = c.in_ok-with_limits.ensures ∙ ap with_limits four in
    let six = c.in_ok-arg-4.ensures.shape c.log_arg.ensures.local ∙ ap₂ with_rule more c.log_arg.ensures.rule in
    if_ok_more c.with_rpc.result (λ whole is. is ∙ ap with_rpc six) c.with_rpc.ensures
