use Rattle.std.proofs.Common.{rules, ◌≡◌, ap, ap₂, codes, ◌∙◌}
use Rattle.clap.specs.Words.{App, app_of, new_app, with_rule, with_subcommand}
use Rattle.cb_command.specs.Words.{run_line}
use Rattle.cb_command.proofs.Entering.{if_ok_more}
use Rattle.cb_command.proofs.commanding.scripted_line.Goals as goal

pub returns : goal.returns
returns c =
    let bare : app_of c.after_help.result ≡ new_app (codes "run") = search rules in
    let one = c.in_ok-arg.ensures.shape c.nodes_arg.ensures.local ∙ ap₂ with_rule bare c.nodes_arg.ensures.rule in
    let two = c.in_ok-arg-2.ensures.shape c.handlers_arg.ensures.local ∙ ap₂ with_rule one c.handlers_arg.ensures.rule in
    let script : app_of c.in_ok-script.script ≡ run_line = c.in_ok-script.ensures.shape c.stats_arg.ensures.local ∙ ap₂ with_rule two c.stats_arg.ensures.rule in
    if_ok_more c.subcommand.result (λ line adds. adds.shape (search rules) ∙ ap₂ with_subcommand c.in_ok-line.ensures (ap (λ (a : App). a.top) script)) c.subcommand.ensures
