use Rattle.std.proofs.Common.{◌≡◌, ap, ap₂, ◌∙◌}
use Rattle.clap.specs.Words.{App, app_of, with_subcommand}
use Rattle.clap.proofs.SimpleLemmas.{plain_fields}
use Rattle.cb_net_plan.specs.NetLine.{net_line}
use Rattle.cb_command.proofs.Entering.{if_ok_more}
use Rattle.cb_command.proofs.commanding.command_line.Goals as goal

pub returns : goal.returns
returns c =
    let net : app_of c.in_ok-net.net ≡ net_line = c.in_ok-net.ensures in
    let plain = plain_fields c.in_ok-net.net (ap (λ (a : App). a.top.is_plain) net) in
    if_ok_more c.subcommand.result (λ line adds. adds.shape plain.globals ∙ ap₂ with_subcommand c.in_ok-line.ensures (ap (λ (a : App). a.top) net)) c.subcommand.ensures
