use Rattle.std.proofs.Common.{◌≡◌, ap, ap₂, ◌∙◌}
use Rattle.clap.specs.Words.{App, app_of, with_subcommand}
use Rattle.clap.proofs.SimpleLemmas.{plain_fields}
use Rattle.cb_command.specs.NodeWords.{node_line}
use Rattle.cb_command.proofs.Entering.{if_ok_more}
use Rattle.cb_command.proofs.commanding.peered_line.Goals as goal

pub returns : goal.returns
returns c =
    let node : app_of c.in_ok-node.node ≡ node_line = c.in_ok-node.ensures in
    let plain = plain_fields c.in_ok-node.node (ap (λ (a : App). a.top.is_plain) node) in
    if_ok_more c.subcommand.result (λ line adds. adds.shape plain.globals ∙ ap₂ with_subcommand c.in_ok-line.ensures (ap (λ (a : App). a.top) node)) c.subcommand.ensures
