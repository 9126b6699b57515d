use Rattle.std.proofs.Common.{sym, ◌∙◌}
use Rattle.cb_command.proofs.Peers.{only_badge}
use Rattle.cb_command.proofs.serve.new_node.Goals as goal

pub returns-clause-badge : goal.returns-clause-badge
returns-clause-badge c = only_badge c.in-Some.ensures.0 c.in-Some.badge (sym c.in-Ok.ensures.badges ∙ c.in-Some.ensures.1)
