use Rattle.std.proofs.lemmas.Result.{on_ok_weaker}
use Rattle.cb_net_node.proofs.ForgingLemmas.{misbehaved}
use Rattle.cb_net_node.proofs.forged_link.ForgedLink.misbehave.Goals as goal

pub returns-clause-ok : goal.returns-clause-ok
returns-clause-ok c =
    on_ok_weaker c.say.result
    (λ says.
    misbehaved c.args.misdeed c.args.block.now _ c.args.self.now c.turn.new.self c.say.new.self c.in_ok-said.said c.in_ok-copy.ensures.same c.in_ok-said.ensures.message c.turn.ensures c.say.ensures.others says)
    c.say.ensures.ok
