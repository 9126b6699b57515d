use Rattle.std.proofs.Common.{ap}
use Rattle.std.proofs.lemmas.Result.{on_ok_weaker}
use Rattle.cb_net_node.specs.declared.joined.Joined.TheVariants.{Forged}
use Rattle.cb_net_node.proofs.joined.Joined.hear_by_hand.Goals as goal

pub returns-in-Forged-clause-ok : goal.returns-in-Forged-clause-ok
returns-in-Forged-clause-ok c =
    rw c.in-Forged.is (on_ok_weaker c.hear_by_hand.result (λ answers. (c.hear_by_hand.new.self.link, ap Forged c.hear_by_hand.ensures.others, answers)) c.hear_by_hand.ensures.ok)
