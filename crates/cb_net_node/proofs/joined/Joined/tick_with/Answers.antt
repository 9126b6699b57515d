use Rattle.std.proofs.Common.{ap, refl}
use Rattle.std.proofs.lemmas.Result.{on_ok_weaker}
use Rattle.cb_net_node.specs.declared.joined.Joined.TheVariants.{Forged}
use Rattle.cb_net_node.proofs.joined.Joined.tick_with.Goals as goal

pub returns-in-Honest-clause-ok : goal.returns-in-Honest-clause-ok
returns-in-Honest-clause-ok c =
    rw c.in-Honest.is (on_ok_weaker c.tick_one.result (λ ticks. (c.tick_one.new.link, refl, ticks)) c.tick_one.ensures.ok)

pub returns-in-Forged-clause-ok : goal.returns-in-Forged-clause-ok
returns-in-Forged-clause-ok c =
    rw c.in-Forged.is (on_ok_weaker c.tick.result (λ ticks. (c.tick.new.self.link, ap Forged c.tick.ensures.others, ticks)) c.tick.ensures.ok)
