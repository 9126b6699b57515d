use Rattle.std.proofs.Common.{ap, refl}
use Rattle.std.proofs.lemmas.Result.{on_ok_weaker}
use Rattle.cb_net_node.specs.declared.joined.Joined.TheVariants.{Forged}
use Rattle.cb_net_node.proofs.joined.Joined.hear_with.Goals as goal

pub returns-in-Honest-clause-ok : goal.returns-in-Honest-clause-ok
returns-in-Honest-clause-ok c =
    rw c.in-Honest.is (on_ok_weaker c.hear_one.result (λ hears. (c.hear_one.new.link, refl, hears)) c.hear_one.ensures.ok)

pub returns-in-Forged-clause-ok : goal.returns-in-Forged-clause-ok
returns-in-Forged-clause-ok c =
    rw c.in-Forged.is (on_ok_weaker c.hear.result (λ hears. (c.hear.new.self.link, ap Forged c.hear.ensures.others, hears)) c.hear.ensures.ok)
