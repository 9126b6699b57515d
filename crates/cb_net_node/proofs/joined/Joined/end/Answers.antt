use Rattle.std.proofs.Common.{ap, refl}
use Rattle.cb_net_node.specs.declared.joined.Joined.TheVariants.{Forged}
use Rattle.cb_net_node.proofs.joined.Joined.end.Goals as goal

pub returns-in-Honest-clause-over : goal.returns-in-Honest-clause-over
returns-in-Honest-clause-over c = rw c.in-Honest.is (c.end.new.self, refl, c.end.ensures.ended, c.end.ensures.closed)

pub returns-in-Forged-clause-over : goal.returns-in-Forged-clause-over
returns-in-Forged-clause-over c =
    rw c.in-Forged.is (c.end-in-Forged.new.self.link, ap Forged c.end-in-Forged.ensures.others, c.end-in-Forged.ensures.over)
