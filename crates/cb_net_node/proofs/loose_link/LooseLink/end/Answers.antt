use Rattle.std.proofs.Common.{[]}
use Rattle.cb_net_node.proofs.Handing.{closes_went}
use Rattle.cb_net_node.proofs.Loosely.{loose_ended}
use Rattle.cb_net_node.proofs.loose_link.LooseLink.end.Goals as goal

pub invariant_of-self : goal.invariant_of-self
invariant_of-self c =
    loose_ended c.self.inside.lasts c.self.inside.end c.close.new.self c.self.inside.sent c.clear.new.self []
    (closes_went c.self.inside.lasts [] c.self.inside.end.badge c.self.inside.end.trace c.close.new.self.trace c.close.ensures.closes) c.self.invariant
