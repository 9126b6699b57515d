use Rattle.std.proofs.Common.{◌≡◌, true}
use Rattle.cb_net_node.proofs.Loosely.{loose_took}
use Rattle.cb_net_node.proofs.loose_link.LooseLink.take.Goals as goal

pub invariant_of-self : goal.invariant_of-self
invariant_of-self c =
    let lasts : c.self.inside.lasts ≡ true = cc in
    loose_took c.self.inside.lasts c.self.inside.end c.self.inside.sent c.next.new.self c.next.result lasts c.next.ensures.first c.self.invariant
