use Rattle.cb_net_node.proofs.Handing.{link_begun}
use Rattle.cb_net_node.proofs.net_link.NetLink.new.Goals as goal

pub invariant_of-result : goal.invariant_of-result
invariant_of-result c = link_begun c.args.first c.args.second _ c.in_ok-ends.ensures.begun
