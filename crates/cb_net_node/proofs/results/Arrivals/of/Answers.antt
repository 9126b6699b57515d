use Rattle.cb_net_node.proofs.Counting.{one_way}
use Rattle.cb_net_node.proofs.results.Arrivals.of.Goals as goal

pub returns-clause-ways : goal.returns-clause-ways
returns-clause-ways c =
    one_way c.args.mined c.args.nodes.now c.in_ok-times.times.items _ _ _ c.in_ok-times.ensures.times c.count_at_once.ensures c.count_by_asking.ensures c.count_whole.ensures
