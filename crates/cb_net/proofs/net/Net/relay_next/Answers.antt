use Rattle.cb_net.proofs.Settled.{settled_once}
use Rattle.cb_net.proofs.net.Net.relay_next.Goals as goal

pub returns-clause-settles : goal.returns-clause-settles
returns-clause-settles c =
    settled_once c.relay.result c.args.self.now c.disturb.new.self c.tell_next.new.self c.forget.new.self c.settle.new.self c.relay.new.self c.disturb.ensures.ages c.tell_next.ensures.ages c.forget.ensures c.settle.ensures c.relay.ensures.ages
    c.relay.ensures.total
