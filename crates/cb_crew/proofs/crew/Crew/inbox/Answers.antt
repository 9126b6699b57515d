use Rattle.cb_crew.proofs.Crews.{peer_at}
use Rattle.cb_crew.proofs.crew.Crew.inbox.Goals as goal
use Rattle.std.proofs.Common.{rules}

pub returns-clause-peer : goal.returns-clause-peer
returns-clause-peer g c = peer_at c.self.inside.inboxes.items c.args.peer c.deref.result.now c.self.invariant.in_order (search rules) (search rules)
