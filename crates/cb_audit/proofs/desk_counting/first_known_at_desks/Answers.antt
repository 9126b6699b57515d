use Rattle.cb_audit.proofs.Numbers.{even_below, first_below}
use Rattle.cb_audit.specs.Desks.{traces_of}
use Rattle.cb_audit.proofs.desk_counting.first_known_at_desks.Goals as goal

pub returns-in-Some : goal.returns-in-Some
returns-in-Some g c = first_below c.args.connections.now (traces_of c.args.desks.now) c.loop-peer.peer c.in-Some.connection c.loop-peer.invariant c.in-Some.ensures.found c.in-Some.ensures.peer

pub loop-peer-preserved : goal.loop-peer-preserved
loop-peer-preserved g c = even_below c.args.connections.now (traces_of c.args.desks.now) c.loop-peer.peer c.loop-peer.invariant c.in_default.ensures.found
