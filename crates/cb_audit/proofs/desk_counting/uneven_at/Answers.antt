use Rattle.cb_audit.proofs.Searching.{found_in, none_more}
use Rattle.cb_audit.proofs.Uneven.{uneven_desks}
use Rattle.cb_audit.proofs.desk_counting.uneven_at.Goals as goal

pub returns-in-Some : goal.returns-in-Some
returns-in-Some g c =
    found_in (uneven_desks c.args.connections.now) c.args.desks.now c.loop-desk.desk-index c.desk-item.result c.uneven_at_desk.result c.in-Some.connection c.loop-desk.invariant c.loop-desk-test.true c.desk-item.is c.uneven_at_desk.ensures c.in-Some.is

pub loop-desk-preserved : goal.loop-desk-preserved
loop-desk-preserved g c =
    none_more (uneven_desks c.args.connections.now) c.args.desks.now c.loop-desk.desk-index c.desk-item.result c.uneven_at_desk.result c.loop-desk.invariant c.loop-desk-test.true c.desk-item.is c.uneven_at_desk.ensures c.in_default.is
