use Rattle.cb_audit.proofs.Searching.{found_in, none_more}
use Rattle.cb_audit.proofs.Uneven.{told_desks}
use Rattle.cb_audit.proofs.desk_counting.told_by_search.Goals as goal

pub returns-in-Some : goal.returns-in-Some
returns-in-Some g c =
    found_in (told_desks c.args.connection) c.args.desks.now c.loop-desk.desk-index c.desk-item.result c.told_at_desk.result c.in-Some.told c.loop-desk.invariant c.loop-desk-test.true c.desk-item.is c.told_at_desk.ensures c.in-Some.is

pub loop-desk-preserved : goal.loop-desk-preserved
loop-desk-preserved g c =
    none_more (told_desks c.args.connection) c.args.desks.now c.loop-desk.desk-index c.desk-item.result c.told_at_desk.result c.loop-desk.invariant c.loop-desk-test.true c.desk-item.is c.told_at_desk.ensures c.in_default.is
