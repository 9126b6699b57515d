use Rattle.cb_audit.proofs.Searching.{by_last, found_before, none_more}
use Rattle.cb_audit.proofs.Uneven.{uneven_works}
use Rattle.cb_audit.proofs.desk_counting.uneven_at_desk.Goals as goal

pub returns-in-Some : goal.returns-in-Some
returns-in-Some g c =
    found_before (uneven_works c.args.connections.now) c.past-work-items.result.now c.args.desk.now.past c.args.desk.now.work c.loop-work.work-index c.work-item.result c.uneven_work.result c.in-Some.connection c.past-work-items.ensures.past
    c.loop-work.invariant c.loop-work-test.true c.work-item.is c.uneven_work.ensures c.in-Some.is

pub loop-work-preserved : goal.loop-work-preserved
loop-work-preserved g c =
    none_more (uneven_works c.args.connections.now) c.past-work-items.result.now c.loop-work.work-index c.work-item.result c.uneven_work.result c.loop-work.invariant c.loop-work-test.true c.work-item.is c.uneven_work.ensures c.in_default.is

pub returns : goal.returns
returns g c =
    by_last (uneven_works c.args.connections.now) c.past-work-items.result.now c.args.desk.now.past c.args.desk.now.work c.work.result.now c.loop-work.work-index c.uneven_work-2.result c.past-work-items.ensures.past c.loop-work.invariant
    c.loop-work-test.false c.work.ensures c.uneven_work-2.ensures
