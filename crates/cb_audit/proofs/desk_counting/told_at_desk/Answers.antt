use Rattle.cb_audit.proofs.Searching.{by_last, found_before, none_more}
use Rattle.cb_audit.proofs.Uneven.{told_works}
use Rattle.cb_audit.proofs.desk_counting.told_at_desk.Goals as goal

pub returns-in-Some : goal.returns-in-Some
returns-in-Some g c =
    found_before (told_works c.args.connection) c.past-work-items.result.now c.args.desk.now.past c.args.desk.now.work c.loop-work.work-index c.work-item.result c.told_by_work.result c.in-Some.told c.past-work-items.ensures.past
    c.loop-work.invariant c.loop-work-test.true c.work-item.is c.told_by_work.ensures c.in-Some.is

pub loop-work-preserved : goal.loop-work-preserved
loop-work-preserved g c =
    none_more (told_works c.args.connection) c.past-work-items.result.now c.loop-work.work-index c.work-item.result c.told_by_work.result c.loop-work.invariant c.loop-work-test.true c.work-item.is c.told_by_work.ensures c.in_default.is

pub returns : goal.returns
returns g c =
    by_last (told_works c.args.connection) c.past-work-items.result.now c.args.desk.now.past c.args.desk.now.work c.work.result.now c.loop-work.work-index c.told_by_work-2.result c.past-work-items.ensures.past c.loop-work.invariant
    c.loop-work-test.false c.work.ensures c.told_by_work-2.ensures
