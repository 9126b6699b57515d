use Rattle.cb_audit.proofs.Placed.{told_if_here}
use Rattle.cb_audit.proofs.desk_counting.told_at_place.Goals as goal

pub returns : goal.returns
returns g c =
    told_if_here c.args.desks.now c.args.connection c.from.result _ c.in_ok-desk.desk.now c.in_ok-work.work.now c.told_by_work.result c.requires.order c.in_ok-desk.ensures.lookup.3.0 c.in_ok-desk.ensures.lookup.1 c.in_ok-work.ensures
    c.told_by_work.ensures
