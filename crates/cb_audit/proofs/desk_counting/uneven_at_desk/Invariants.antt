use Rattle.std.proofs.Common.{◌≡◌, None, take}
use Rattle.std.specs.Prelude.{map}
use Rattle.cb_audit.specs.Desks.{trace_of_work, uneven_in}
use Rattle.cb_audit.proofs.desk_counting.uneven_at_desk.Given as goal

abbrev pub invariant-loop-work : goal.invariant-loop-work
invariant-loop-work g l = uneven_in l.connections (map trace_of_work (take l.work-index l.work-items)) ≡ None
