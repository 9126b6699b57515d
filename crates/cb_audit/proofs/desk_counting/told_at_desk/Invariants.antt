use Rattle.std.proofs.Common.{◌≡◌, None, take}
use Rattle.std.specs.Prelude.{map}
use Rattle.cb_audit.specs.Desks.{told_in, trace_of_work}
use Rattle.cb_audit.proofs.desk_counting.told_at_desk.Given as goal

abbrev pub invariant-loop-work : goal.invariant-loop-work
invariant-loop-work g l = told_in (map trace_of_work (take l.work-index l.work-items)) l.connection ≡ None
