use Rattle.std.proofs.Common.{◌≡◌, ◌++◌, take}
use Rattle.std.specs.Prelude.{map}
use Rattle.cb_audit.specs.Desks.{trace_of_work}
use Rattle.cb_audit.proofs.desks.with_desk.Given as goal

abbrev pub invariant-loop-work : goal.invariant-loop-work
invariant-loop-work g l = l.all.items ≡ l.fn.list.items ++ map trace_of_work (take l.work-index l.work-items)
