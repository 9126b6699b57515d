use Rattle.std.proofs.Common.{◌≡◌, take}
use Rattle.std.specs.Prelude.{map}
use Rattle.cb_audit.specs.Desks.{trace_of_work}
use Rattle.cb_audit.proofs.Badges.{badged, told_in_all}
use Rattle.cb_audit.proofs.desks.badges_count_at.Given as goal

abbrev pub invariant-loop-work : goal.invariant-loop-work
invariant-loop-work g l = told_in_all (map trace_of_work (take l.work-index l.work-items)) ≡ badged (take l.work-index l.work-items)
