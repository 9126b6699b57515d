use Rattle.std.proofs.Common.{◌≡◌, None, take}
use Rattle.cb_audit.specs.Desks.{told_in, traces_of}
use Rattle.cb_audit.proofs.desk_counting.told_by_search.Given as goal

abbrev pub invariant-loop-desk : goal.invariant-loop-desk
invariant-loop-desk g l = told_in (traces_of (take l.desk-index l.desks)) l.connection ≡ None
