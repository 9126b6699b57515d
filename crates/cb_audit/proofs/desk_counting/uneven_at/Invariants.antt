use Rattle.std.proofs.Common.{◌≡◌, None, take}
use Rattle.cb_audit.specs.Desks.{traces_of, uneven_in}
use Rattle.cb_audit.proofs.desk_counting.uneven_at.Given as goal

abbrev pub invariant-loop-desk : goal.invariant-loop-desk
invariant-loop-desk g l = uneven_in l.connections (traces_of (take l.desk-index l.desks)) ≡ None
