use Rattle.std.proofs.Common.{◌≡◌, take}
use Rattle.std.specs.List.{flat_map}
use Rattle.cb_audit.specs.Desks.{traces_of_desk}
use Rattle.cb_audit.proofs.desks.traces.Given as goal

abbrev pub invariant-loop-desk : goal.invariant-loop-desk
invariant-loop-desk g l = l.all.items ≡ flat_map traces_of_desk (take l.desk-index l.desks)
