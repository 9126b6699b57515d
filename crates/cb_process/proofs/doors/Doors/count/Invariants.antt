use Rattle.std.proofs.Common.{◌≡◌, take}
use Rattle.std.specs.Prelude.{count_by}
use Rattle.cb_process.specs.Doors.{is_of}
use Rattle.cb_process.proofs.doors.Doors.count.Given as goal

-- those so far
abbrev pub invariant-loop-entry : goal.invariant-loop-entry
invariant-loop-entry l = l.count ≡ count_by (is_of l.host) (take l.entry-index l.self)
