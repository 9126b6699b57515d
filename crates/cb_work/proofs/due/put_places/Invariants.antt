use Rattle.std.proofs.Common.{◌≡◌, ◌++◌, take}
use Rattle.cb_work.specs.Due.{is_due_as, places_where}
use Rattle.cb_work.proofs.due.put_places.Given as goal

abbrev pub invariant-loop-place : goal.invariant-loop-place
invariant-loop-place l = l.places.items ≡ l.initial.places.items ++ places_where (is_due_as l.tip l.high) 0 (take l.place l.all)
