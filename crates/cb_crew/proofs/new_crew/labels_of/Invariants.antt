use Rattle.std.proofs.Common.{◌≡◌, map, take}
use Rattle.cb_crew.proofs.new_crew.labels_of.Given as goal

abbrev pub invariant-loop-work : goal.invariant-loop-work
invariant-loop-work g l = l.labels.items ≡ map g.W.Work.label (take l.work-index l.works)
