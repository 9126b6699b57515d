use Rattle.std.proofs.Common.{◌≡◌, ◌-◌, true, length, vec_capacity, All}
use Rattle.cb_crew.specs.Past.{Keeps, OldestLetGo}
use Rattle.cb_crew.proofs.past.lighten_oldest.Given as goal

abbrev pub invariant-loop-kept : goal.invariant-loop-kept
invariant-loop-kept g l = Keeps g.W.Work.weight l.works.items l.gone l.kept
    × OldestLetGo g.W.Work.label g.W.Work.given g.W.Work.ticked g.W.Work.is_closed g.W.Work.weight l.fn.works.items l.works.items
    × All (λ work. g.W.Work.is_closed work ≡ true) l.works.items
    × (vec_capacity l.works ≡ vec_capacity l.fn.works)

abbrev pub decreases-loop-kept : goal.decreases-loop-kept
decreases-loop-kept g l = length l.works.items - l.gone
