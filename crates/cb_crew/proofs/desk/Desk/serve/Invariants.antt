use Rattle.std.proofs.Common.{◌≡◌, ◌+◌}
use Rattle.cb_crew.specs.Desk.{HasServed, PastAfter, TickedOnce, first_label}
use Rattle.cb_crew.proofs.desk.Desk.serve.Given as goal

abbrev pub invariant-loop : goal.invariant-loop
invariant-loop g l = HasServed g.W.Work.given g.W.Work.is_closed l.fn.self l.self l.count.worked l.count.passed × (l.count.worked + l.count.passed ≡ l.counter) × TickedOnce g.W.Work.given g.W.Work.ticked g.W.Work.is_closed l.fn.self l.self × (first_label g.W.Work.label l.self ≡ first_label g.W.Work.label l.fn.self) × PastAfter g.W.Work.label g.W.Work.given g.W.Work.ticked g.W.Work.is_closed g.W.Work.weight l.fn.self l.self
