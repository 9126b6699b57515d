use Rattle.std.proofs.Common.{◌≡◌}
use Rattle.cb_crew.specs.Laws.{IsBeginning}
use Rattle.cb_crew.specs.Desk.{IsSameDesk, NotTicked, PastAfter, first_label}
use Rattle.cb_crew.proofs.desk.Desk.serve_all.Given as goal

abbrev pub invariant-loop : goal.invariant-loop
invariant-loop g l = IsSameDesk l.fn.self l.self × IsBeginning l.fn.self.taken l.self.taken × NotTicked g.W.Work.ticked l.fn.self l.self × (first_label g.W.Work.label l.self ≡ first_label g.W.Work.label l.fn.self) × PastAfter g.W.Work.label g.W.Work.given g.W.Work.ticked g.W.Work.is_closed g.W.Work.weight l.fn.self l.self
