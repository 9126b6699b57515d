use Rattle.cb_crew.proofs.Finishing.{IsSettledTo}
use Rattle.cb_crew.proofs.crew.Crew.settle_all.Given as goal

abbrev pub invariant-loop-peer : goal.invariant-loop-peer
invariant-loop-peer g l = record {
  can : (goal.iterator-loop-peer g).can_next l.peer-iterator;
  finite : (goal.iterator-loop-peer g).is_finite l.peer-iterator;
  settled : IsSettledTo g.W.Work.label g.W.Work.given g.W.Work.ticked g.W.Work.is_closed g.W.Work.is_whole g.W.Work.weight l.fn.self l.fn.sides.items l.peer-iterator.iter.rest.items l.desks.items l.peer-iterator.count;
}
