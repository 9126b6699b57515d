use Rattle.std.proofs.Common.{◌≡◌, length, map, All}
use Rattle.std.specs.Iterator.Adapters.{zip_first, zip_second}
use Rattle.std.specs.Vec.Iter.{into_iter_items}
use Rattle.cb_crew.specs.Work.{IsFresh}
use Rattle.cb_crew.proofs.NewCrews.{IsMaking}
use Rattle.cb_crew.proofs.crew.Crew.place.Given as goal

abbrev pub invariant-loop-vacancy : goal.invariant-loop-vacancy
invariant-loop-vacancy g l =
    (goal.iterator-loop-vacancy g).can_next l.vacancy-iterator × (goal.iterator-loop-vacancy g).is_finite l.vacancy-iterator × IsMaking l.self (into_iter_items (zip_first l.vacancy-iterator)) (map g.W.Work.label (into_iter_items (zip_second l.vacancy-iterator))) l.hand × (length (into_iter_items (zip_second l.vacancy-iterator)) ≡ length (into_iter_items (zip_first l.vacancy-iterator))) × All (IsFresh g.W.Work.given g.W.Work.ticked g.W.Work.is_closed g.W.Work.is_whole) (into_iter_items (zip_second l.vacancy-iterator))
