use Rattle.crossbeam_queue.specs.Passes.{view, IsPassOf}
use Rattle.cb_crew.specs.Hand.{IsOpening}
use Rattle.cb_crew.proofs.ring.Ring.new.Given as goal

abbrev pub invariant-loop-grown : goal.invariant-loop-grown
invariant-loop-grown g l = IsPassOf l.queue l.pass × IsOpening l.grown (view l.pass)
