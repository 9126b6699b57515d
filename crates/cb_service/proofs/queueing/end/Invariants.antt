use Rattle.std.proofs.Common.{◌≡◌}
use Rattle.cb_crew.specs.declared.reader_side.ReaderSide.TheVariants.{Live}
use Rattle.cb_service.proofs.queueing.end.Given as goal

abbrev pub invariant-loop : goal.invariant-loop
invariant-loop g l = Live l.seat ≡ l.fn.side
