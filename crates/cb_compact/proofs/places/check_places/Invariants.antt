use Rattle.std.proofs.Common.{◌≡◌, drop}
use Rattle.cb_compact.specs.Places.{has_places}
use Rattle.cb_compact.proofs.Leading.{lead}
use Rattle.cb_compact.proofs.places.check_places.Given as goal

abbrev pub invariant-loop-given : goal.invariant-loop-given
invariant-loop-given l = lead l.total l.least (drop l.given-index l.prefilled) ≡ has_places l.fn.txs
