use Rattle.cb_wire.proofs.Envelopes.{good_is}
use Rattle.cb_wire.proofs.laws.good_items_are_envelopes.Goals as goal

pub returns : goal.returns
returns c = good_is
