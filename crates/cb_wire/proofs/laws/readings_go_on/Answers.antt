use Rattle.cb_wire.proofs.Streams.{reading_goes_on}
use Rattle.cb_wire.proofs.laws.readings_go_on.Goals as goal

pub returns : goal.returns
returns c = reading_goes_on
