use Rattle.cb_wire.proofs.Streams.{reading_of}
use Rattle.cb_wire.proofs.laws.some_reading.Goals as goal

pub returns : goal.returns
returns c = reading_of
