use Rattle.cb_wire.proofs.Streams.{Stream-one}
use Rattle.cb_wire.proofs.laws.one_reading.Goals as goal

pub returns-clause-items : goal.returns-clause-items
returns-clause-items c = λ bytes i j r s f g h k. (Stream-one bytes i j r s f g h k).items

pub returns-clause-rest : goal.returns-clause-rest
returns-clause-rest c = λ bytes i j r s f g h k. (Stream-one bytes i j r s f g h k).rest

pub returns-clause-fault : goal.returns-clause-fault
returns-clause-fault c = λ bytes i j r s f g h k. (Stream-one bytes i j r s f g h k).fault
