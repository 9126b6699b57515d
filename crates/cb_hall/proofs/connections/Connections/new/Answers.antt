use Rattle.cb_hall.proofs.Slots.{first_like}
use Rattle.cb_hall.proofs.connections.Connections.new.Goals as goal

pub returns-clause-first : goal.returns-clause-first
returns-clause-first c = first_like c.in_ok-slots_of.field-0.items c.in_ok-slots_of.ensures.first
