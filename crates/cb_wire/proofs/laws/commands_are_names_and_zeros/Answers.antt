use Rattle.cb_wire.proofs.Envelopes.{command_in-iff}
use Rattle.cb_wire.proofs.laws.commands_are_names_and_zeros.Goals as goal

pub returns : goal.returns
returns c = command_in-iff
