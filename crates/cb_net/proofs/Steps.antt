-- What leads from one moment of a network to a later one, as a list for the prover.
use Rattle.cb_net.proofs.Moments.{relays_none, relays_then, roles_set}
use Rattle.cb_net.proofs.NetFaults.{of_memory, unless_memory}

pub ruleset steps = (relays_none, relays_then, roles_set, of_memory, unless_memory)
