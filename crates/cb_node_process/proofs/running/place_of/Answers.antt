use Rattle.std.proofs.Common.{inr, refl}
use Rattle.cb_node_process.proofs.running.place_of.Goals as goal

pub returns-in-Some : goal.returns-in-Some
returns-in-Some c = inr (c.in-Some.rpc, c.in-Some.is, refl)
