use Rattle.std.proofs.Common.{arith}
use Rattle.cb_state.proofs.Carried.{since_few}
use Rattle.cb_state.proofs.state.Relay.txids_since.Goals as goal

pub from_few-requires : goal.from_few-requires
from_few-requires c = (omega arith, since_few c.self.inside.pool.list c.args.number c.len.result c.in_ok-txids.txids.items c.len.ensures.len c.len.ensures.few c.in_ok-txids.ensures.exact)
