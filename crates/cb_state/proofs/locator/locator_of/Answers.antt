use Rattle.std.proofs.Common.{arith}
use Rattle.cb_state.proofs.Carried.{locator_few}
use Rattle.cb_state.proofs.locator.locator_of.Goals as goal

pub from_few-requires : goal.from_few-requires
from_few-requires c = (omega arith, locator_few c.args.chain.now c.tip_height.result c.in_ok-hashes.hashes.items c.has_history.ensures c.tip_height.ensures c.in_ok-hashes.ensures.exact)
