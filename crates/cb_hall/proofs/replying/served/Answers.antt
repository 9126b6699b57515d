use Rattle.std.proofs.Common.{arith}
use Rattle.cb_hall.proofs.Answering.{after_few}
use Rattle.cb_hall.proofs.replying.served.Goals as goal

pub from_few-requires : goal.from_few-requires
from_few-requires c = (omega arith, after_few c.in_ok-headers-in-After.headers.items _ c.in_ok-headers-in-After.ensures.exact)
