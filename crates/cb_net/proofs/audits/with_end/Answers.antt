use Rattle.std.proofs.Common.{arith}
use Rattle.cb_net.proofs.Listing.{none_there}
use Rattle.cb_net.proofs.audits.with_end.Goals as goal

pub returns-in-None-clause-more : goal.returns-in-None-clause-more
returns-in-None-clause-more c = none_there c.args.links.now c.args.end c.args.list.items (omega (arith, c.in-None.ensures.lookup.3))
