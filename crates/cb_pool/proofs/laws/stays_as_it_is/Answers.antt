use Rattle.std.proofs.Common.{arith}
use Rattle.cb_pool.proofs.LawLemmas.{stays}
use Rattle.cb_pool.proofs.laws.stays_as_it_is.Goals as goal

pub returns : goal.returns
returns c = stays c.args.ledger.now.unspent c.args.pool.now c.requires c.each_stands_alone.ensures.names c.each_stands_alone.ensures.alone (omega (arith, c.len.ensures.len, c.len.ensures.few))
