use Rattle.std.proofs.Common.{arith}
use Rattle.cb_pool.proofs.Untouched.{apart_stays}
use Rattle.cb_pool.proofs.LawLemmas.{stays}
use Rattle.cb_pool.specs.Listing.{txs_of}
use Rattle.cb_pool.proofs.laws.stays_behind_others.Goals as goal

pub returns : goal.returns
returns c = λ others after apart spent.
    let list = c.args.pool.now.list in
    let ok = apart_stays c.args.ledger.now.unspent after (txs_of list) others c.each_stands_alone.ensures.alone apart spent c.requires in
    (ok, stays after c.args.pool.now ok c.each_stands_alone.ensures.names c.each_stands_alone.ensures.alone (omega (arith, c.len.ensures.len, c.len.ensures.few)))
