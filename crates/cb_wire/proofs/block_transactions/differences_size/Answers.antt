use Rattle.cb_wire.proofs.Fetching.{differences_sized}
use Rattle.cb_wire.proofs.block_transactions.differences_size.Goals as goal

pub returns-clause-size : goal.returns-clause-size
returns-clause-size c = (differences_sized c.as_slice.result.now c.args.differences.now c.items_size.result c.as_slice.ensures.same c.as_slice.ensures.few c.items_size.ensures.size).0

pub returns-clause-limit : goal.returns-clause-limit
returns-clause-limit c = (differences_sized c.as_slice.result.now c.args.differences.now c.items_size.result c.as_slice.ensures.same c.as_slice.ensures.few c.items_size.ensures.size).1
