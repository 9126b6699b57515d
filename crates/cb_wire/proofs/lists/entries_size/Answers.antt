use Rattle.cb_wire.proofs.Counting.{entries_sized}
use Rattle.cb_wire.proofs.lists.entries_size.Goals as goal

pub returns-clause-size : goal.returns-clause-size
returns-clause-size c = (entries_sized c.as_slice.result.now c.args.entries.now c.items_size.result c.as_slice.ensures.same c.as_slice.ensures.few c.items_size.ensures.size c.items_size.ensures.kept).0

pub returns-clause-limit : goal.returns-clause-limit
returns-clause-limit c = (entries_sized c.as_slice.result.now c.args.entries.now c.items_size.result c.as_slice.ensures.same c.as_slice.ensures.few c.items_size.ensures.size c.items_size.ensures.kept).1
