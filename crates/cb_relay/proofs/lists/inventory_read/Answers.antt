use Rattle.std.proofs.Common.{◌≡◌, Ok, ap, arith, length, rules}
use Rattle.cb_wire.specs.Lists.{entry_at, listed_at}
use Rattle.cb_relay.specs.WholeMessages.{all_of}
use Rattle.cb_relay.proofs.Asking.{some_left, some_listed}
use Rattle.cb_relay.proofs.lists.inventory_read.Goals as goal

pub returns-clause-paid : goal.returns-clause-paid
returns-clause-paid c = λ e.
    let read : all_of (listed_at 50000 36 entry_at c.args.payload.now) ≡ Ok c.in_ok-entries.entries = search rules in
    let some = some_left c.entry_shapes.result (length c.as_slice.result.now) c.entry_shapes.ensures.unpaid e in
    some_listed 50000 36 entry_at c.args.payload.now c.in_ok-entries.entries read (omega (arith, some, ap length c.as_slice.ensures.same))
