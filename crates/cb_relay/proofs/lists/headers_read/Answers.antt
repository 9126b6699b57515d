use Rattle.std.proofs.Common.{◌≡◌, Ok, ap, arith, length, rules}
use Rattle.cb_block.specs.BlockReading.{listed_header_at}
use Rattle.cb_wire.specs.Lists.{listed_at}
use Rattle.cb_relay.specs.WholeMessages.{all_of}
use Rattle.cb_relay.proofs.Asking.{some_left, some_listed}
use Rattle.cb_relay.proofs.lists.headers_read.Goals as goal

pub returns-clause-paid : goal.returns-clause-paid
returns-clause-paid c = λ e.
    let read : all_of (listed_at 2000 81 listed_header_at c.args.payload.now) ≡ Ok c.in_ok-headers.headers = search rules in
    let some = some_left c.header_shapes.result (length c.as_slice.result.now) c.header_shapes.ensures.unpaid e in
    some_listed 2000 81 listed_header_at c.args.payload.now c.in_ok-headers.headers read (omega (arith, some, ap length c.as_slice.ensures.same))
