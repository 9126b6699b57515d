use Rattle.std.proofs.Common.{◌≡◌, ◌∙◌, Ok, Err, ap, arith, length, rules}
use Rattle.std.proofs.lemmas.Result.{err_from_is_err_and}
use Rattle.cb_wire.specs.Requests.{request_at}
use Rattle.cb_block.proofs.TakingTxs.{memory_told}
use Rattle.cb_relay.specs.WholeMessages.{all_of}
use Rattle.cb_relay.proofs.Asking.{some_left, some_locator}
use Rattle.cb_relay.proofs.lists.getheaders_read.Goals as goal

pub returns-in_err-locator-clause-paid : goal.returns-in_err-locator-clause-paid
returns-in_err-locator-clause-paid c = λ e.
    let p = err_from_is_err_and c.from_residual-in_err-locator.result c.from_residual-in_err-locator.ensures.1 in
    let memory = memory_told c.from_residual-in_err-locator.result p.0 c.in_err-locator.field-0.0 p.1 p.2 e in
    let read : all_of (request_at c.args.payload.now) ≡ Ok c.in_ok-request.request = search rules in
    let some = some_left c.hash_shapes.result (length c.as_slice.result.now) c.hash_shapes.ensures.unpaid (c.in_err-locator.was ∙ ap Err memory) in
    some_locator c.args.payload.now c.in_ok-request.request read (omega (arith, some, ap length c.as_slice.ensures.same))
