use Rattle.std.proofs.Common.{◌∙◌, Err, ap, arith, length}
use Rattle.std.proofs.lemmas.Result.{err_from_is_err_and}
use Rattle.cb_block.proofs.TakingTxs.{memory_told}
use Rattle.cb_relay.proofs.Asking.{part_long, some_left, some_part}
use Rattle.cb_relay.proofs.spans.blocktxn_read.Goals as goal

pub spans_of-requires : goal.spans_of-requires
spans_of-requires c =
    let same = part_long c.args.payload.now c.in_ok-part.part (λ i. omega (arith, c.type_inv.payload i)) c.in_ok-part.ensures.exact in
    omega (arith, same)

pub returns-in_err-spans-clause-paid : goal.returns-in_err-spans-clause-paid
returns-in_err-spans-clause-paid c = λ e.
    let p = err_from_is_err_and c.from_residual-in_err-spans.result c.from_residual-in_err-spans.ensures.1 in
    let memory = memory_told c.from_residual-in_err-spans.result p.0 c.in_err-spans.field-0.0 p.1 p.2 e in
    some_part c.args.payload.now c.in_ok-part.part c.in_ok-part.ensures.exact (some_left c.spans_of.result (length c.in_ok-part.part.txs) c.spans_of.ensures.unpaid (c.in_err-spans.was ∙ ap Err memory))
