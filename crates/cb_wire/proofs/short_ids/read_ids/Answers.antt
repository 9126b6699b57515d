use Rattle.std.proofs.lemmas.Result.{err_from_is_err_and}
use Rattle.cb_block.proofs.TakingTxs.{count_paid, memory_told}
use Rattle.cb_wire.proofs.short_ids.read_ids.Goals as goal

pub returns-in_err-count-clause-paid : goal.returns-in_err-count-clause-paid
returns-in_err-count-clause-paid c = λ e.
    let p = err_from_is_err_and c.from_residual.result c.from_residual.ensures.1 in
    count_paid 6 c.args.cursor.now c.in_err-count.field-0.0 c.in_err-count.ensures (memory_told c.from_residual.result p.0 c.in_err-count.field-0.0 p.1 p.2 e)
