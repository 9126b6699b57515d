use Rattle.std.proofs.lemmas.Result.{err_from_is_err_and}
use Rattle.cb_block.proofs.TakingTxs.{memory_told}
use Rattle.cb_wire.proofs.Requesting.{limited_paid, some_count}
use Rattle.cb_wire.proofs.lists.read_list.Goals as goal

pub returns-in_err-count-clause-paid : goal.returns-in_err-count-clause-paid
returns-in_err-count-clause-paid g c = λ e.
    let p = err_from_is_err_and c.from_residual.result c.from_residual.ensures.1 in
    let memory = memory_told c.from_residual.result p.0 c.in_err-count.field-0.0 p.1 p.2 e in
    absurd (limited_paid _ _ c.args.cursor.now c.in_err-count.field-0.0 c.in_err-count.ensures.exact memory)

pub returns-in_err-items_of-clause-paid : goal.returns-in_err-items_of-clause-paid
returns-in_err-items_of-clause-paid g c = λ e.
    some_count _ g.T.Coded.LEAST c.LEAST.result c.args.cursor.now c.in_ok-count.count c.read_limited.new.cursor c.items_of.result c.in_err-items_of.field-0.0 c.LEAST.ensures c.in_ok-count.ensures.exact c.in_err-items_of.was c.items_of.ensures.unpaid
