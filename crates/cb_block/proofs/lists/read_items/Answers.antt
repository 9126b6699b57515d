use Rattle.std.proofs.Common.{Err, ap, ◌∙◌}
use Rattle.std.proofs.lemmas.Result.{err_from_is_err_and}
use Rattle.cb_base.proofs.Unpaid.{never_memory}
use Rattle.cb_block.specs.TxReading.{count_at}
use Rattle.cb_block.proofs.TakingTxs.{memory_told, some_counted, unpaid_count}
use Rattle.cb_block.proofs.lists.read_items.Goals as goal

pub returns-in_err-count-clause-paid : goal.returns-in_err-count-clause-paid
returns-in_err-count-clause-paid g c = λ e.
    let p = err_from_is_err_and c.from_residual.result c.from_residual.ensures.1 in
    let memory = memory_told c.from_residual.result p.0 c.in_err-count.field-0.0 p.1 p.2 e in
    absurd (never_memory (count_at c.LEAST.result c.args.cursor.now) (unpaid_count c.LEAST.result c.args.cursor.now) (c.in_err-count.ensures ∙ ap Err memory))

pub returns-clause-paid : goal.returns-clause-paid
returns-clause-paid g c = λ e.
    some_counted g.T.Coded.LEAST c.LEAST.result c.args.cursor.now c.in_ok-count.count c.read_count.new.cursor c.items_of.result c.LEAST.ensures c.in_ok-count.ensures c.items_of.ensures.unpaid e
