use Rattle.std.proofs.Common.{arith}
use Rattle.std.proofs.lemmas.Result.{err_from_is_err_and}
use Rattle.cb_block.proofs.TakingTxs.{memory_told}
use Rattle.cb_wire.proofs.Needing.{prefilled_count_is_unpaid, prefilled_take}
use Rattle.cb_wire.proofs.short_form.read_short_form.Goals as goal

pub returns-in_err-count-clause-paid : goal.returns-in_err-count-clause-paid
returns-in_err-count-clause-paid c = λ e.
    let p = err_from_is_err_and c.from_residual-in_err-count.result c.from_residual-in_err-count.ensures.1 in
    let memory = memory_told c.from_residual-in_err-count.result p.0 c.in_err-count.field-0.0 p.1 p.2 e in
    absurd (prefilled_count_is_unpaid _ c.read_ids.new.cursor c.in_err-count.field-0.0 c.in_err-count.ensures.exact memory)

pub returns-in_err-prefilled-clause-paid : goal.returns-in_err-prefilled-clause-paid
returns-in_err-prefilled-clause-paid c = λ e. prefilled_take c.args.cursor.now _ c.read_ids.new.cursor c.len.result (c.in_ok-count.count, c.read_prefilled_count.new.cursor) c.in_ok-ids.ensures.exact (omega (arith, c.len.ensures, c.in_ok-ids.ids.ok.0)) c.in_ok-count.ensures.exact
