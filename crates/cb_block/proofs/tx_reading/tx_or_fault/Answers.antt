use Rattle.std.proofs.Common.{Err, ap}
use Rattle.std.proofs.lemmas.Result.{err_from_is_err_and}
use Rattle.cb_block.proofs.TakingTxs.{memory_told, takes_second}
use Rattle.cb_block.proofs.tx_reading.tx_or_fault.Goals as goal

pub returns-in_err-outputs-clause-paid : goal.returns-in_err-outputs-clause-paid
returns-in_err-outputs-clause-paid c = λ e.
    let p = err_from_is_err_and c.from_residual-in_err-outputs.result c.from_residual-in_err-outputs.ensures.1 in
    let memory = memory_told c.from_residual-in_err-outputs.result p.0 c.in_err-outputs.field-0.0 p.1 p.2 e in
    takes_second c.args.cursor.now c.in_ok-version.version c.i32.new.self c.in_ok-inputs.inputs.items c.read_items.new.cursor c.in_ok-version.ensures c.in_ok-inputs.ensures.exact (c.in_err-outputs.ensures.paid (ap Err memory))
