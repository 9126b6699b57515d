use Rattle.std.proofs.lemmas.Result.{err_from_is_err_and}
use Rattle.cb_block.proofs.TakingTxs.{memory_told}
use Rattle.cb_wire.proofs.Requesting.{hash_is_unpaid}
use Rattle.cb_wire.proofs.requests.read_request.Goals as goal

pub returns-in_err-stop-clause-paid : goal.returns-in_err-stop-clause-paid
returns-in_err-stop-clause-paid c = λ e.
    let p = err_from_is_err_and c.from_residual-in_err-stop.result c.from_residual-in_err-stop.ensures.1 in
    let memory = memory_told c.from_residual-in_err-stop.result p.0 c.in_err-stop.field-0.0 p.1 p.2 e in
    absurd (hash_is_unpaid c.read_list.new.cursor c.in_err-stop.field-0.0 c.in_err-stop.ensures memory)
