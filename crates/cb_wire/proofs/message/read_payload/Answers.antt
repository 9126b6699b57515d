use Rattle.std.proofs.lemmas.Result.{err_from_is_err_and}
use Rattle.cb_block.proofs.TakingTxs.{memory_told}
use Rattle.cb_wire.proofs.Requesting.{relay_is_unpaid}
use Rattle.cb_wire.proofs.message.read_payload.Goals as goal

pub returns-in_err-relay-in-SendCmpct-clause-paid : goal.returns-in_err-relay-in-SendCmpct-clause-paid
returns-in_err-relay-in-SendCmpct-clause-paid c = λ e.
    let p = err_from_is_err_and c.from_residual-in_err-relay-in-SendCmpct.result c.from_residual-in_err-relay-in-SendCmpct.ensures.1 in
    let memory = memory_told c.from_residual-in_err-relay-in-SendCmpct.result p.0 c.in_err-relay-in-SendCmpct.field-0.0 p.1 p.2 e in
    absurd (relay_is_unpaid c.new-cursor.result c.in_err-relay-in-SendCmpct.field-0.0 c.in_err-relay-in-SendCmpct.ensures memory)
