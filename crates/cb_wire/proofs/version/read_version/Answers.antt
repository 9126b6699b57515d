use Rattle.std.proofs.lemmas.Result.{err_from_is_err_and}
use Rattle.cb_block.proofs.TakingTxs.{memory_told}
use Rattle.cb_wire.proofs.Introducing.{version_is_unpaid}
use Rattle.cb_wire.proofs.version.read_version.Goals as goal

pub returns-in_err-told-clause-paid : goal.returns-in_err-told-clause-paid
returns-in_err-told-clause-paid c = λ e.
    let p = err_from_is_err_and c.from_residual.result c.from_residual.ensures.1 in
    let memory = memory_told c.from_residual.result p.0 c.in_err-told.field-0.0 p.1 p.2 e in
    absurd (version_is_unpaid c.args.payload.now c.in_err-told.field-0.0 c.in_err-told.ensures.exact memory)
