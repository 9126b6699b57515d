use Rattle.std.proofs.lemmas.Result.{err_from_is_err_and}
use Rattle.cb_block.proofs.TakingTxs.{memory_told}
use Rattle.cb_wire.proofs.Requesting.{hash_is_unpaid}
use Rattle.cb_wire.proofs.block_transactions.read_txs_request.Goals as goal

pub returns-in_err-block-clause-paid : goal.returns-in_err-block-clause-paid
returns-in_err-block-clause-paid c = λ e.
    let p = err_from_is_err_and c.from_residual.result c.from_residual.ensures.1 in
    let memory = memory_told c.from_residual.result p.0 c.in_err-block.field-0.0 p.1 p.2 e in
    absurd (hash_is_unpaid c.args.cursor.now c.in_err-block.field-0.0 c.in_err-block.ensures memory)
