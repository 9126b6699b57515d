use Rattle.cb_pool.proofs.Marking.{block_tx_tells}
use Rattle.cb_pool.proofs.thinning.mark_tx.Goals as goal

pub returns-clause-tells : goal.returns-clause-tells
returns-clause-tells c = λ was now next e tells.
    block_tx_tells c.args.tx.now c.args.txid c.as_slice.result.now c.args.marks.now c.mark_spent.new.marks c.make.new.self was now next c.requires.name c.as_slice.ensures c.in_ok-mark_spent.ensures.spent c.in_ok-make.ensures.tells e tells
