use Rattle.cb_compact.proofs.Counted.{few_of_ours}
use Rattle.cb_compact.proofs.rebuilding_laws.a_block_has_few_txs.Goals as goal

pub returns : goal.returns
returns c = few_of_ours
