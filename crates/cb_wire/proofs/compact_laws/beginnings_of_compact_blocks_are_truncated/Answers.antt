use Rattle.cb_wire.proofs.Beginnings.{beginning_of_block_txs, beginning_of_compact_block, beginning_of_txs_request}
use Rattle.cb_wire.proofs.compact_laws.beginnings_of_compact_blocks_are_truncated.Goals as goal

pub returns-clause-block : goal.returns-clause-block
returns-clause-block c = beginning_of_compact_block

pub returns-clause-request : goal.returns-clause-request
returns-clause-request c = beginning_of_txs_request

pub returns-clause-txs : goal.returns-clause-txs
returns-clause-txs c = beginning_of_block_txs
