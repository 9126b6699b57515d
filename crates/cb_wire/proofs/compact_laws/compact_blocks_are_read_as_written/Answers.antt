use Rattle.cb_wire.proofs.CompactTrips.{block_txs_trip, compact_block_trip, txs_request_trip}
use Rattle.cb_wire.proofs.compact_laws.compact_blocks_are_read_as_written.Goals as goal

pub returns-clause-block : goal.returns-clause-block
returns-clause-block c = compact_block_trip

pub returns-clause-request : goal.returns-clause-request
returns-clause-request c = txs_request_trip

pub returns-clause-txs : goal.returns-clause-txs
returns-clause-txs c = block_txs_trip
