use Rattle.std.proofs.Common.{arith}
use Rattle.cb_base.specs.declared.hash.Hash256.{Hash256}
use Rattle.cb_block.specs.TxReading.{hash_at}
use Rattle.cb_block.specs.declared.header.Header.{Header}
use Rattle.cb_block.specs.BlockReading.{listed_header_at}
use Rattle.cb_block.specs.BlockText.{IsHeader, listed_header_text}
use Rattle.cb_wire.specs.declared.inventory.Inventory.{Inventory}
use Rattle.cb_wire.specs.Lists.{IsEntry, IsHash, entry_at, entry_text, hash_text}
use Rattle.cb_wire.proofs.Counting.{entry_kind, hash_kind, listed_header_kind}
use Rattle.cb_wire.proofs.RoundTrips.{list_trip}
use Rattle.cb_wire.proofs.payload_laws.lists_are_read_as_written.Goals as goal

pub returns-clause-entries : goal.returns-clause-entries
returns-clause-entries c = list_trip Inventory entry_text entry_at IsEntry 50000 36 entry_kind (omega arith)

pub returns-clause-headers : goal.returns-clause-headers
returns-clause-headers c = list_trip Header listed_header_text listed_header_at IsHeader 2000 81 listed_header_kind (omega arith)

pub returns-clause-hashes : goal.returns-clause-hashes
returns-clause-hashes c = list_trip Hash256 hash_text hash_at IsHash 101 32 hash_kind (omega arith)
