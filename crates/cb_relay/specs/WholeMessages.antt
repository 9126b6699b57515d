-- What bytes say as a whole: nothing may be left over.
use Rattle.std.specs.Prelude.{List, ℕ, Result, Ok, Err, if◌then◌else◌}
use Rattle.cb_base.specs.Reading.{Read, ◌>>=◌}
use Rattle.cb_base.specs.declared.fault.Fault.{Fault}
use Rattle.cb_base.specs.declared.fault.Fault.TheVariants.{BadIndex}
use Rattle.cb_wire.specs.CompactBlocks.{compact_block_at}
use Rattle.cb_wire.specs.declared.compact_block.HeaderAndShortIds.{HeaderAndShortIds}
use Rattle.cb_compact.specs.Places.{has_places}
use Rattle.cb_block.specs.TxReading.{list_at, tx_at}
use Rattle.cb_block.specs.declared.tx.Tx.{Tx}
use Rattle.cb_wire.specs.Grammar.{whole}

-- a read that leaves nothing over
abbrev pub all_of : {A : Type 0} → Read A → Result A Fault
all_of read = read >>= λ it. whole it

-- transactions: their count, then each
abbrev pub txs_in : List ℕ → Result (List Tx) Fault
txs_in bytes = all_of (list_at 10 tx_at bytes)

-- a compact block (BIP 152), if each of its prefilled transactions has a place in it
abbrev pub placed_form : HeaderAndShortIds → Result HeaderAndShortIds Fault
placed_form form = if has_places form.txs then Ok form else Err BadIndex

-- the compact block that is all of these bytes
unfoldable pub form_in : List ℕ → Result HeaderAndShortIds Fault
form_in bytes = all_of (compact_block_at bytes) >>= λ form. placed_form form
