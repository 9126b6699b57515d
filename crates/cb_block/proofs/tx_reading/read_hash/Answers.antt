use Rattle.std.proofs.Common.{sym}
use Rattle.cb_block.proofs.Loop.{bytes_long}
use Rattle.cb_block.proofs.tx_reading.read_hash.Goals as goal

pub copy_from_slice-requires : goal.copy_from_slice-requires
copy_from_slice-requires c = sym (bytes_long 32 c.args.cursor.now c.in_ok-bytes.bytes.now _ c.in_ok-bytes.ensures)
