use Rattle.std.proofs.Common.{sym}
use Rattle.cb_block.proofs.Loop.{bytes_long}
use Rattle.cb_wire.proofs.version.read_ip.Goals as goal

pub copy_from_slice-requires : goal.copy_from_slice-requires
copy_from_slice-requires c = sym (bytes_long 16 c.args.cursor.now c.in_ok-bytes.bytes.now _ c.in_ok-bytes.ensures)
