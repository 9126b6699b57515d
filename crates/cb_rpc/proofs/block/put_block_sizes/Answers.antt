use Rattle.std.proofs.Common.{ap}
use Rattle.cb_rpc_call.proofs.Adding.{adds_is}
use Rattle.cb_rpc.specs.Blocks.{sizes_fields}
use Rattle.cb_rpc.proofs.block.put_block_sizes.Goals as goal

pub returns : goal.returns
returns c = adds_is c.put_sizes.ensures (ap sizes_fields c.size.ensures)
