use Rattle.std.proofs.Common.{refl}
use Rattle.json.proofs.OnLiterals.{json_on_literals}
use Rattle.cb_rpc.proofs.header.put_difficulty.Goals as goal

pub put_exact-requires : goal.put_exact-requires
unfolding json_on_literals
put_exact-requires c = refl
