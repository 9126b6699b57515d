use Rattle.cb_rpc_serve.proofs.Differences.{one_more}
use Rattle.cb_rpc_serve.proofs.password.differing_bits.Goals as goal

pub loop-place-preserved : goal.loop-place-preserved
loop-place-preserved c =
    one_more c.loop-place.bits c.loop-place.place c.args.first.now c.args.second.now c.requires c.loop-place-test.true c.loop-place.invariant
