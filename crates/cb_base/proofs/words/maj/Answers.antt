use Rattle.std.proofs.Common.{slice_index}
use Rattle.cb_base.proofs.Rotations.{maj_short}
use Rattle.cb_base.proofs.words.maj.Goals as goal

pub returns : goal.returns
returns c k lt =
    rw (c.xor.ensures k lt, c.and-both.ensures k lt, c.xor-near.ensures k lt, c.xor-far.ensures k lt) (maj_short (slice_index c.args.x k) (slice_index c.args.y k) (slice_index c.args.z k))
