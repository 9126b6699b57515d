use Rattle.std.proofs.Common.{slice_index, arith}
use Rattle.cb_base.proofs.LaneLemmas.{lane_fits}
use Rattle.cb_base.proofs.Rotations.{rotated_three}
use Rattle.cb_base.proofs.words.big_sigma0.Goals as goal

pub returns : goal.returns
returns c k lt =
    rw (c.rotate_right.ensures k lt, c.xor-far.ensures k lt, c.rotate_right-middle.ensures k lt, c.xor-near.ensures k lt, c.rotate_right-inner.ensures k lt)
    (rotated_three 32 (slice_index c.args.x k) 2 11 9 (omega arith) (lane_fits c.args.x k lt c.fits-x.0 c.fits-x.1))
