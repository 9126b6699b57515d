use Rattle.std.proofs.Common.{ℕ, ◌/◌, ◌^◌, bit_xor, slice_index, ap, arith}
use Rattle.cb_base.proofs.LaneLemmas.{lane_fits}
use Rattle.cb_base.proofs.Rotations.{rotated_two}
use Rattle.cb_base.proofs.words.small_sigma0.Goals as goal

pub returns : goal.returns
returns c k lt =
    rw (c.xor.ensures k lt, c.rotate_right-both.ensures k lt, c.xor-near.ensures k lt, c.rotate_right-inner.ensures k lt, c.shift_right-third.ensures k lt)
    (ap (λ (y : ℕ). bit_xor y (slice_index c.args.x k / 2 ^ 3)) (rotated_two 32 (slice_index c.args.x k) 7 11 (omega arith) (lane_fits c.args.x k lt c.fits-x.0 c.fits-x.1)))
