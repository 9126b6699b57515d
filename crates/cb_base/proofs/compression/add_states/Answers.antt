use Rattle.std.proofs.Common.{◌≡◌, length, refl, arith}
use Rattle.cb_base.proofs.LaneLemmas.{lane_eight}
use Rattle.cb_base.proofs.compression.add_states.Goals as goal

pub returns : goal.returns
returns c k lt =
    let one : length c.args.x ≡ 8 = omega arith in
    let other : length c.args.y ≡ 8 = omega arith in
    rw (
      lane_eight k c.args.x one,
      lane_eight k c.args.y other,
      c.add.ensures k lt,
      c.add-2.ensures k lt,
      c.add-3.ensures k lt,
      c.add-4.ensures k lt,
      c.add-5.ensures k lt,
      c.add-6.ensures k lt,
      c.add-7.ensures k lt,
      c.add-8.ensures k lt,
    ) refl
