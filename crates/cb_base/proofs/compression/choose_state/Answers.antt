use Rattle.std.proofs.Common.{◌≡◌, length, refl, arith}
use Rattle.cb_base.proofs.LaneLemmas.{lane_eight}
use Rattle.cb_base.proofs.compression.choose_state.Goals as goal

pub returns-clause-goes : goal.returns-clause-goes
returns-clause-goes c k lt on =
    let long : length c.args.next ≡ 8 = omega arith in
    rw (
      lane_eight k c.args.next long,
      c.choose.ensures.goes k lt on,
      c.choose-2.ensures.goes k lt on,
      c.choose-3.ensures.goes k lt on,
      c.choose-4.ensures.goes k lt on,
      c.choose-5.ensures.goes k lt on,
      c.choose-6.ensures.goes k lt on,
      c.choose-7.ensures.goes k lt on,
      c.choose-8.ensures.goes k lt on,
    ) refl

pub returns-clause-rests : goal.returns-clause-rests
returns-clause-rests c k lt off =
    let long : length c.args.past ≡ 8 = omega arith in
    rw (
      lane_eight k c.args.past long,
      c.choose.ensures.rests k lt off,
      c.choose-2.ensures.rests k lt off,
      c.choose-3.ensures.rests k lt off,
      c.choose-4.ensures.rests k lt off,
      c.choose-5.ensures.rests k lt off,
      c.choose-6.ensures.rests k lt off,
      c.choose-7.ensures.rests k lt off,
      c.choose-8.ensures.rests k lt off,
    ) refl
