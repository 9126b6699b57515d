use Rattle.cb_base.proofs.Padded.{after_all}
use Rattle.cb_base.proofs.hashing.dsha_padded.Goals as goal

pub returns : goal.returns
returns c m0 m1 m2 m3 e0 e1 e2 e3 =
    c.finish.ensures m0 m1 m2 m3
    (after_all m0 c.args.first.now _ e0 c.absorb-state.ensures.first)
    (after_all m1 c.args.second.now _ e1 c.absorb-state.ensures.second)
    (after_all m2 c.args.third.now _ e2 c.absorb-state.ensures.third)
    (after_all m3 c.args.fourth.now _ e3 c.absorb-state.ensures.fourth)
