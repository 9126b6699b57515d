use Rattle.std.proofs.Common.{◌≡◌, ◌+◌, ◌*◌, ap, refl, ◌∙◌, arith}
use Rattle.sha2.specs.Sha256.{add_state, compress, padding, rounds, schedule}
use Rattle.cb_base.specs.Lanes.{lane}
use Rattle.cb_base.proofs.compression.compress_padding.Goals as goal

pub loop-turn-init : goal.loop-turn-init
unfolding rounds
loop-turn-init c k lt = refl

pub loop-turn-preserved : goal.loop-turn-preserved
loop-turn-preserved c k lt =
    let h = lane k c.args.state in
    let next : 8 * c.loop-turn.turn + 4 + 4 ≡ 8 * (c.loop-turn.turn + 1) = omega arith in
    c.padding_four_steps-whole.ensures k lt h (c.padding_four_steps-half.ensures k lt h (c.loop-turn.invariant k lt)) ∙ ap (rounds h (schedule (padding 64) 48)) next

pub returns : goal.returns
unfolding compress
returns c k lt =
    let done : 8 * c.loop-turn.turn ≡ 64 = omega arith in
    c.add_states.ensures k lt ∙ ap (add_state (lane k c.args.state)) (c.loop-turn.invariant k lt ∙ ap (rounds (lane k c.args.state) (schedule (padding 64) 48)) done)
