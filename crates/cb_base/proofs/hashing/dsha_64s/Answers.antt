use Rattle.std.proofs.Common.{arith}
use Rattle.cb_base.proofs.Padded.{after_64}
use Rattle.cb_base.proofs.hashing.dsha_64s.Goals as goal

pub returns : goal.returns
returns c =
    let initial = c.initial_state.ensures in
    let once = c.compress-once.ensures in
    let then = c.compress_padding-state.ensures in
    c.finish.ensures c.args.first.now c.args.second.now c.args.third.now c.args.fourth.now
    (after_64 c.args.first.now _ _ _ (omega arith) (initial 0 (omega arith)) (once 0 (omega arith) c.args.first.now c.block_words-words.ensures.first) (then 0 (omega arith)))
    (after_64 c.args.second.now _ _ _ (omega arith) (initial 1 (omega arith)) (once 1 (omega arith) c.args.second.now c.block_words-words.ensures.second) (then 1 (omega arith)))
    (after_64 c.args.third.now _ _ _ (omega arith) (initial 2 (omega arith)) (once 2 (omega arith) c.args.third.now c.block_words-words.ensures.third) (then 2 (omega arith)))
    (after_64 c.args.fourth.now _ _ _ (omega arith) (initial 3 (omega arith)) (once 3 (omega arith) c.args.fourth.now c.block_words-words.ensures.fourth) (then 3 (omega arith)))
