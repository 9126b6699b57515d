use Rattle.std.proofs.Common.{arith}
use Rattle.cb_base.specs.Lanes.{lane}
use Rattle.cb_base.proofs.Padded.{takes_by}
use Rattle.cb_base.proofs.hashing.absorb_block.Goals as goal

pub returns-clause-first : goal.returns-clause-first
returns-clause-first c =
    takes_by c.args.first.now (lane 0 c.args.state) c.block_at-a.result.now (lane 0 c.compress-next.result) (lane 0 c.choose_state.result) c.args.i c.has_block.result
    c.has_block.ensures.there c.has_block.ensures.ended (c.choose_state.ensures.goes 0 (omega arith)) (c.choose_state.ensures.rests 0 (omega arith))
    (c.compress-next.ensures 0 (omega arith) c.block_at-a.result.now c.block_words-words.ensures.first) c.block_at-a.ensures.there

pub returns-clause-second : goal.returns-clause-second
returns-clause-second c =
    takes_by c.args.second.now (lane 1 c.args.state) c.block_at-b.result.now (lane 1 c.compress-next.result) (lane 1 c.choose_state.result) c.args.i c.has_block-2.result
    c.has_block-2.ensures.there c.has_block-2.ensures.ended (c.choose_state.ensures.goes 1 (omega arith)) (c.choose_state.ensures.rests 1 (omega arith))
    (c.compress-next.ensures 1 (omega arith) c.block_at-b.result.now c.block_words-words.ensures.second) c.block_at-b.ensures.there

pub returns-clause-third : goal.returns-clause-third
returns-clause-third c =
    takes_by c.args.third.now (lane 2 c.args.state) c.block_at-c.result.now (lane 2 c.compress-next.result) (lane 2 c.choose_state.result) c.args.i c.has_block-3.result
    c.has_block-3.ensures.there c.has_block-3.ensures.ended (c.choose_state.ensures.goes 2 (omega arith)) (c.choose_state.ensures.rests 2 (omega arith))
    (c.compress-next.ensures 2 (omega arith) c.block_at-c.result.now c.block_words-words.ensures.third) c.block_at-c.ensures.there

pub returns-clause-fourth : goal.returns-clause-fourth
returns-clause-fourth c =
    takes_by c.args.fourth.now (lane 3 c.args.state) c.block_at-d.result.now (lane 3 c.compress-next.result) (lane 3 c.choose_state.result) c.args.i c.has_block-4.result
    c.has_block-4.ensures.there c.has_block-4.ensures.ended (c.choose_state.ensures.goes 3 (omega arith)) (c.choose_state.ensures.rests 3 (omega arith))
    (c.compress-next.ensures 3 (omega arith) c.block_at-d.result.now c.block_words-words.ensures.fourth) c.block_at-d.ensures.there
