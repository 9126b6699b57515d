use Rattle.std.proofs.Common.{arith}
use Rattle.cb_base.specs.Lanes.{lane}
use Rattle.cb_base.proofs.Padded.{absorbs_start, absorbs_more, absorbs_all}
use Rattle.cb_base.proofs.hashing.absorb.Goals as goal

pub loop-i-init : goal.loop-i-init
loop-i-init c = (
  absorbs_start c.args.first.now _ (c.initial_state-state.ensures 0 (omega arith)),
  absorbs_start c.args.second.now _ (c.initial_state-state.ensures 1 (omega arith)),
  absorbs_start c.args.third.now _ (c.initial_state-state.ensures 2 (omega arith)),
  absorbs_start c.args.fourth.now _ (c.initial_state-state.ensures 3 (omega arith)),
)

pub loop-i-preserved : goal.loop-i-preserved
loop-i-preserved c =
    let held = c.loop-i.invariant in (
      absorbs_more c.args.first.now (lane 0 c.loop-i.state) _ c.loop-i.i held.0 c.absorb_block-after.ensures.first,
      absorbs_more c.args.second.now (lane 1 c.loop-i.state) _ c.loop-i.i held.1 c.absorb_block-after.ensures.second,
      absorbs_more c.args.third.now (lane 2 c.loop-i.state) _ c.loop-i.i held.2 c.absorb_block-after.ensures.third,
      absorbs_more c.args.fourth.now (lane 3 c.loop-i.state) _ c.loop-i.i held.3 c.absorb_block-after.ensures.fourth,
    )

pub returns-clause-first : goal.returns-clause-first
returns-clause-first c = absorbs_all c.args.first.now _ c.loop-i.i c.loop-i.invariant.0 (omega (arith, c.most_blocks-most.ensures.first))

pub returns-clause-second : goal.returns-clause-second
returns-clause-second c = absorbs_all c.args.second.now _ c.loop-i.i c.loop-i.invariant.1 (omega (arith, c.most_blocks-most.ensures.second))

pub returns-clause-third : goal.returns-clause-third
returns-clause-third c = absorbs_all c.args.third.now _ c.loop-i.i c.loop-i.invariant.2 (omega (arith, c.most_blocks-most.ensures.third))

pub returns-clause-fourth : goal.returns-clause-fourth
returns-clause-fourth c = absorbs_all c.args.fourth.now _ c.loop-i.i c.loop-i.invariant.3 (omega (arith, c.most_blocks-most.ensures.fourth))
