use Rattle.std.proofs.Common.{◌<◌, arith}
use Rattle.cb_chain.specs.SideBranches.{IsKeptPlace, StandsOn}
use Rattle.cb_chain.proofs.Tries.{kept_low, lead_more, stands_on}
use Rattle.cb_chain.proofs.side_branch.SideBranch.lower_to.Goals.{After-block_index}
use Rattle.cb_chain.proofs.side_branch.SideBranch.lower_to.Goals as goal

pub block_index-requires : goal.block_index-requires
block_index-requires c = λ is. kept_low c.args.tree.now.block_indexes c.loop-place.place is c.loop-place.invariant.1

stands : (c : After-block_index) → StandsOn c.args.tree.now.block_indexes c.block_index.result.now.parent c.loop-place.place × IsKeptPlace c.args.tree.now.block_indexes c.block_index.result.now.parent
stands c = stands_on c.args.tree.now.block_indexes c.loop-place.place _ c.requires.tree c.loop-place.invariant.1 (omega (arith, c.if-self-place.true)) c.block_index.ensures.block_index

pub loop-place-smaller-then-self-place : goal.loop-place-smaller-then-self-place
loop-place-smaller-then-self-place c =
    let low : c.block_index.result.now.parent < c.loop-place.place = (stands c).0.above in
    omega (arith, low)

pub loop-place-preserved-then-self-place : goal.loop-place-preserved-then-self-place
loop-place-preserved-then-self-place c =
    let on = stands c in
    (c.loop-place.invariant.0, on.1, lead_more c.args.tree.now.block_indexes c.block_index.result.now.parent c.loop-place.place c.loop-place.down.items c.push.new.self.items c.args.target c.in_ok-push.ensures.items on.0 c.loop-place.invariant.2)

pub lower-requires-clause-side_branch : goal.lower-requires-clause-side_branch
lower-requires-clause-side_branch c = (c.requires.side_branch.0, c.loop-place.invariant.0 c.requires.side_branch.0 c.requires.side_branch.1)
