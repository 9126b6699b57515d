use Rattle.std.proofs.Common.{◌+◌, ◌-◌, length, take, drop, ◌∙◌}
use Rattle.cb_chain.specs.Best.{best}
use Rattle.cb_chain.specs.Keeping.{tree_of}
use Rattle.cb_chain.proofs.Planning.{off_is, place_low, places_low, planned}
use Rattle.cb_chain.proofs.reorganising.plan_for.Goals as goal

pub fork_of-fork-requires-clause-place : goal.fork_of-fork-requires-clause-place
fork_of-fork-requires-clause-place c = place_low c.args.tree.now.block_indexes c.args.spot.header.prev c.args.spot.parent c.requires.tree c.requires.spot.parent

pub branch_above-requires : goal.branch_above-requires
branch_above-requires c = record { place = place_low c.args.tree.now.block_indexes c.args.spot.header.prev c.args.spot.parent c.requires.tree c.requires.spot.parent }

pub change_to-requires-clause-off : goal.change_to-requires-clause-off
change_to-requires-clause-off c =
    let block_indexes = c.args.tree.now.block_indexes in
    let fork = c.fork_of-fork.result in
    let off = take (length c.args.active.now - (fork + 1)) (drop (fork + 1) c.args.active.now) in
    places_low block_indexes (best (tree_of block_indexes)) fork off c.requires.tree (off_is block_indexes c.args.active.now fork c.requires.active)

pub change_to-requires-clause-branch : goal.change_to-requires-clause-branch
change_to-requires-clause-branch c =
    let block_indexes = c.args.tree.now.block_indexes in
    let prev = c.args.spot.header.prev in
    places_low block_indexes prev c.fork_of-fork.result c.as_slice.result.now c.requires.tree (c.as_slice.ensures.value ∙ c.in_ok-branch.ensures.places prev c.requires.spot.parent c.requires.kept)

pub returns-clause-change : goal.returns-clause-change
returns-clause-change c =
    let block_indexes = c.args.tree.now.block_indexes in
    let fork = c.fork_of-fork.result in
    let off = take (length c.args.active.now - (fork + 1)) (drop (fork + 1) c.args.active.now) in
    let branch_is = c.as_slice.ensures.value ∙ c.in_ok-branch.ensures.places c.args.spot.header.prev c.requires.spot.parent c.requires.kept in
    planned block_indexes c.args.spot.header fork off c.as_slice.result.now c.args.spot.hash c.in_ok-change.change c.requires.tree (off_is block_indexes c.args.active.now fork c.requires.active) branch_is c.requires.spot.hash c.in_ok-change.ensures.off c.in_ok-change.ensures.on
