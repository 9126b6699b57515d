use Rattle.std.proofs.Common.{sym, refl, arith}
use Rattle.cb_chain.specs.Keeping.{tree_of}
use Rattle.cb_chain.proofs.BlockIndexes.{length_tree}
use Rattle.cb_chain.proofs.Tries.{lowered, lowers, side_branch_like, side_branch_low}
use Rattle.cb_chain.proofs.side_branch.SideBranch.lower.Goals as goal

pub returns-in_err-take_back-clause-side_branch : goal.returns-in_err-take_back-clause-side_branch
returns-in_err-take_back-clause-side_branch c = λ unspent side_branch.
    let tree = c.args.tree.now in
    side_branch_like (tree_of tree.block_indexes) tree.undos unspent c.args.self.now _ refl (c.in_err-take_back.ensures.err unspent) side_branch

pub block_index-requires : goal.block_index-requires
block_index-requires c = λ is.
    let tree = c.args.tree.now in
    omega (arith, length_tree tree.block_indexes is, side_branch_low (tree_of tree.block_indexes) tree.undos c.requires.side_branch.0 c.args.self.now c.requires.side_branch.1)

pub returns-in_ok-take_back-clause-side_branch : goal.returns-in_ok-take_back-clause-side_branch
returns-in_ok-take_back-clause-side_branch c = λ unspent side_branch.
    let tree = c.args.tree.now in
    lowered tree.block_indexes tree.undos unspent c.args.self.now _ _ c.in-Some.undo.now c.requires.tree c.requires.undos c.block_index.ensures.block_index c.requires.above (sym c.in-Some.ensures) refl c.in_ok-take_back.ensures.ok side_branch

pub returns-in_ok-take_back-clause-lower : goal.returns-in_ok-take_back-clause-lower
returns-in_ok-take_back-clause-lower c =
    let tree = c.args.tree.now in
    lowers tree.block_indexes tree.undos c.requires.side_branch.0 c.args.self.now _ c.requires.tree c.requires.side_branch.1 c.block_index.ensures.block_index c.requires.above
