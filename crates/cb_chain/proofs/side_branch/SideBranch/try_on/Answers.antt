use Rattle.std.proofs.Common.{List, length, inl, inr, refl, sym, ap, subst, ◌∙◌}
use Rattle.std.proofs.lemmas.Result.{err_from_is_err_and}
use Rattle.cb_block.specs.declared.block.Block.{Block}
use Rattle.cb_ledger.specs.Spend.{spend}
use Rattle.cb_ledger.specs.Undo.{LeadsBack, changed}
use Rattle.cb_chain.specs.Marking.{BlockIndex}
use Rattle.cb_chain.specs.Keeping.{tree_of}
use Rattle.cb_chain.specs.SideBranches.{below, here}
use Rattle.cb_chain.proofs.Tries.{side_branch_like, side_branch_on}
use Rattle.cb_chain.proofs.side_branch.SideBranch.try_on.Goals as goal

pub returns-in_err-reach-clause-err : goal.returns-in_err-reach-clause-err
returns-in_err-reach-clause-err c =
    let p = err_from_is_err_and c.from_residual.result c.from_residual.ensures.1 in
    rw (p.1, p.2) (elim c.in_err-reach.ensures.err [
      | inl memory ↦ inl memory
      | inr stops ↦ inr (below c.args.parent c.requires.parent stops)
    ])

pub returns-in-Ok-clause-ok : goal.returns-in-Ok-clause-ok
returns-in-Ok-clause-ok c =
    let on =
    side_branch_on c.args.tree.now.block_indexes c.reach.new.tree.block_indexes c.reach.new.tree.undos c.args.ledger.now.unspent c.reach.new.self c.args.kept.now.header.prev c.args.parent c.in_ok-reach.ensures.block_indexes c.in_ok-reach.ensures.side_branch c.requires.parent c.in_ok-reach.ensures.end in
    let before = changed c.args.ledger.now.unspent c.reach.new.self.overlay in
    let after = changed c.args.ledger.now.unspent c.connect.new.self in
    record {
      before = before;
      below = on.0;
      leads = subst (λ (b : Block). LeadsBack c.in-Ok.undo b.txs before after) c.block.ensures.same c.in-Ok.ensures.undo;
      connected = on.1;
    }

pub returns-in-Err-clause-side_branch : goal.returns-in-Err-clause-side_branch
returns-in-Err-clause-side_branch c =
    let tree = c.reach.new.tree in
    side_branch_like (tree_of tree.block_indexes) tree.undos c.args.ledger.now.unspent c.reach.new.self _ refl (c.in-Err.ensures.err c.args.ledger.now.unspent) c.in_ok-reach.ensures.side_branch

pub returns-in-Err-clause-err : goal.returns-in-Err-clause-err
returns-in-Err-clause-err c =
    let before = changed c.args.ledger.now.unspent c.reach.new.self.overlay in
    let on =
    side_branch_on c.args.tree.now.block_indexes c.reach.new.tree.block_indexes c.reach.new.tree.undos c.args.ledger.now.unspent c.reach.new.self c.args.kept.now.header.prev c.args.parent c.in_ok-reach.ensures.block_indexes c.in_ok-reach.ensures.side_branch c.requires.parent c.in_ok-reach.ensures.end in
    elim c.in-Err.ensures.exact [
      | inl memory ↦ inl memory
      | inr failed ↦
          inr (here before on.0 (ap (λ (b : Block). spend before b.txs) (sym c.block.ensures.same) ∙ failed) (c.len.ensures.len ∙ ap (λ (ns : List BlockIndex). length ns) c.in_ok-reach.ensures.block_indexes))
    ]
