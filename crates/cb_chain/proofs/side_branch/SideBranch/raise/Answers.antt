use Rattle.std.proofs.Common.{Some, inl, inr, refl, sym, ap, ◌∙◌}
use Rattle.std.proofs.lemmas.Result.{err_from_is_err_and}
use Rattle.cb_chain.specs.Keeping.{tree_of}
use Rattle.cb_chain.proofs.Tries.{fails, noted_keeps, noted_low, raised, side_branch_like}
use Rattle.cb_chain.proofs.side_branch.SideBranch.raise.Goals as goal

pub returns-in_err-undo-clause-side_branch : goal.returns-in_err-undo-clause-side_branch
returns-in_err-undo-clause-side_branch c =
    let tree = c.args.tree.now in
    side_branch_like (tree_of tree.block_indexes) tree.undos c.args.ledger.now.unspent c.args.self.now _ refl (c.in_err-undo.ensures.err c.args.ledger.now.unspent) c.requires.side_branch

pub returns-in_err-undo-clause-err : goal.returns-in_err-undo-clause-err
returns-in_err-undo-clause-err c =
    let p = err_from_is_err_and c.from_residual.result c.from_residual.ensures.1 in
    let tree = c.args.tree.now in
    rw (p.1, p.2) (elim c.in_err-undo.ensures.exact [
      | inl memory ↦ inl memory
      | inr failed ↦
          inr (fails tree.block_indexes tree.undos c.args.ledger.now.unspent c.args.self.now c.args.place _ c.block.result.now c.in_err-undo.field-0.0 c.requires.tree c.requires.side_branch c.requires.next c.block_index.ensures.block_index
          (c.in-Some.is ∙ ap Some (sym c.block.ensures.same)) failed)
    ])

pub note-requires : goal.note-requires
note-requires c = noted_low c.args.tree.now.block_indexes c.args.tree.now.undos c.args.self.now.end c.args.place c.requires.tree c.requires.undos c.requires.next

pub returns-clause-undos : goal.returns-clause-undos
returns-clause-undos c =
    let tree = c.args.tree.now in
    let is = raised tree.block_indexes c.note.new.self.block_indexes tree.undos c.note.new.self.undos c.args.ledger.now.unspent c.args.self.now (record { end = c.args.place; overlay = c.connect.new.self }) c.args.place _ c.block.result.now c.in_ok-undo.undo c.requires.tree c.requires.undos
    c.requires.side_branch c.requires.next c.block_index.ensures.block_index (c.in-Some.is ∙ ap Some (sym c.block.ensures.same)) c.in_ok-undo.ensures.undo refl c.note.ensures.block_indexes c.note.ensures.undos in
    is.undos_are

pub returns-clause-records : goal.returns-clause-records
returns-clause-records c = noted_keeps c.args.tree.now.block_indexes c.args.tree.now.undos c.note.new.self.undos c.args.self.now.end c.args.place c.in_ok-undo.undo c.requires.tree c.requires.undos c.requires.next c.note.ensures.undos

pub returns-clause-side_branch : goal.returns-clause-side_branch
returns-clause-side_branch c =
    let tree = c.args.tree.now in
    let is = raised tree.block_indexes c.note.new.self.block_indexes tree.undos c.note.new.self.undos c.args.ledger.now.unspent c.args.self.now (record { end = c.args.place; overlay = c.connect.new.self }) c.args.place _ c.block.result.now c.in_ok-undo.undo c.requires.tree c.requires.undos
    c.requires.side_branch c.requires.next c.block_index.ensures.block_index (c.in-Some.is ∙ ap Some (sym c.block.ensures.same)) c.in_ok-undo.ensures.undo refl c.note.ensures.block_indexes c.note.ensures.undos in
    is.side_branch_is
