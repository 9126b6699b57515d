use Rattle.std.proofs.Common.{◌≡◌, ◌∷◌, ◌∙◌, Err, None, Some, ap, inr, refl, sym, subst, false}
use Rattle.std.proofs.lemmas.Result.{err_from_is_err_and}
use Rattle.cb_chain.specs.declared.block_index.BareIndex.{BareIndex}
use Rattle.cb_chain.specs.Marking.{BlockIndex, index_of}
use Rattle.cb_chain.specs.Calls.AcceptsHeader.{kept, refused, without_work}
use Rattle.cb_chain.specs.Calls.{AcceptsHeader, header_entry, header_fault}
use Rattle.cb_chain.specs.Entries.{Entry, Tree}
use Rattle.cb_chain.specs.History.{IsHistoric}
use Rattle.cb_chain.specs.Keeping.{IsIndex, IsSpot, entry_from, tree_of}
use Rattle.cb_chain.proofs.SideBranchIndexes.{Grows, bare_best, bare_index, bare_on, grows_tree, header_free}
use Rattle.cb_chain.proofs.Histories.{historic_header, history_header}
use Rattle.cb_chain.proofs.Undos.{grows_chain}
use Rattle.cb_chain.proofs.chain.Chain.accept_header.Goals.{After-from_residual-in_err-spot}
use Rattle.cb_chain.proofs.chain.Chain.accept_header.Goals as goal

against : (c : After-from_residual-in_err-spot) → header_fault c.args.self.now c.args.header ≡ Some c.in_err-spot.field-0.0
against c = subst (λ (t : Tree). header_fault t c.args.header ≡ Some c.in_err-spot.field-0.0) c.self.view_is c.in_err-spot.ensures.err

pub returns-in_err-spot-clause-err : goal.returns-in_err-spot-clause-err
returns-in_err-spot-clause-err c =
    let p = err_from_is_err_and c.from_residual-in_err-spot.result c.from_residual-in_err-spot.ensures.1 in rw (p.1, p.2) (inr (refused c.in_ok-hash.ensures.1 c.in_err-spot.field-0.0 (against c) refl refl))

pub invariant_of-self-2 : goal.invariant_of-self-2
invariant_of-self-2 c =
    let spot : IsSpot c.in_ok-spot.spot c.args.header c.args.self.now = subst (IsSpot c.in_ok-spot.spot c.args.header) c.self.view_is c.in_ok-spot.ensures.ok in
    let none : header_fault c.args.self.now c.args.header ≡ None = subst (λ (t : Tree). header_fault t c.args.header ≡ None) c.self.view_is c.in_ok-spot.ensures.none in
    let one : IsIndex (index_of c.block_index.result false) c.args.self.now =
    subst (λ (n : BlockIndex). IsIndex n c.args.self.now) (sym (ap (λ (b : BareIndex). index_of b false) c.block_index.ensures)) (bare_index c.in_ok-spot.spot c.args.header c.args.self.now false spot (header_free c.args.self.now c.args.header none))
    in
    let grows : Grows c.self.inside.tree.block_indexes c.reserve.new.self.block_indexes c.args.self.now (index_of c.block_index.result false) =
    record { is = c.in_ok-reserve.ensures.tree; same = c.in_ok-reserve.ensures.same; view = c.self.view_is; one = one }
    in
    let entry : entry_from (index_of c.block_index.result false) ≡ header_entry c.args.header = ap entry_from (ap (λ (b : BareIndex). index_of b false) c.block_index.ensures) ∙ bare_on c.in_ok-spot.spot c.args.header spot.header in
    let grown : tree_of c.add.new.self.block_indexes ≡ header_entry c.args.header ∷ c.args.self.now =
    grows_tree c.self.inside.tree.block_indexes c.reserve.new.self.block_indexes c.add.new.self.block_indexes c.args.self.now (index_of c.block_index.result false) grows c.add.ensures.block_indexes ∙ ap (λ (e : Entry). e ∷ c.args.self.now) entry
    in
    let told : AcceptsHeader c.args.self.now c.args.header None (tree_of c.add.new.self.block_indexes) = kept c.in_ok-hash.ensures.1 none refl grown in (
      grows_chain c.self.inside.tree.block_indexes c.reserve.new.self.block_indexes c.add.new.self.block_indexes c.args.self.now (index_of c.block_index.result false) c.self.inside.active.items c.self.inside.tree.undos c.reserve.new.self.undos c.add.new.self.undos
          c.self.inside.ledger.unspent c.self.inside.side_branch grows c.add.ensures.block_indexes c.in_ok-reserve.ensures.undos c.add.ensures.undos (bare_best (entry_from (index_of c.block_index.result false)) c.args.self.now (ap (λ (n : BlockIndex). n.kept) (ap (λ (b : BareIndex). index_of b false) c.block_index.ensures))) c.self.invariant.0,
      historic_header c.args.self.now (tree_of c.add.new.self.block_indexes) c.args.header None (subst IsHistoric c.self.view_is c.self.invariant.1) told,
    )

pub returns-in_err-spot-clause-history : goal.returns-in_err-spot-clause-history
returns-in_err-spot-clause-history c =
    let p = err_from_is_err_and c.from_residual-in_err-spot.result c.from_residual-in_err-spot.ensures.1 in
    history_header c.args.self.now c.args.header c.from_residual-in_err-spot.result c.in_err-spot.field-0.0 (p.1 ∙ ap Err p.2)
    (refused c.in_ok-hash.ensures.1 c.in_err-spot.field-0.0 (against c) refl refl)

pub returns-in_err-hash-clause-history : goal.returns-in_err-hash-clause-history
returns-in_err-hash-clause-history c =
    let p = err_from_is_err_and c.from_residual.result c.from_residual.ensures.1 in
    let w = c.in_err-hash.ensures in
    history_header c.args.self.now c.args.header c.from_residual.result c.in_err-hash.field-0.0 (p.1 ∙ ap Err p.2) (without_work w.1 (ap Some w.0) refl)
