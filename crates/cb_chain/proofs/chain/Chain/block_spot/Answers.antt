use Rattle.std.proofs.Common.{◌≡◌, ◌∙◌, Option, ap, sym, subst, None, Some, true, IfErr, OnOk}
use Rattle.cb_base.specs.declared.fault.Fault.{Fault}
use Rattle.cb_chain.specs.Best.{best}
use Rattle.cb_chain.specs.Entries.{Tree, block_hash, is_kept}
use Rattle.cb_chain.specs.Calls.{block_fault}
use Rattle.cb_chain.specs.Keeping.{parent_fault, place_of, tree_of}
use Rattle.cb_chain.specs.Marking.{mark_at, index_of}
use Rattle.cb_chain.proofs.SideBranchIndexes.{block_bare, block_kept, block_marked, block_unknown, known_at}
use Rattle.cb_chain.proofs.PathsDown.{best_kept}
use Rattle.cb_chain.proofs.chain.Chain.block_spot.Goals as goal
use Rattle.cb_chain.proofs.chain.Chain.block_spot.Goals.{in-Some+else-is_bad+else-is_some, in_default}

pub returns-then-is_bad-clause-err : goal.returns-then-is_bad-clause-err
returns-then-is_bad-clause-err c =
    block_marked c.args.self.now c.args.header (index_of c.block_index-block_index.result.now (mark_at c.self.inside.tree.block_indexes c.in-Some.place))
    (known_at c.self.inside.tree.block_indexes c.args.self.now (block_hash c.args.header) c.in-Some.place (index_of c.block_index-block_index.result.now (mark_at c.self.inside.tree.block_indexes c.in-Some.place)) c.block_index-block_index.ensures.tree c.self.view_is
    (ap (place_of (tree_of c.self.inside.tree.block_indexes)) (sym c.requires) ∙ sym c.place.ensures.place ∙ c.in-Some.is) c.block_index-block_index.ensures.block_index) (sym c.is_bad.ensures ∙ c.if-is_bad.true)

pub returns-then-is_some-clause-err : goal.returns-then-is_some-clause-err
returns-then-is_some-clause-err c =
    block_kept c.args.self.now c.args.header (index_of c.block_index-block_index.result.now (mark_at c.self.inside.tree.block_indexes c.in-Some.place))
    (known_at c.self.inside.tree.block_indexes c.args.self.now (block_hash c.args.header) c.in-Some.place (index_of c.block_index-block_index.result.now (mark_at c.self.inside.tree.block_indexes c.in-Some.place)) c.block_index-block_index.ensures.tree c.self.view_is
    (ap (place_of (tree_of c.self.inside.tree.block_indexes)) (sym c.requires) ∙ sym c.place.ensures.place ∙ c.in-Some.is) c.block_index-block_index.ensures.block_index) (sym c.is_bad.ensures ∙ c.if-is_bad.false) (sym c.is_some.ensures ∙ c.if-is_some.true)

pub returns-clause-none : goal.returns-clause-none
returns-clause-none c =
    let same : block_fault c.args.self.now c.args.header ≡ parent_fault c.args.self.now c.args.header.prev true =
    elim c.match-place.branch [
      | in-Some+else-is_bad+else-is_some w ↦
          block_bare c.args.self.now c.args.header (index_of w.block_index-block_index.result.now (mark_at c.self.inside.tree.block_indexes w.in-Some.place))
          (known_at c.self.inside.tree.block_indexes c.args.self.now (block_hash c.args.header) w.in-Some.place (index_of w.block_index-block_index.result.now (mark_at c.self.inside.tree.block_indexes w.in-Some.place)) w.block_index-block_index.ensures.tree c.self.view_is
          (ap (place_of (tree_of c.self.inside.tree.block_indexes)) (sym c.requires) ∙ sym c.place.ensures.place ∙ w.in-Some.is) w.block_index-block_index.ensures.block_index) (sym w.is_bad.ensures ∙ w.if-is_bad.false) (sym w.is_some.ensures ∙ w.if-is_some.false)
      | in_default w ↦ block_unknown c.self.inside.tree.block_indexes c.args.self.now c.args.header c.self.view_is (ap (place_of (tree_of c.self.inside.tree.block_indexes)) (sym c.requires) ∙ sym c.place.ensures.place ∙ w.in_default.is)
    ]
    in
    let view = ap (λ (tree : Tree). parent_fault tree c.args.header.prev true) c.self.view_is in
    subst (λ (o : Option Fault). OnOk c.spot_on_parent.result (o ≡ None)) (view ∙ sym same) c.spot_on_parent.ensures.none

pub returns-clause-err : goal.returns-clause-err
returns-clause-err c =
    let same : block_fault c.args.self.now c.args.header ≡ parent_fault c.args.self.now c.args.header.prev true =
    elim c.match-place.branch [
      | in-Some+else-is_bad+else-is_some w ↦
          block_bare c.args.self.now c.args.header (index_of w.block_index-block_index.result.now (mark_at c.self.inside.tree.block_indexes w.in-Some.place))
          (known_at c.self.inside.tree.block_indexes c.args.self.now (block_hash c.args.header) w.in-Some.place (index_of w.block_index-block_index.result.now (mark_at c.self.inside.tree.block_indexes w.in-Some.place)) w.block_index-block_index.ensures.tree c.self.view_is
          (ap (place_of (tree_of c.self.inside.tree.block_indexes)) (sym c.requires) ∙ sym c.place.ensures.place ∙ w.in-Some.is) w.block_index-block_index.ensures.block_index) (sym w.is_bad.ensures ∙ w.if-is_bad.false) (sym w.is_some.ensures ∙ w.if-is_some.false)
      | in_default w ↦ block_unknown c.self.inside.tree.block_indexes c.args.self.now c.args.header c.self.view_is (ap (place_of (tree_of c.self.inside.tree.block_indexes)) (sym c.requires) ∙ sym c.place.ensures.place ∙ w.in_default.is)
    ]
    in
    let view = ap (λ (tree : Tree). parent_fault tree c.args.header.prev true) c.self.view_is in
    subst (λ (o : Option Fault). IfErr c.spot_on_parent.result (λ fault. o ≡ Some fault)) (view ∙ sym same) c.spot_on_parent.ensures.err

pub returns-then-is_bad-clause-tip : goal.returns-then-is_bad-clause-tip
returns-then-is_bad-clause-tip c = subst (λ (tree : Tree). is_kept tree (best tree) ≡ true) c.self.view_is (best_kept c.self.inside.tree.block_indexes c.place.ensures.tree)

pub returns-then-is_some-clause-tip : goal.returns-then-is_some-clause-tip
returns-then-is_some-clause-tip c = subst (λ (tree : Tree). is_kept tree (best tree) ≡ true) c.self.view_is (best_kept c.self.inside.tree.block_indexes c.place.ensures.tree)

pub returns-clause-tip : goal.returns-clause-tip
returns-clause-tip c = subst (λ (tree : Tree). is_kept tree (best tree) ≡ true) c.self.view_is (best_kept c.self.inside.tree.block_indexes c.place.ensures.tree)
