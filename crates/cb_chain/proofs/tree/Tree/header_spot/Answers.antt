use Rattle.std.proofs.Common.{◌≡◌, ◌∙◌, Option, ap, refl, sym, subst, None, Some, false, IfErr, OnOk}
use Rattle.cb_base.specs.declared.fault.Fault.{Fault}
use Rattle.cb_chain.specs.Entries.{block_hash}
use Rattle.cb_chain.specs.Calls.{header_fault}
use Rattle.cb_chain.specs.Keeping.{parent_fault, place_of, tree_of}
use Rattle.cb_chain.proofs.SideBranchIndexes.{header_known, header_marked, header_unknown, known_by}
use Rattle.cb_chain.proofs.tree.Tree.header_spot.Goals as goal

pub returns-then-is_bad-clause-err : goal.returns-then-is_bad-clause-err
returns-then-is_bad-clause-err c =
    let block_indexes = c.args.self.now.block_indexes in
    let is = known_by block_indexes (block_hash c.args.header) c.in-Some.place c.is_bad.result c.place.ensures.tree (ap (place_of (tree_of block_indexes)) (sym c.requires) ∙ sym c.place.ensures.place ∙ c.in-Some.is) c.is_bad.ensures in
    header_marked (tree_of block_indexes) c.args.header is.0 is.1 (is.2 ∙ c.if-is_bad.true)

pub returns-in-Some-clause-err : goal.returns-in-Some-clause-err
returns-in-Some-clause-err c =
    let block_indexes = c.args.self.now.block_indexes in
    let is = known_by block_indexes (block_hash c.args.header) c.in-Some.place c.is_bad.result c.place.ensures.tree (ap (place_of (tree_of block_indexes)) (sym c.requires) ∙ sym c.place.ensures.place ∙ c.in-Some.is) c.is_bad.ensures in
    header_known (tree_of block_indexes) c.args.header is.0 is.1 (is.2 ∙ c.if-is_bad.false)

pub returns-clause-none : goal.returns-clause-none
returns-clause-none c =
    let same : header_fault (tree_of c.args.self.now.block_indexes) c.args.header ≡ parent_fault (tree_of c.args.self.now.block_indexes) c.args.header.prev false =
    header_unknown c.args.self.now.block_indexes (tree_of c.args.self.now.block_indexes) c.args.header refl (ap (place_of (tree_of c.args.self.now.block_indexes)) (sym c.requires) ∙ sym c.place.ensures.place ∙ c.in_default.is)
    in
    subst (λ (o : Option Fault). OnOk c.spot_on_parent.result (o ≡ None)) (sym same) c.spot_on_parent.ensures.none

pub returns-clause-err : goal.returns-clause-err
returns-clause-err c =
    let same : header_fault (tree_of c.args.self.now.block_indexes) c.args.header ≡ parent_fault (tree_of c.args.self.now.block_indexes) c.args.header.prev false =
    header_unknown c.args.self.now.block_indexes (tree_of c.args.self.now.block_indexes) c.args.header refl (ap (place_of (tree_of c.args.self.now.block_indexes)) (sym c.requires) ∙ sym c.place.ensures.place ∙ c.in_default.is)
    in
    subst (λ (o : Option Fault). IfErr c.spot_on_parent.result (λ fault. o ≡ Some fault)) (sym same) c.spot_on_parent.ensures.err
