use Rattle.std.proofs.Common.{◌≡◌, Bool, Some, refl, subst, sym, ◌∙◌}
use Rattle.cb_chain.specs.Entries.{entry_of}
use Rattle.cb_chain.specs.Keeping.{entry_from, tree_of}
use Rattle.cb_chain.specs.Marking.{mark_at, index_of}
use Rattle.cb_chain.proofs.BlockIndexes.{unfound}
use Rattle.cb_chain.proofs.SideBranchIndexes.{known_at}
use Rattle.cb_chain.proofs.tree.Tree.find.Goals as goal

pub returns-in-Some-clause-entry : goal.returns-in-Some-clause-entry
returns-in-Some-clause-entry c =
    let block_indexes = c.args.self.now.block_indexes in
    let is = known_at block_indexes (tree_of block_indexes) c.args.hash.now c.in-Some.place (index_of c.block_index.result.now (mark_at block_indexes c.in-Some.place)) c.block_index.ensures.tree refl (sym c.place.ensures.place ∙ c.in-Some.is) c.block_index.ensures.block_index in
    subst (λ (b : Bool). entry_of (tree_of block_indexes) c.args.hash.now ≡ Some (entry_from (index_of c.block_index.result.now b))) (sym c.is_bad.ensures) is.entry

pub returns-in-Some-clause-height : goal.returns-in-Some-clause-height
returns-in-Some-clause-height c =
    let block_indexes = c.args.self.now.block_indexes in
    (known_at block_indexes (tree_of block_indexes) c.args.hash.now c.in-Some.place (index_of c.block_index.result.now (mark_at block_indexes c.in-Some.place)) c.block_index.ensures.tree refl (sym c.place.ensures.place ∙ c.in-Some.is) c.block_index.ensures.block_index).height

pub returns-in-None-clause-entry : goal.returns-in-None-clause-entry
returns-in-None-clause-entry c = (unfound c.args.self.now.block_indexes c.args.hash.now (sym c.place.ensures.place ∙ c.in-None.is)).0

pub returns-in-None-clause-height : goal.returns-in-None-clause-height
returns-in-None-clause-height c = (unfound c.args.self.now.block_indexes c.args.hash.now (sym c.place.ensures.place ∙ c.in-None.is)).1
