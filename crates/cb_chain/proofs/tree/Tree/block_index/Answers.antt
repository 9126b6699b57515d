use Rattle.std.proofs.Common.{◌≡◌, ◌<◌, Some, length, subst, sym, arith}
use Rattle.std.specs.Prelude.{slice_get}
use Rattle.cb_chain.specs.Keeping.{Grown, IsTree}
use Rattle.cb_chain.specs.Marking.{mark_at, index_of, with_marks}
use Rattle.cb_chain.proofs.Pairs.{get_with, length_with}
use Rattle.cb_chain.proofs.tree.Tree.block_index.Goals as goal

pub get-requires : goal.get-requires
get-requires c =
    let bares = c.self.inside.block_indexes.block_indexes in
    let marks = c.self.inside.marks.items in
    let long : length bares ≡ length marks = omega (arith, c.self.invariant.3, c.self.inside.marks.ok.0) in
    let low : c.args.place < length (with_marks bares marks) = subst (λ (g : Grown). IsTree g.block_indexes → c.args.place < length g.block_indexes) (sym c.self.view_is) c.requires c.self.invariant.0.tree in
    omega (arith, low, length_with bares marks long, long)

pub returns-clause-block_index : goal.returns-clause-block_index
returns-clause-block_index c =
    let bares = c.self.inside.block_indexes.block_indexes in
    let marks = c.self.inside.marks.items in
    let long : length bares ≡ length marks = omega (arith, c.self.invariant.3, c.self.inside.marks.ok.0) in
    subst (λ (g : Grown). slice_get g.block_indexes c.args.place ≡ Some (index_of c.get.result.now (mark_at g.block_indexes c.args.place))) c.self.view_is (get_with bares marks c.args.place c.get.result.now long c.get.ensures)

pub returns-clause-tree : goal.returns-clause-tree
returns-clause-tree c = subst (λ (g : Grown). IsTree g.block_indexes) c.self.view_is c.self.invariant.0.tree
