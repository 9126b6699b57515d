use Rattle.std.proofs.Common.{◌≡◌, ◌<◌, length, subst, sym, arith}
use Rattle.cb_chain.specs.Keeping.{Grown, IsTree}
use Rattle.cb_chain.specs.Marking.{mark_at, with_marks}
use Rattle.cb_chain.proofs.Pairs.{length_with, mark_with}
use Rattle.cb_chain.proofs.tree.Tree.is_bad.Goals as goal

pub index-requires : goal.index-requires
index-requires c =
    let bares = c.self.inside.block_indexes.block_indexes in
    let marks = c.self.inside.marks.items in
    let long : length bares ≡ length marks = omega (arith, c.self.invariant.3, c.self.inside.marks.ok.0) in
    let low : c.args.place < length (with_marks bares marks) = subst (λ (g : Grown). IsTree g.block_indexes → c.args.place < length g.block_indexes) (sym c.self.view_is) c.requires c.self.invariant.0.tree in
    omega (arith, low, length_with bares marks long, c.self.inside.marks.ok.0)

pub returns : goal.returns
returns c =
    let bares = c.self.inside.block_indexes.block_indexes in
    let marks = c.self.inside.marks.items in
    let long : length bares ≡ length marks = omega (arith, c.self.invariant.3, c.self.inside.marks.ok.0) in
    let low : c.args.place < length (with_marks bares marks) = subst (λ (g : Grown). IsTree g.block_indexes → c.args.place < length g.block_indexes) (sym c.self.view_is) c.requires c.self.invariant.0.tree in
    let within : c.args.place < length marks = omega (arith, low, length_with bares marks long) in
    subst (λ (g : Grown). c.index.result.now ≡ mark_at g.block_indexes c.args.place) c.self.view_is (mark_with bares marks c.args.place c.index.result.now long within c.index.ensures)
