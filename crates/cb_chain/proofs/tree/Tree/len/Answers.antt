use Rattle.std.proofs.Common.{◌≡◌, length, ap, ◌∙◌, subst, sym, arith}
use Rattle.cb_chain.specs.Keeping.{Grown, IsTree}
use Rattle.cb_chain.proofs.Pairs.{length_with}
use Rattle.cb_chain.proofs.tree.Tree.len.Goals as goal

pub returns-clause-len : goal.returns-clause-len
returns-clause-len c =
    let bares = c.self.inside.block_indexes.block_indexes in
    let marks = c.self.inside.marks.items in
    let long : length bares ≡ length marks = omega (arith, c.self.invariant.3, c.self.inside.marks.ok.0) in
    let count : c.len.result ≡ length marks = omega (arith, c.len.ensures, c.self.inside.marks.ok.0) in
    count ∙ sym (length_with bares marks long) ∙ ap (λ (g : Grown). length g.block_indexes) c.self.view_is

pub returns-clause-tree : goal.returns-clause-tree
returns-clause-tree c = subst (λ (g : Grown). IsTree g.block_indexes) c.self.view_is c.self.invariant.0.tree
