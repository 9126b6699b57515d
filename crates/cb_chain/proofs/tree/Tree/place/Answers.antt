use Rattle.std.proofs.Common.{ap, ◌<◌, ◌∙◌, length, subst}
use Rattle.std.specs.Prelude.{IfSome}
use Rattle.cb_chain.specs.Keeping.{Grown, place_of, tree_of, IsTree}
use Rattle.cb_chain.specs.Marking.{with_marks}
use Rattle.cb_chain.proofs.BlockIndexes.{place_within}
use Rattle.cb_chain.proofs.tree.Tree.place.Goals as goal

pub returns-clause-place : goal.returns-clause-place
returns-clause-place c =
    c.copied.ensures ∙ c.get.ensures.value ∙ c.self.invariant.0.places c.args.hash.now ∙ ap (λ (g : Grown). place_of (tree_of g.block_indexes) c.args.hash.now) c.self.view_is

pub returns-clause-within : goal.returns-clause-within
returns-clause-within c =
    subst (λ (g : Grown). IfSome c.copied.result (λ place. place < length g.block_indexes)) c.self.view_is
    (place_within (with_marks c.self.inside.block_indexes.block_indexes c.self.inside.marks.items) c.args.hash.now c.copied.result c.self.invariant.0.tree (c.copied.ensures ∙ c.get.ensures.value ∙ c.self.invariant.0.places c.args.hash.now))

pub returns-clause-tree : goal.returns-clause-tree
returns-clause-tree c = subst (λ (g : Grown). IsTree g.block_indexes) c.self.view_is c.self.invariant.0.tree
