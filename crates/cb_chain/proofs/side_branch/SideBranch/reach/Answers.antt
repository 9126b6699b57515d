use Rattle.std.proofs.Common.{List, ◌∷◌, ◌∙◌, inl, inr, subst, sym, take, ◌-◌, arith}
use Rattle.std.specs.Prelude.{reverse}
use Rattle.cb_chain.specs.Marking.{BlockIndex}
use Rattle.cb_chain.specs.Keeping.{IsTree, tree_of}
use Rattle.cb_chain.specs.SideBranches.{AreUndos, FailsAt, IsSideBranch, LeadUp, StandsOn}
use Rattle.cb_chain.proofs.Tries.{next_up, stops_below}
use Rattle.cb_chain.proofs.side_branch.SideBranch.reach.Goals as goal

pub raise-requires-clause-tree : goal.raise-requires-clause-tree
raise-requires-clause-tree c = subst IsTree (sym c.loop-left.invariant.block_indexes) c.requires.tree

pub raise-requires-clause-undos : goal.raise-requires-clause-undos
raise-requires-clause-undos c = let way = c.loop-left.invariant in subst (λ (ns : List BlockIndex). AreUndos (tree_of ns) c.loop-left.tree.undos) (sym way.block_indexes) way.undos_are

pub raise-requires-clause-side_branch : goal.raise-requires-clause-side_branch
raise-requires-clause-side_branch c =
    let way = c.loop-left.invariant in subst (λ (ns : List BlockIndex). IsSideBranch (tree_of ns) c.loop-left.tree.undos c.args.ledger.now.unspent c.loop-left.self) (sym way.block_indexes) way.side_branch_is

pub raise-requires-clause-next : goal.raise-requires-clause-next
raise-requires-clause-next c =
    let place = c.index-place.result.now in
    let way = c.loop-left.invariant in
    let up = next_up c.args.tree.now.block_indexes c.loop-left.self.end c.in-Ok.down.items c.loop-left.left place c.args.target (omega (arith, c.loop-left-test.true)) way.short c.index-place.ensures way.up in
    subst (λ (ns : List BlockIndex). StandsOn ns c.loop-left.self.end place) (sym way.block_indexes) up.0

pub returns-in-Err-raise-clause-err : goal.returns-in-Err-raise-clause-err
returns-in-Err-raise-clause-err c =
    let block_indexes = c.args.tree.now.block_indexes in
    let place = c.index-place.result.now in
    let fault = c.in-Err-raise.fault in
    let way = c.loop-left.invariant in
    let up = next_up block_indexes c.loop-left.self.end c.in-Ok.down.items c.loop-left.left place c.args.target (omega (arith, c.loop-left-test.true)) way.short c.index-place.ensures way.up in
    elim c.in-Err-raise.ensures.err [
      | inl memory ↦ inl memory
      | inr fails ↦
          inr (stops_below block_indexes c.loop-left.self.end place (reverse (take (c.loop-left.left - 1) c.in-Ok.down.items)) c.args.target fault c.requires.tree up (subst (λ (ns : List BlockIndex). FailsAt ns place fault) way.block_indexes fails))
    ]

pub loop-left-preserved : goal.loop-left-preserved
loop-left-preserved c =
    let block_indexes = c.args.tree.now.block_indexes in
    let place = c.index-place.result.now in
    let down = c.in-Ok.down.items in
    let way = c.loop-left.invariant in
    let up = next_up block_indexes c.loop-left.self.end down c.loop-left.left place c.args.target (omega (arith, c.loop-left-test.true)) way.short c.index-place.ensures way.up in
    let same = c.raise.ensures.block_indexes ∙ way.block_indexes in
    record {
      block_indexes = same;
      room = c.raise.ensures.room ∙ way.room;
      undos_are = subst (λ (ns : List BlockIndex). AreUndos (tree_of ns) c.raise.new.tree.undos) same c.raise.ensures.undos;
      records = λ place has. c.raise.ensures.records place (way.records place has);
      side_branch_is = subst (λ (ns : List BlockIndex). IsSideBranch (tree_of ns) c.raise.new.tree.undos c.args.ledger.now.unspent c.raise.new.self) same c.raise.ensures.side_branch;
      short = omega (arith, way.short);
      up = subst (λ end. LeadUp block_indexes end (reverse (take (c.loop-left.left - 1) down)) c.args.target) (sym c.in-Ok-raise.ensures.end) up.1;
    }
