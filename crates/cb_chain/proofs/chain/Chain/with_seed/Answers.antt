use Rattle.std.proofs.Common.{◌≡◌, [], ◌∷◌, arith}
use Rattle.std.proofs.lemmas.Grind.{common_steps}
use Rattle.cb_chain.specs.Keeping.{tree_of}
use Rattle.cb_chain.proofs.Tips.{chain_first}
use Rattle.cb_chain.proofs.chain.Chain.with_seed.Goals as goal

pub invariant_of-result : goal.invariant_of-result
invariant_of-result c =
    let first : c.push.new.self.items ≡ 0 ∷ [] = grind (arith, common_steps) in (
      chain_first (tree_of c.in_ok-tree.tree.block_indexes) c.push.new.self.items c.in_ok-tree.tree.undos c.with_seed-ledger.result.unspent c.in_ok-tree.ensures.block_indexes first c.in_ok-tree.ensures.undos c.with_seed-ledger.ensures,
      ([], c.in_ok-tree.ensures.block_indexes),
    )
