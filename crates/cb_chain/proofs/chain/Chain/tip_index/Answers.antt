use Rattle.std.proofs.Common.{◌-◌, ◌<◌, length, ap, sym, ◌∙◌, arith}
use Rattle.cb_chain.specs.Best.{best}
use Rattle.cb_chain.specs.Entries.{Tree, height_of}
use Rattle.cb_chain.specs.Keeping.{tree_of}
use Rattle.cb_chain.proofs.Tips.{low_at, tip_last, tip_index}
use Rattle.cb_chain.proofs.chain.Chain.tip_index.Goals as goal

pub block_index-requires : goal.block_index-requires
block_index-requires c =
    let path = c.self.inside.active.items in
    let block_indexes = c.self.inside.tree.block_indexes in
    let tip = tip_last (tree_of block_indexes) path c.self.invariant.0.places in
    let some : 0 < length path = tip.some in
    low_at block_indexes path (c.len.result - 1) c.index.result.now c.self.invariant.0.places (omega (arith, some, c.self.inside.active.ok.0)) c.index.ensures

pub returns-clause-hash : goal.returns-clause-hash
returns-clause-hash c =
    let path = c.self.inside.active.items in
    let block_indexes = c.self.inside.tree.block_indexes in
    let block_index = tip_index block_indexes path (c.len.result - 1) c.index.result.now _ c.self.invariant.0.places (omega (arith, c.self.inside.active.ok.0)) c.index.ensures c.block_index.ensures.block_index c.block_index.ensures.tree in
    block_index.hash ∙ ap best c.self.view_is

pub returns-clause-height : goal.returns-clause-height
returns-clause-height c =
    let path = c.self.inside.active.items in
    let block_indexes = c.self.inside.tree.block_indexes in
    let block_index = tip_index block_indexes path (c.len.result - 1) c.index.result.now _ c.self.invariant.0.places (omega (arith, c.self.inside.active.ok.0)) c.index.ensures c.block_index.ensures.block_index c.block_index.ensures.tree in
    ap (λ (tree : Tree). height_of tree (best tree)) (sym c.self.view_is) ∙ block_index.height
