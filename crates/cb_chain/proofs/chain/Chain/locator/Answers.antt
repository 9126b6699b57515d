use Rattle.std.proofs.Common.{◌≡◌, suc, ◌-◌, ◌*◌, ◌<◌, ◌∷◌, [], length, length-append, ap, sym, ◌∙◌, arith}
use Rattle.cb_chain.specs.Best.{active}
use Rattle.cb_chain.specs.Keeping.{tree_of}
use Rattle.cb_chain.proofs.Locators.{found_hash, located, locates_all, locates_next, locates_none, locates_within, some_places, step_doubles, step_fits, step_same, step_some, step_to}
use Rattle.cb_chain.proofs.Tips.{low_at}
use Rattle.cb_chain.proofs.chain.Chain.locator.Goals as goal
use Rattle.cb_chain.proofs.chain.Chain.locator.Goals.{then-len-ge12, else-len-ge12}

pub loop-height-init : goal.loop-height-init
loop-height-init c =
    locates_none (active c.args.self.now) (length c.self.inside.active.items - 1) c.new-hashes.result.items (c.len-height.result - 1) c.new-hashes.ensures.items (omega (arith, c.self.inside.active.ok.0))

pub index-requires : goal.index-requires
index-requires c =
    let path = c.self.inside.active.items in
    let low = locates_within (active c.args.self.now) (tree_of c.self.inside.tree.block_indexes) path c.loop-height.hashes.items c.loop-height.height c.loop-height.step c.self.invariant.0.places c.loop-height.invariant in
    omega (arith, low, c.self.inside.active.ok.0)

pub block_index-requires : goal.block_index-requires
block_index-requires c =
    let path = c.self.inside.active.items in
    let low = locates_within (active c.args.self.now) (tree_of c.self.inside.tree.block_indexes) path c.loop-height.hashes.items c.loop-height.height c.loop-height.step c.self.invariant.0.places c.loop-height.invariant in
    low_at c.self.inside.tree.block_indexes path c.loop-height.height c.index.result.now c.self.invariant.0.places low c.index.ensures

pub overflow_mul-step : goal.overflow_mul-step
overflow_mul-step c =
    let hashes = c.loop-height.hashes.items in
    let path = c.self.inside.active.items in
    let long : length c.push.new.self.items ≡ suc (length hashes) = ap length c.in_ok-push.ensures.items ∙ length-append hashes (c.block_index.result.now.hash ∷ []) ∙ omega arith in
    let low : c.loop-height.step * 2 < length path - 1 =
    step_fits (active c.args.self.now) (length path - 1) hashes c.loop-height.height c.loop-height.step c.loop-height.invariant c.loop-height-test.true (omega (arith, long, c.push.new.self.ok.0))
    in
    omega (arith, low, c.self.inside.active.ok.0)

stepped : (c : goal.After-saturating_sub-height) → c.if-len-ge12.step ≡ step_to (length c.push.new.self.items)
stepped c =
    let hashes = c.loop-height.hashes.items in
    let tip = length c.self.inside.active.items - 1 in
    let long : length c.push.new.self.items ≡ suc (length hashes) = ap length c.in_ok-push.ensures.items ∙ length-append hashes (c.block_index.result.now.hash ∷ []) ∙ omega arith in
    elim c.if-len-ge12.branch [
      | then-len-ge12 w ↦
          w.step-is
          ∙ step_doubles (active c.args.self.now) tip hashes c.loop-height.height c.loop-height.step c.loop-height.invariant (omega (arith, w.if-len-ge12.true, long, c.push.new.self.ok.0))
          ∙ ap step_to (sym long)
      | else-len-ge12 w ↦
          w.step-is
          ∙ step_same (active c.args.self.now) tip hashes c.loop-height.height c.loop-height.step c.loop-height.invariant (omega (arith, w.if-len-ge12.false, long, c.push.new.self.ok.0))
          ∙ ap step_to (sym long)
    ]

pub loop-height-smaller : goal.loop-height-smaller
loop-height-smaller c = omega (arith, stepped c, step_some (length c.push.new.self.items), c.loop-height-test.true)

pub loop-height-preserved : goal.loop-height-preserved
loop-height-preserved c =
    let block_indexes = c.self.inside.tree.block_indexes in
    let path = c.self.inside.active.items in
    let tree = c.args.self.now in
    let hashes = c.loop-height.hashes.items in
    let height = c.loop-height.height in
    let low = locates_within (active tree) (tree_of block_indexes) path hashes height c.loop-height.step c.self.invariant.0.places c.loop-height.invariant in
    let here = found_hash block_indexes tree path height c.index.result.now _ c.block_index.ensures.tree c.self.view_is c.self.invariant.0.places low c.index.ensures c.block_index.ensures.block_index in
    locates_next (active tree) (length path - 1) hashes c.push.new.self.items height c.loop-height.step c.saturating_sub-height.result c.if-len-ge12.step c.block_index.result.now.hash
    c.loop-height.invariant c.loop-height-test.true here c.in_ok-push.ensures.items (stepped c) c.saturating_sub-height.ensures

pub returns-clause-exact : goal.returns-clause-exact
returns-clause-exact c =
    let block_indexes = c.self.inside.tree.block_indexes in
    let path = c.self.inside.active.items in
    let tree = c.args.self.now in
    let first = found_hash block_indexes tree path 0 c.index-2.result.now _ c.block_index-2.ensures.tree c.self.view_is c.self.invariant.0.places (some_places (tree_of block_indexes) path c.self.invariant.0.places) c.index-2.ensures c.block_index-2.ensures.block_index in
    c.in_ok-push-2.ensures.items
    ∙ locates_all (active tree) (length path - 1) c.loop-height.hashes.items c.loop-height.height c.loop-height.step c.block_index-2.result.now.hash c.loop-height.invariant c.loop-height-test.false first
    ∙ located block_indexes tree path c.block_index-2.ensures.tree c.self.view_is c.self.invariant.0.places
