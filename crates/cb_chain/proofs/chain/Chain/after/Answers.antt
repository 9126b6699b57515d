use Rattle.std.proofs.Common.{◌≡◌, ℕ, suc, [], length, take, drop, Vec, Global, arith, ap, subst, ◌∙◌}
use Rattle.std.specs.Prelude.{IfOk, IsOk}
use Rattle.cb_block.specs.declared.header.Header.{Header}
use Rattle.cb_chain.specs.Best.{active}
use Rattle.cb_chain.specs.Entries.{Tree}
use Rattle.cb_chain.specs.Following.{start_of, up_to}
use Rattle.cb_chain.specs.Keeping.{active_places, tree_of}
use Rattle.cb_chain.proofs.PathsDown.{slot_within}
use Rattle.cb_chain.proofs.Heights.{slot_read, slot_level}
use Rattle.cb_chain.proofs.chain.Chain.after.Goals as goal

pub block_index-start-requires : goal.block_index-start-requires
block_index-start-requires c = λ is.
    slot_within c.self.inside.tree.block_indexes c.start.result c.index.result.now is
    (slot_read c.self.inside.tree.block_indexes c.args.self.now c.self.inside.active.items c.start.result c.index.result.now c.self.view_is c.self.invariant.0.places c.start.ensures.low c.index.ensures)

pub headers_to-requires-clause-height : goal.headers_to-requires-clause-height
headers_to-requires-clause-height c =
    let block_indexes = c.self.inside.tree.block_indexes in
    let places = c.self.inside.active.items in
    let slot = slot_read block_indexes c.args.self.now places c.start.result c.index.result.now c.self.view_is c.self.invariant.0.places c.start.ensures.low c.index.ensures in
    let level : c.block_index-start.result.now.height ≡ c.start.result = slot_level block_indexes c.start.result c.index.result.now _ c.block_index-start.ensures.tree slot c.block_index-start.ensures.block_index in
    let seen : length (active_places (tree_of block_indexes)) ≡ length (active_places c.args.self.now) = ap (λ (t : Tree). length (active_places t)) c.self.view_is in
    let long : length c.as_slice.result.now ≡ length (active_places (tree_of block_indexes)) = ap length (c.as_slice.ensures.value ∙ c.self.invariant.0.places) in
    omega (arith, level, seen, long, c.start.ensures.low)

pub returns-clause-exact : goal.returns-clause-exact
returns-clause-exact c =
    let block_indexes = c.self.inside.tree.block_indexes in
    let stop = c.args.stop.now in
    let slot = slot_read block_indexes c.args.self.now c.self.inside.active.items c.start.result c.index.result.now c.self.view_is c.self.invariant.0.places c.start.ensures.low c.index.ensures in
    let level = slot_level block_indexes c.start.result c.index.result.now _ c.block_index-start.ensures.tree slot c.block_index-start.ensures.block_index in
    let at_start = subst (λ (k : ℕ). IfOk c.headers_to.result (λ (headers : Vec Header Global). headers.items ≡ take 2000 (up_to stop (drop (suc k) (active (tree_of block_indexes))))))
    (level ∙ c.start.ensures.height) c.headers_to.ensures.exact
    in
    subst (λ (t : Tree). IfOk c.headers_to.result (λ (headers : Vec Header Global). headers.items ≡ take 2000 (up_to stop (drop (suc (start_of (active c.args.self.now) c.args.locator.now)) (active t)))))
    c.self.view_is at_start

pub returns-clause-none : goal.returns-clause-none
returns-clause-none c =
    let block_indexes = c.self.inside.tree.block_indexes in
    let stop = c.args.stop.now in
    let slot = slot_read block_indexes c.args.self.now c.self.inside.active.items c.start.result c.index.result.now c.self.view_is c.self.invariant.0.places c.start.ensures.low c.index.ensures in
    let level = slot_level block_indexes c.start.result c.index.result.now _ c.block_index-start.ensures.tree slot c.block_index-start.ensures.block_index in
    let at_start = subst (λ (k : ℕ). take 2000 (up_to stop (drop (suc k) (active (tree_of block_indexes)))) ≡ [] → IsOk c.headers_to.result) (level ∙ c.start.ensures.height) c.headers_to.ensures.none in
    subst (λ (t : Tree). take 2000 (up_to stop (drop (suc (start_of (active c.args.self.now) c.args.locator.now)) (active t))) ≡ [] → IsOk c.headers_to.result) c.self.view_is at_start
