use Rattle.std.proofs.Common.{◌≤◌, length, ℕ, sym, ap, subst, ◌∙◌, List}
use Rattle.std.proofs.lemmas.Bool.{ltb-false}
use Rattle.std.proofs.lemmas.Option.{same_Some}
use Rattle.cb_chain.specs.Best.{active}
use Rattle.cb_chain.specs.Following.{stands_at}
use Rattle.cb_chain.specs.Keeping.{active_places, tree_of}
use Rattle.cb_chain.specs.Marking.{BlockIndex, mark_at, index_of}
use Rattle.cb_chain.proofs.PathsDown.{slot_is, slot_within, stands_if, stands_not}
use Rattle.cb_chain.proofs.branch.stands.Goals as goal

pub block_index-requires : goal.block_index-requires
block_index-requires c = λ _.
    let block_indexes = c.args.tree.now.block_indexes in
    let look = c.in-Some.ensures.lookup in
    let height = c.block_index-block_index.result.now.height in
    slot_within block_indexes height c.in-Some.other.now c.block_index-block_index.ensures.tree (slot_is (tree_of block_indexes) c.args.places.now height c.in-Some.other.now c.requires.places look.0 look.1)

pub returns-in-Some : goal.returns-in-Some
returns-in-Some c = λ (block_index : BlockIndex) at.
    let block_indexes = c.args.tree.now.block_indexes in
    let look = c.in-Some.ensures.lookup in
    let here = index_of c.block_index-block_index.result.now (mark_at block_indexes c.args.place) in
    let slot = slot_is (tree_of block_indexes) c.args.places.now here.height c.in-Some.other.now c.requires.places look.0 look.1 in
    let found = stands_if block_indexes here _ c.args.place c.in-Some.other.now c.block_index-block_index.ensures.tree c.block_index-block_index.ensures.block_index slot c.block_index.ensures.block_index in
    c.eq.ensures ∙ found ∙ ap (λ (n : BlockIndex). stands_at (active (tree_of block_indexes)) n.height n.header) (same_Some here block_index (sym c.block_index-block_index.ensures.block_index ∙ at))

pub returns-in-None : goal.returns-in-None
returns-in-None c = λ (block_index : BlockIndex) at.
    let block_indexes = c.args.tree.now.block_indexes in
    let look = c.in-None.ensures.lookup in
    let here = index_of c.block_index-block_index.result.now (mark_at block_indexes c.args.place) in
    let one = same_Some here block_index (sym c.block_index-block_index.ensures.block_index ∙ at) in
    let past : length (active_places (tree_of block_indexes)) ≤ here.height =
    subst (λ (ps : List ℕ). length ps ≤ here.height) c.requires.places (ltb-false here.height (length c.args.places.now) (sym look.0))
    in
    stands_not block_indexes here c.block_index-block_index.ensures.tree past ∙ ap (λ (n : BlockIndex). stands_at (active (tree_of block_indexes)) n.height n.header) one
