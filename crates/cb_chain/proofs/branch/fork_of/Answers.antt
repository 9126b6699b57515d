use Rattle.std.proofs.Common.{◌≡◌, false, true, sym, ◌∙◌}
use Rattle.cb_chain.specs.Best.{active}
use Rattle.cb_chain.specs.Following.{stands_at}
use Rattle.cb_chain.specs.Keeping.{tree_of}
use Rattle.cb_chain.specs.Marking.{mark_at, index_of}
use Rattle.cb_chain.proofs.Forks.{Goes, forking_starts, forking_goes, forking_ends}
use Rattle.cb_chain.proofs.branch.fork_of.Goals as goal

pub loop-place-init : goal.loop-place-init
loop-place-init c = (c.requires.place, λ is. forking_starts c.args.tree.now.block_indexes c.args.from is c.requires.place)

pub loop-place-smaller : goal.loop-place-smaller
loop-place-smaller c =
    let block_indexes = c.args.tree.now.block_indexes in
    let block_index = index_of c.block_index.result.now (mark_at block_indexes c.loop-place.place) in
    let is = c.block_index.ensures.tree in
    let off : stands_at (active (tree_of block_indexes)) block_index.height block_index.header ≡ false = sym (c.stands.ensures block_index c.block_index.ensures.block_index) ∙ c.loop-place-test.true in
    let goes : Goes block_indexes c.args.from block_index c.loop-place.place = forking_goes block_indexes c.args.from c.loop-place.place block_index is (c.loop-place.invariant.1 is) c.loop-place.invariant.0 c.block_index.ensures.block_index off in
    goes.parent

pub loop-place-preserved : goal.loop-place-preserved
loop-place-preserved c =
    let block_indexes = c.args.tree.now.block_indexes in
    let block_index = index_of c.block_index.result.now (mark_at block_indexes c.loop-place.place) in
    let is = c.block_index.ensures.tree in
    let off : stands_at (active (tree_of block_indexes)) block_index.height block_index.header ≡ false = sym (c.stands.ensures block_index c.block_index.ensures.block_index) ∙ c.loop-place-test.true in
    let goes : Goes block_indexes c.args.from block_index c.loop-place.place = forking_goes block_indexes c.args.from c.loop-place.place block_index is (c.loop-place.invariant.1 is) c.loop-place.invariant.0 c.block_index.ensures.block_index off in
    (goes.within, λ _. goes.next)

pub returns : goal.returns
returns c = λ hash e.
    let block_indexes = c.args.tree.now.block_indexes in
    let block_index = index_of c.block_index-2.result.now (mark_at block_indexes c.loop-place.place) in
    let is = c.block_index-2.ensures.tree in
    let on : stands_at (active (tree_of block_indexes)) block_index.height block_index.header ≡ true = sym (c.stands.ensures block_index c.block_index-2.ensures.block_index) ∙ c.loop-place-test.false in
    forking_ends block_indexes c.args.from c.loop-place.place block_index hash is (c.loop-place.invariant.1 is) c.block_index-2.ensures.block_index on e
