use Rattle.std.proofs.Common.{◌≡◌, ◌<◌, List, ℕ, sym, ap, subst, ◌∙◌, arith}
use Rattle.std.proofs.lemmas.Option.{same_Some}
use Rattle.cb_chain.specs.Marking.{BlockIndex, mark_at, index_of}
use Rattle.cb_chain.proofs.Forks.{Climbing, Climbs, climbing_starts, climbing_goes, climbing_ends}
use Rattle.cb_chain.proofs.branch.branch_above.Goals as goal

pub loop-branch-init : goal.loop-branch-init
loop-branch-init c = (c.requires.place, λ is. climbing_starts c.args.tree.now.block_indexes c.args.from c.args.fork c.new-branch.result.items c.new-branch.ensures.items is c.requires.place)

climbs : (c : goal.After-block_index-in-loop-branch) → Climbs c.args.tree.now.block_indexes c.args.from c.args.fork (index_of c.block_index-in-loop-branch.result.now (mark_at c.args.tree.now.block_indexes c.loop-branch.place)) c.loop-branch.place c.loop-branch.branch.items
climbs c =
    let block_index = index_of c.block_index-in-loop-branch.result.now (mark_at c.args.tree.now.block_indexes c.loop-branch.place) in
    let one : index_of c.block_index.result.now (mark_at c.args.tree.now.block_indexes c.loop-branch.place) ≡ block_index = same_Some _ block_index (sym c.block_index.ensures.block_index ∙ c.block_index-in-loop-branch.ensures.block_index) in
    let higher : c.args.fork < block_index.height = omega (arith, c.loop-branch-test.true, ap (λ (n : BlockIndex). n.height) one) in
    climbing_goes c.args.tree.now.block_indexes c.args.from c.args.fork c.loop-branch.place c.loop-branch.branch.items block_index (c.loop-branch.invariant.1 c.block_index.ensures.tree) c.loop-branch.invariant.0 c.block_index-in-loop-branch.ensures.block_index higher

pub loop-branch-smaller : goal.loop-branch-smaller
loop-branch-smaller c = (climbs c).parent

pub loop-branch-preserved : goal.loop-branch-preserved
loop-branch-preserved c =
    ((climbs c).within, λ _. subst (λ (ps : List ℕ). Climbing c.args.tree.now.block_indexes c.args.from c.args.fork c.block_index-in-loop-branch.result.now.parent ps) (sym c.in_ok-push.ensures.items) (climbs c).next)

pub returns-clause-places : goal.returns-clause-places
returns-clause-places c = λ hash e _.
    c.reverse.ensures.items
    ∙ climbing_ends c.args.tree.now.block_indexes c.args.from c.args.fork c.loop-branch.place c.loop-branch.branch.items _ hash (c.loop-branch.invariant.1 c.block_index.ensures.tree) c.block_index.ensures.block_index c.loop-branch-test.false e
