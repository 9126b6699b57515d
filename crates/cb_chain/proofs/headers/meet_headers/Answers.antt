use Rattle.std.proofs.Common.{rules}
use Rattle.cb_chain.specs.Keeping.{tree_of}
use Rattle.cb_chain.proofs.Headings.{four_next, through_against, through_all, through_more}
use Rattle.cb_chain.proofs.headers.meet_headers.Goals as goal

pub loop-i-preserved : goal.loop-i-preserved
loop-i-preserved c = (
  through_more (tree_of c.args.tree.now.block_indexes) (tree_of c.loop-i.tree.block_indexes) (tree_of c.meet_header.new.tree.block_indexes) c.args.headers.now c.loop-i.met.items c.push.new.self.items c.loop-i.i _
      c.loop-i.invariant.0 c.loop-i-test.true c.in-Ok.ensures.ok (search rules),
  λ path unspent side_branch is. c.in-Ok.ensures.chains path unspent side_branch (c.loop-i.invariant.1 path unspent side_branch is),
  search rules,
  search rules,
  search rules,
  λ later. four_next c.args.headers.now c.loop-i.i _ c.hash_at-hash.ensures.four later,
)

pub returns-in-Err-clause-takes : goal.returns-in-Err-clause-takes
returns-in-Err-clause-takes c =
    through_against (tree_of c.args.tree.now.block_indexes) (tree_of c.loop-i.tree.block_indexes) (tree_of c.meet_header.new.tree.block_indexes) c.args.headers.now c.loop-i.met.items c.loop-i.i _ c.in-Err.fault
    c.loop-i.invariant.0 c.loop-i-test.true c.in-Err.ensures.against c.in-Err.ensures.err

pub returns-in-Err-clause-chains : goal.returns-in-Err-clause-chains
returns-in-Err-clause-chains c = λ path unspent side_branch is. c.in-Err.ensures.chains path unspent side_branch (c.loop-i.invariant.1 path unspent side_branch is)

pub returns-clause-takes : goal.returns-clause-takes
returns-clause-takes c =
    through_all (tree_of c.args.tree.now.block_indexes) (tree_of c.loop-i.tree.block_indexes) c.args.headers.now c.loop-i.met.items c.loop-i.i c.loop-i.invariant.0 c.loop-i-test.false
