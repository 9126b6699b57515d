use Rattle.std.proofs.Common.{[]}
use Rattle.cb_chain.specs.Best.{active}
use Rattle.cb_chain.proofs.Heights.{start_here, start_later, start_never}
use Rattle.cb_chain.proofs.chain.Chain.start.Goals as goal

pub returns-in-Some-clause-height : goal.returns-in-Some-clause-height
returns-in-Some-clause-height c =
    start_here (active c.args.self.now) c.args.locator.now c.loop-hash.hash-index c.in-Some.height (record { 0 = [] }) c.loop-hash-test.true c.loop-hash.invariant c.in-Some.ensures.height

pub loop-hash-preserved : goal.loop-hash-preserved
loop-hash-preserved c =
    start_later (active c.args.self.now) c.args.locator.now c.loop-hash.hash-index (record { 0 = [] }) c.loop-hash-test.true c.loop-hash.invariant c.in_default.ensures.height

pub returns-clause-height : goal.returns-clause-height
returns-clause-height c = start_never (active c.args.self.now) c.args.locator.now c.loop-hash.hash-index c.loop-hash-test.false c.loop-hash.invariant
