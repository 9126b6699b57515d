use Rattle.std.proofs.Common.{◌≡◌, drop}
use Rattle.cb_chain.specs.Best.{active}
use Rattle.cb_chain.specs.Following.{start_of}
use Rattle.cb_chain.proofs.chain.Chain.start.Given as goal

abbrev pub invariant-loop-hash : goal.invariant-loop-hash
invariant-loop-hash l = start_of (active l.self) (drop l.hash-index l.locator) ≡ start_of (active l.self) l.locator
