use Rattle.std.proofs.Common.{◌-◌, length}
use Rattle.cb_chain.specs.Best.{active}
use Rattle.cb_chain.proofs.Locators.{Locates}
use Rattle.cb_chain.proofs.chain.Chain.locator.Given as goal

abbrev pub invariant-loop-height : goal.invariant-loop-height
invariant-loop-height l = Locates (active l.self) (length l.self-inside.active.items - 1) l.hashes.items l.height l.step

abbrev pub decreases-loop-height : goal.decreases-loop-height
decreases-loop-height l = l.height
