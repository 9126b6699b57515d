use Rattle.std.proofs.Common.{◌≡◌, Ok, take}
use Rattle.cb_ledger.specs.Spend.{spend}
use Rattle.cb_ledger.specs.Unspent.{Unspent}
use Rattle.cb_pool.specs.Staying.{Tells}
use Rattle.cb_pool.proofs.thinning.mark_block.Given as goal

abbrev pub invariant-loop-place : goal.invariant-loop-place
invariant-loop-place l = (was now next : Unspent) → spend now (take l.place l.block.txs) ≡ Ok next → Tells l.fn.marks was now → Tells l.marks was next
