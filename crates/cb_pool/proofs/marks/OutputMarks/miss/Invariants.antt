use Rattle.std.proofs.Common.{◌≡◌, Ok, take}
use Rattle.cb_ledger.specs.Spend.{make_outputs}
use Rattle.cb_ledger.specs.Unspent.{Unspent}
use Rattle.cb_pool.specs.Leaving.{with_outputs}
use Rattle.cb_pool.specs.Staying.{Tells}
use Rattle.cb_pool.proofs.Marking.{HaveMarks}
use Rattle.cb_pool.proofs.marks.OutputMarks.miss.Given as goal

abbrev pub invariant-loop-output : goal.invariant-loop-output
invariant-loop-output l = record {
  place : l.index ≡ l.output-index;
  tells : (was now next : Unspent) → make_outputs was l.txid 0 l.outputs ≡ Ok next → Tells l.fn.self was now → Tells l.self (with_outputs was l.txid 0 (take l.output-index l.outputs)) now;
  marked : HaveMarks l.txid l.output-index l.fn.self l.self;
}
