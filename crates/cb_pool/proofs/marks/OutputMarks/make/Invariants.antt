use Rattle.std.proofs.Common.{◌≡◌, take}
use Rattle.cb_ledger.specs.Unspent.{Unspent}
use Rattle.cb_pool.specs.Leaving.{with_outputs}
use Rattle.cb_pool.specs.Staying.{Tells}
use Rattle.cb_pool.proofs.marks.OutputMarks.make.Given as goal

abbrev pub invariant-loop-output : goal.invariant-loop-output
invariant-loop-output l = record {
  place : l.index ≡ l.output-index;
  tells : (was now : Unspent) → Tells l.fn.self was now → Tells l.self was (with_outputs now l.txid 0 (take l.output-index l.outputs));
}
