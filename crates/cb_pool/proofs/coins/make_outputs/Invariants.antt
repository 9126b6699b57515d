use Rattle.std.proofs.Common.{◌≡◌, ◌≤◌, ◌+◌, take}
use Rattle.std.specs.HashMap.{spare}
use Rattle.cb_ledger.specs.Undo.{changed, changes_of}
use Rattle.cb_ledger.specs.Unspent.{Unspent}
use Rattle.cb_pool.specs.Leaving.{with_outputs}
use Rattle.cb_pool.proofs.coins.make_outputs.Given as goal

abbrev pub invariant-loop-output : goal.invariant-loop-output
invariant-loop-output l = record {
  place : l.index ≡ l.output-index;
  made : (u : Unspent) → changed u (changes_of l.coins.entries) ≡ with_outputs (changed u (changes_of l.fn.coins.entries)) l.txid 0 (take l.output-index l.outputs);
  room : spare l.fn.coins ≤ spare l.coins + l.output-index;
}
