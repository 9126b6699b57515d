use Rattle.std.proofs.Common.{◌≡◌, ◌≤◌, ◌+◌, take}
use Rattle.std.specs.HashMap.{spare}
use Rattle.cb_ledger.specs.Undo.{changed, changes_of}
use Rattle.cb_ledger.specs.Unspent.{Unspent}
use Rattle.cb_pool.specs.Leaving.{without_inputs}
use Rattle.cb_pool.proofs.coins.spend_outputs.Given as goal

abbrev pub invariant-loop-input : goal.invariant-loop-input
invariant-loop-input l = record {
  gone : (u : Unspent) → changed u (changes_of l.coins.entries) ≡ without_inputs (changed u (changes_of l.fn.coins.entries)) (take l.input-index l.inputs);
  room : spare l.fn.coins ≤ spare l.coins + l.input-index;
}
