use Rattle.std.proofs.Common.{◌≡◌, drop, take}
use Rattle.cb_ledger.specs.Spend.{make_outputs}
use Rattle.cb_ledger.specs.Undo.{changed, changes_of}
use Rattle.cb_pool.specs.Leaving.{with_outputs, without_inputs}
use Rattle.cb_pool.proofs.checking.is_remade.Given as goal

abbrev pub invariant-loop-output : goal.invariant-loop-output
invariant-loop-output l =
    let left = without_inputs (changed l.ledger.unspent (changes_of l.coins.entries)) l.inputs in
    record {
      place : l.index ≡ l.output-index;
      made : make_outputs (with_outputs left l.txid 0 (take l.output-index l.outputs)) l.txid l.output-index (drop l.output-index l.outputs) ≡ make_outputs left l.txid 0 l.outputs;
    }
