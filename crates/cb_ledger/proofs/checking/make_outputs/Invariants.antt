use Rattle.std.proofs.Common.{◌≡◌, ◌⊎◌, drop}
use Rattle.cb_ledger.specs.Spend.{make_outputs}
use Rattle.cb_ledger.specs.Touched.{MakesFirst}
use Rattle.cb_ledger.specs.Undo.{changed}
use Rattle.cb_ledger.proofs.checking.make_outputs.Given as goal

abbrev pub invariant-loop-output : goal.invariant-loop-output
invariant-loop-output l = record {
  place : l.index ≡ l.output-index;
  made : make_outputs (changed l.base l.draft) l.txid l.output-index (drop l.output-index l.outputs) ≡ make_outputs (changed l.base l.fn.draft) l.txid 0 l.outputs;
  quiet : MakesFirst (changed l.base l.fn.draft) l.txid l.outputs ⊎ ((l.draft ≡ l.fn.draft) × (l.output-index ≡ 0));
}
