use Rattle.std.proofs.Common.{◌≡◌, ◌⊎◌, drop}
use Rattle.cb_ledger.specs.Spend.{spend}
use Rattle.cb_ledger.specs.Touched.{Touches}
use Rattle.cb_ledger.specs.Undo.{changed}
use Rattle.cb_ledger.proofs.checking.spend_txs.Given as goal

abbrev pub invariant-loop-place : goal.invariant-loop-place
invariant-loop-place l = record {
  spent : spend (changed l.base l.draft) (drop l.place l.txs) ≡ spend (changed l.base l.fn.draft) l.txs;
  behind : Touches (changed l.base l.draft) (drop l.place l.txs) → Touches (changed l.base l.fn.draft) l.txs;
  quiet : Touches (changed l.base l.fn.draft) l.txs ⊎ (l.draft ≡ l.fn.draft);
}
