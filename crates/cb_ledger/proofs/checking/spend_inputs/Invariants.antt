use Rattle.std.proofs.Common.{◌≡◌, ◌⊎◌, ◌*◌, ◌^◌, drop, pos, neg_ℤ, ◌≤ℤ◌}
use Rattle.cb_ledger.specs.Spend.{spend_inputs}
use Rattle.cb_ledger.specs.Touched.{SpendsFirst}
use Rattle.cb_ledger.specs.Undo.{changed}
use Rattle.cb_ledger.proofs.Spending.{with_sum}
use Rattle.cb_ledger.proofs.checking.spend_inputs.Given as goal

-- each value is one of 64 bits
abbrev pub invariant-loop-input : goal.invariant-loop-input
invariant-loop-input l = record {
  spent : with_sum l.sum (spend_inputs (changed l.base l.draft) (drop l.input-index l.inputs)) ≡ spend_inputs (changed l.base l.fn.draft) l.inputs;
  least : neg_ℤ (pos (2 ^ 63 * l.input-index)) ≤ℤ l.sum;
  most : l.sum ≤ℤ pos (2 ^ 63 * l.input-index);
  quiet : SpendsFirst (changed l.base l.fn.draft) l.inputs ⊎ ((l.draft ≡ l.fn.draft) × (l.input-index ≡ 0));
}
