use Rattle.std.proofs.Common.{◌≡◌, ◌*◌, ◌^◌, drop, take, pos, neg_ℤ, ◌≤ℤ◌}
use Rattle.cb_ledger.specs.Spend.{spend_inputs}
use Rattle.cb_ledger.specs.Undo.{changed, changes_of}
use Rattle.cb_ledger.proofs.Spending.{with_sum}
use Rattle.cb_pool.specs.Leaving.{without_inputs}
use Rattle.cb_pool.proofs.checking.worth.Given as goal

-- each value is one of 64 bits
abbrev pub invariant-loop-input : goal.invariant-loop-input
invariant-loop-input l = record {
  spent : with_sum l.sum (spend_inputs (without_inputs (changed l.ledger.unspent (changes_of l.coins.entries)) (take l.input-index l.inputs)) (drop l.input-index l.inputs))
      ≡ spend_inputs (changed l.ledger.unspent (changes_of l.coins.entries)) l.inputs;
  least : neg_ℤ (pos (2 ^ 63 * l.input-index)) ≤ℤ l.sum;
  most : l.sum ≤ℤ pos (2 ^ 63 * l.input-index);
}
