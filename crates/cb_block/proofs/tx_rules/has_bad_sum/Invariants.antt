use Rattle.std.proofs.Common.{◌≡◌, ◌*◌, ◌^◌, take, pos, neg_ℤ, ◌≤ℤ◌}
use Rattle.cb_block.specs.TxRules.{value_sum}
use Rattle.cb_block.proofs.tx_rules.has_bad_sum.Given as goal

-- each value is one of 64 bits
abbrev pub invariant-loop-output : goal.invariant-loop-output
invariant-loop-output l =
    (l.sum ≡ value_sum (take l.output-index l.outputs)) × (neg_ℤ (pos (2 ^ 63 * l.output-index)) ≤ℤ l.sum) × (l.sum ≤ℤ pos (2 ^ 63 * l.output-index))
