-- The rule that a fault names.
use Rattle.std.specs.Prelude.{ℕ}
use Rattle.cb_base.specs.declared.fault.Fault.{Fault}
use Rattle.cb_base.specs.declared.fault.Fault.TheVariants.{BadTx}
use Rattle.cb_base.specs.Fault.{rule_number}

-- The number of the transaction rule that is broken; 0 where the fault names none.
abbrev pub broken_rule : Fault → ℕ
broken_rule (BadTx rule) = rule_number rule
broken_rule other = 0
