-- The statuses that exports return: 0, or a fault as a number.
use Rattle.std.specs.Prelude.{◌≡◌, ℕ, ◌+◌, ◌*◌, ◌⊎◌}
use Rattle.cb_base.specs.Fault.{fault_number, rule_number}
use Rattle.cb_base.specs.declared.fault.Fault.{Fault}
use Rattle.cb_base.specs.declared.fault.Fault.TheVariants.{BadTx}

-- the number of the fault, and for BadTx 256 times the rule's number more
abbrev pub status_of : Fault → ℕ
status_of (BadTx rule) = 5 + 256 * rule_number rule
status_of other = fault_number other

-- The status is 0 and the one statement holds, or it is that of a fault of which the other holds.
abbrev pub Answers : ℕ → Type 0 → (Fault → Type 0) → Type 0
Answers status fine failed =
    ((status ≡ 0) × fine) ⊎ ((fault : Fault) × (status ≡ status_of fault) × failed fault)
