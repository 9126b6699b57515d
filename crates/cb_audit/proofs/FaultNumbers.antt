-- A fault is known by its number and the rule that it names.
use Rattle.std.proofs.Common.{◌≡◌, ◌∙◌, ℕ, refl, sym, ap}
use Rattle.std.specs.Prelude.{◌==◌, if◌then◌else◌}
use Rattle.cb_base.specs.declared.fault.Fault.{Fault}
use Rattle.cb_base.specs.declared.fault.Fault.TheVariants as faults
use Rattle.cb_base.specs.declared.fault.TxRule.{TxRule}
use Rattle.cb_base.specs.declared.fault.TxRule.TheVariants as rules
use Rattle.cb_base.specs.Fault.{fault_number}
use Rattle.cb_audit.specs.Faults.{broken_rule}

rule_of : ℕ → TxRule
rule_of n =
    if n == 1 then rules.NoInputs else
    if n == 2 then rules.NoOutputs else
    if n == 3 then rules.TooLong else
    if n == 4 then rules.BadValue else
    if n == 5 then rules.BadSum else
    if n == 6 then rules.RepeatedInput else
    if n == 7 then rules.BadCoinbaseScript else
    rules.NullInput

fault_of : ℕ → ℕ → Fault
fault_of n rule =
    if n == 1 then faults.Memory else
    if n == 2 then faults.Truncated else
    if n == 3 then faults.NotShortest else
    if n == 4 then faults.TooMany else
    if n == 5 then (faults.BadTx (rule_of rule)) else
    if n == 6 then faults.BadRoot else
    if n == 7 then faults.Mutated else
    if n == 8 then faults.Size64 else
    if n == 9 then faults.Empty else
    if n == 10 then faults.BadCoinbase else
    if n == 11 then faults.BadWork else
    if n == 12 then faults.BadMagic else
    if n == 13 then faults.Oversize else
    if n == 14 then faults.Trailing else
    if n == 15 then faults.BadBool else
    if n == 16 then faults.BadIndex else
    if n == 17 then faults.WrongCount else
    if n == 18 then faults.Known else
    if n == 19 then faults.NoInput else
    if n == 20 then faults.PoolFull else
    if n == 21 then faults.Overspent else
    if n == 22 then faults.Remade else
    if n == 23 then faults.NoParent else
    if n == 24 then faults.BadParent else
    if n == 25 then faults.JournalFull else
    if n == 26 then faults.NotEnabled else
    if n == 27 then faults.Full else
    faults.NoMore

back : (f : Fault) → fault_of (fault_number f) (broken_rule f) ≡ f
unfolding fault_of rule_of
back faults.Memory = refl
back faults.Truncated = refl
back faults.NotShortest = refl
back faults.TooMany = refl
back (faults.BadTx rules.NoInputs) = refl
back (faults.BadTx rules.NoOutputs) = refl
back (faults.BadTx rules.TooLong) = refl
back (faults.BadTx rules.BadValue) = refl
back (faults.BadTx rules.BadSum) = refl
back (faults.BadTx rules.RepeatedInput) = refl
back (faults.BadTx rules.BadCoinbaseScript) = refl
back (faults.BadTx rules.NullInput) = refl
back faults.BadRoot = refl
back faults.Mutated = refl
back faults.Size64 = refl
back faults.Empty = refl
back faults.BadCoinbase = refl
back faults.BadWork = refl
back faults.BadMagic = refl
back faults.Oversize = refl
back faults.Trailing = refl
back faults.BadBool = refl
back faults.BadIndex = refl
back faults.WrongCount = refl
back faults.Known = refl
back faults.NoInput = refl
back faults.PoolFull = refl
back faults.Overspent = refl
back faults.Remade = refl
back faults.NoParent = refl
back faults.BadParent = refl
back faults.JournalFull = refl
back faults.NotEnabled = refl
back faults.Full = refl
back faults.NoMore = refl

pub exact_fault : (a b : Fault) → fault_number a ≡ fault_number b → broken_rule a ≡ broken_rule b → a ≡ b
exact_fault a b number rule =
    sym (back a) ∙ ap (λ (n : ℕ). fault_of n (broken_rule a)) number ∙ ap (λ (r : ℕ). fault_of (fault_number b) r) rule ∙ back b
