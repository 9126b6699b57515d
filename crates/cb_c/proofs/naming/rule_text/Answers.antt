use Rattle.std.proofs.Common.{ap, sym}
use Rattle.std.specs.Fmt.{digits}
use Rattle.cb_base.specs.Fault.{fault_text}
use Rattle.cb_base.specs.declared.fault.Fault.TheVariants.{BadTx}
use Rattle.cb_c.proofs.naming.rule_text.Goals as goal

pub returns-in-NoInputs : goal.returns-in-NoInputs
unfolding digits
returns-in-NoInputs c = ap (λ rule. fault_text (BadTx rule)) (sym c.in-NoInputs.is)

pub returns-in-NoOutputs : goal.returns-in-NoOutputs
unfolding digits
returns-in-NoOutputs c = ap (λ rule. fault_text (BadTx rule)) (sym c.in-NoOutputs.is)

pub returns-in-TooLong : goal.returns-in-TooLong
unfolding digits
returns-in-TooLong c = ap (λ rule. fault_text (BadTx rule)) (sym c.in-TooLong.is)

pub returns-in-BadValue : goal.returns-in-BadValue
unfolding digits
returns-in-BadValue c = ap (λ rule. fault_text (BadTx rule)) (sym c.in-BadValue.is)

pub returns-in-BadSum : goal.returns-in-BadSum
unfolding digits
returns-in-BadSum c = ap (λ rule. fault_text (BadTx rule)) (sym c.in-BadSum.is)

pub returns-in-RepeatedInput : goal.returns-in-RepeatedInput
unfolding digits
returns-in-RepeatedInput c = ap (λ rule. fault_text (BadTx rule)) (sym c.in-RepeatedInput.is)

pub returns-in-BadCoinbaseScript : goal.returns-in-BadCoinbaseScript
unfolding digits
returns-in-BadCoinbaseScript c = ap (λ rule. fault_text (BadTx rule)) (sym c.in-BadCoinbaseScript.is)

pub returns-in-NullInput : goal.returns-in-NullInput
unfolding digits
returns-in-NullInput c = ap (λ rule. fault_text (BadTx rule)) (sym c.in-NullInput.is)
