-- The faults: the number, the name and the printed form of each.
use Rattle.std.specs.Prelude.{ℕ, List, [], ◌++◌, codes}
use Rattle.std.specs.Fmt.{decimal}
use Rattle.cb_base.specs.declared.fault.Fault.{Fault}
use Rattle.cb_base.specs.declared.fault.Fault.TheVariants.{Memory, Truncated, NotShortest, TooMany, BadTx, BadRoot, Mutated, Size64, Empty, BadCoinbase, BadWork, BadMagic, Oversize, Trailing, BadBool, BadIndex, WrongCount, Known, NoInput, PoolFull, Overspent, Remade, NoParent, BadParent, JournalFull, NotEnabled, Full, NoMore}
use Rattle.cb_base.specs.declared.fault.TxRule.{TxRule}
use Rattle.cb_base.specs.declared.fault.TxRule.TheVariants.{NoInputs, NoOutputs, TooLong, BadValue, BadSum, RepeatedInput, BadCoinbaseScript, NullInput}

-- the rules of a transaction, in the order in which they are checked
abbrev pub rule_number : TxRule → ℕ
rule_number NoInputs = 1
rule_number NoOutputs = 2
rule_number TooLong = 3
rule_number BadValue = 4
rule_number BadSum = 5
rule_number RepeatedInput = 6
rule_number BadCoinbaseScript = 7
rule_number NullInput = 8

abbrev pub fault_number : Fault → ℕ
fault_number Memory = 1
fault_number Truncated = 2
fault_number NotShortest = 3
fault_number TooMany = 4
fault_number (BadTx rule) = 5
fault_number BadRoot = 6
fault_number Mutated = 7
fault_number Size64 = 8
fault_number Empty = 9
fault_number BadCoinbase = 10
fault_number BadWork = 11
fault_number BadMagic = 12
fault_number Oversize = 13
fault_number Trailing = 14
fault_number BadBool = 15
fault_number BadIndex = 16
fault_number WrongCount = 17
fault_number Known = 18
fault_number NoInput = 19
fault_number PoolFull = 20
fault_number Overspent = 21
fault_number Remade = 22
fault_number NoParent = 23
fault_number BadParent = 24
fault_number JournalFull = 25
fault_number NotEnabled = 26
fault_number Full = 27
fault_number NoMore = 28

abbrev pub fault_name : Fault → List ℕ
fault_name Memory = codes "Memory"
fault_name Truncated = codes "Truncated"
fault_name NotShortest = codes "NotShortest"
fault_name TooMany = codes "TooMany"
fault_name (BadTx rule) = codes "BadTx"
fault_name BadRoot = codes "BadRoot"
fault_name Mutated = codes "Mutated"
fault_name Size64 = codes "Size64"
fault_name Empty = codes "Empty"
fault_name BadCoinbase = codes "BadCoinbase"
fault_name BadWork = codes "BadWork"
fault_name BadMagic = codes "BadMagic"
fault_name Oversize = codes "Oversize"
fault_name Trailing = codes "Trailing"
fault_name BadBool = codes "BadBool"
fault_name BadIndex = codes "BadIndex"
fault_name WrongCount = codes "WrongCount"
fault_name Known = codes "Known"
fault_name NoInput = codes "NoInput"
fault_name PoolFull = codes "PoolFull"
fault_name Overspent = codes "Overspent"
fault_name Remade = codes "Remade"
fault_name NoParent = codes "NoParent"
fault_name BadParent = codes "BadParent"
fault_name JournalFull = codes "JournalFull"
fault_name NotEnabled = codes "NotEnabled"
fault_name Full = codes "Full"
fault_name NoMore = codes "NoMore"

-- what is printed after the name: for BadTx a space and the number of the rule
abbrev pub fault_detail : Fault → List ℕ
fault_detail (BadTx rule) = codes " " ++ decimal (rule_number rule)
fault_detail other = []

-- the printed form: `F10 BadCoinbase`, `F5 BadTx 3`
abbrev pub fault_text : Fault → List ℕ
fault_text fault =
    codes "F" ++ decimal (fault_number fault) ++ codes " " ++ fault_name fault ++ fault_detail fault
