-- The names of statuses.
use Rattle.std.specs.Prelude.{ℕ, List, [], ◌∷◌, codes, find, ◌==◌, if◌then◌else◌, Option, Some, None}
use Rattle.cb_base.specs.Fault.{fault_text}
use Rattle.cb_base.specs.declared.fault.Fault.{Fault}
use Rattle.cb_base.specs.declared.fault.Fault.TheVariants.{Memory, Truncated, NotShortest, TooMany, BadTx, BadRoot, Mutated, Size64, Empty, BadCoinbase, BadWork, BadMagic, Oversize, Trailing, BadBool, BadIndex, WrongCount, Known, NoInput, PoolFull, Overspent, Remade, NoParent, BadParent, JournalFull, NotEnabled, Full, NoMore}
use Rattle.cb_base.specs.declared.fault.TxRule.TheVariants.{NoInputs, NoOutputs, TooLong, BadValue, BadSum, RepeatedInput, BadCoinbaseScript, NullInput}
use Rattle.cb_c.specs.Status.{status_of}

-- all faults
abbrev pub faults : List Fault
faults =
    Memory ∷ Truncated ∷ NotShortest ∷ TooMany ∷ BadRoot ∷ Mutated ∷ Size64 ∷ Empty ∷ BadCoinbase
    ∷ BadWork ∷ BadMagic ∷ Oversize ∷ Trailing ∷ BadBool ∷ BadIndex ∷ WrongCount ∷ Known ∷ NoInput
    ∷ PoolFull ∷ Overspent ∷ Remade ∷ NoParent ∷ BadParent ∷ JournalFull ∷ NotEnabled ∷ Full
    ∷ NoMore ∷ BadTx NoInputs ∷ BadTx NoOutputs ∷ BadTx TooLong ∷ BadTx BadValue ∷ BadTx BadSum
    ∷ BadTx RepeatedInput ∷ BadTx BadCoinbaseScript ∷ BadTx NullInput ∷ []

-- the fault of a status, if it is one's
abbrev pub fault_in : ℕ → Option Fault
fault_in status = find (λ fault. status_of fault == status) faults

-- the name of a status that isn't a fault's
abbrev pub other_name : ℕ → List ℕ
other_name status =
    if status == 0 then codes "OK"
    else if status == 65536 then codes "TooSmall"
    else if status == 65537 then codes "Partial"
    else if status == 65538 then codes "Damaged"
    else codes "Unknown"

-- the printed form of the fault, or the other name
abbrev pub name_under : Option Fault → ℕ → List ℕ
name_under (Some fault) status = fault_text fault
name_under None status = other_name status

abbrev pub status_name : ℕ → List ℕ
status_name status = name_under (fault_in status) status
