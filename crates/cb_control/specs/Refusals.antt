-- Why an order is refused: its words, and the exit status that tells of it.
use Rattle.std.specs.Prelude.{ℕ, List, codes}
use Rattle.cb_base.specs.Fault.{fault_text}
use Rattle.cb_control.specs.declared.ending.Status.{Status}
use Rattle.cb_control.specs.declared.ending.Status.TheVariants as statuses
use Rattle.cb_control.specs.declared.refusal.Refusal.{Refusal}
use Rattle.cb_control.specs.declared.refusal.Refusal.TheVariants.{Unreadable, Fault, NoSlot, Io, NotSettled, UnknownBlock, Already, Own, NotDialled, Off, Memory}

abbrev pub refusal_words : Refusal → List ℕ
refusal_words Unreadable = codes "unreadable"
refusal_words (Fault fault) = fault_text fault
refusal_words NoSlot = codes "no slot"
refusal_words Io = codes "io"
refusal_words NotSettled = codes "not settled"
refusal_words UnknownBlock = codes "unknown block"
refusal_words Already = codes "already"
refusal_words Own = codes "own address"
refusal_words NotDialled = codes "not dialled"
refusal_words Off = codes "network off"
refusal_words Memory = codes "memory"

-- what the node refuses is a refused act; anything else but memory is a fault of the input
abbrev pub refusal_status : Refusal → Status
refusal_status (Fault fault) = statuses.Refused
refusal_status Memory = statuses.NoMemory
refusal_status other = statuses.RunFailed
