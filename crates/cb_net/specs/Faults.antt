-- How a network fails.
use Rattle.cb_base.specs.declared.fault.Fault.{Fault}
use Rattle.cb_base.specs.declared.fault.Fault.TheVariants.{BadWork, JournalFull, Memory, Mutated, NoMore}

-- Memory is wanted, or a node has no more connections; or a hall doesn't take a call or mine.
pub data IsNetFault : Fault → Type 0 where
  wants_memory : IsNetFault Memory
  no_more : IsNetFault NoMore
  journal_full : IsNetFault JournalFull
  bad_work : IsNetFault BadWork
  mutated : IsNetFault Mutated
