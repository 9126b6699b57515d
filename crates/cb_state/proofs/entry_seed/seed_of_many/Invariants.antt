use Rattle.std.proofs.Common.{take}
use Rattle.cb_base.specs.Seeding.{AreKeys}
use Rattle.cb_state.specs.Seeding.{hashes_text}
use Rattle.cb_state.proofs.entry_seed.seed_of_many.Given as goal

abbrev pub invariant-loop-entry : goal.invariant-loop-entry
invariant-loop-entry l = AreKeys l.keys (hashes_text (take l.entry-index l.entries))
