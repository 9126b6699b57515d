use Rattle.std.proofs.Common.{take}
use Rattle.cb_base.specs.Seeding.{AreKeys}
use Rattle.cb_compact.specs.Seeding.{seed_text}
use Rattle.cb_compact.proofs.id_seed.IdSeed.of.Given as goal

abbrev pub invariant-loop-id : goal.invariant-loop-id
invariant-loop-id l = AreKeys l.keys (seed_text (take l.id-index l.ids))
