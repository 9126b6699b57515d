use Rattle.std.proofs.Common.{◌≡◌, ℕ, take}
use Rattle.std.specs.Prelude.{nat_eq}
use Rattle.std.specs.HashSet.{contains, hasher_of}
use Rattle.cb_compact.specs.Seeding.{seed_of}
use Rattle.cb_compact.specs.Slots.{is_among}
use Rattle.cb_compact.proofs.pairs.short_id_set.Given as goal

abbrev pub invariant-loop-id : goal.invariant-loop-id
invariant-loop-id l = ((id : ℕ) → contains nat_eq l.wanted id ≡ is_among id (take l.id-index l.ids)) × (hasher_of l.wanted ≡ seed_of l.ids)
