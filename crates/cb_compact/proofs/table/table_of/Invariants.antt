use Rattle.std.proofs.Common.{◌≡◌, take, []}
use Rattle.std.specs.HashMap.{hasher_of}
use Rattle.cb_compact.specs.Seeding.{seed_of}
use Rattle.cb_compact.specs.Slots.{AreDifferent}
use Rattle.cb_compact.specs.Tables.{ArePlaces, all_found}
use Rattle.cb_compact.proofs.table.table_of.Given as goal

abbrev pub invariant-loop-place : goal.invariant-loop-place
invariant-loop-place l =
    ArePlaces (take l.place l.ids) l.places.entries × (l.found.items ≡ all_found (take l.place l.ids) []) × AreDifferent (take l.place l.ids)
    × (hasher_of l.places ≡ seed_of l.ids)
