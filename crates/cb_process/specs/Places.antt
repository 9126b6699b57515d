-- Whose place a new peer takes where all are taken.
use Rattle.std.specs.Prelude.{◌≡◌, ℕ, ◌+◌, ◌<◌, ◌≤◌, true, List, length, Option, Some, None}
use Rattle.std.specs.List.{All, slice_index_or}
use Rattle.cb_process.specs.declared.places.Choice.{Choice}
use Rattle.cb_process.specs.declared.places.Guest.{Guest}

-- it connected to the node, gave no block, and was quiet for a minute
pub record MayLeave (now : ℕ) (guest : Guest) : Type 0 where
  pub connected : guest.inbound ≡ true
  pub useless : guest.blocks ≡ 0
  pub quiet : guest.quiet_since + 60000 ≤ now

-- this one may leave, and none of these that may was quiet longer
pub record IsLongestQuietOf (guests : List Guest) (now place : ℕ) (guest : Guest)
    : Type 0 where
  pub within : place < length guests
  pub is : slice_index_or guests place guest ≡ guest
  pub may : MayLeave now guest
  pub longest : All (λ other. MayLeave now other → guest.quiet_since ≤ other.quiet_since) guests

-- the place of such a one, or nothing if none may leave
abbrev pub IsLongestQuiet : List Guest → ℕ → Option ℕ → Type 0
IsLongestQuiet guests now None = All (λ guest. MayLeave now guest → ⊥) guests
IsLongestQuiet guests now (Some place) = (guest : Guest) × IsLongestQuietOf guests now place guest

-- the same with since when it is quiet
abbrev pub IsChoice : List Guest → ℕ → Option Choice → Type 0
IsChoice guests now None = All (λ guest. MayLeave now guest → ⊥) guests
IsChoice guests now (Some choice) =
    (guest : Guest) × (guest.quiet_since ≡ choice.since)
    × IsLongestQuietOf guests now choice.place guest
