-- Whether a call of the hall changed the tip, and a tip as a number.
use Rattle.std.specs.Prelude.{◌≡◌, ◌≢◌, ℕ, max, take, Option, None, Some}
use Rattle.std.specs.Int.{w64, from_le_bytes}
use Rattle.cb_base.specs.declared.hash.Hash256.{Hash256}
use Rattle.cb_hall.specs.Journal.{JournalState}
use Rattle.cb_hall.specs.Hall.{look_of}

-- the tip that a hall's summary tells
abbrev pub tip_of : JournalState → Hash256
tip_of hall = (look_of hall.latest.relay).tip

-- what is told of a tip and of the one behind a call: the later one, if it is another
pub record IsChange (before after : Hash256) (told : Option Hash256) : Type 0 where
  pub same : after ≡ before → told ≡ None
  pub other : after ≢ before → told ≡ Some after

-- what is told of a call that led from one hall to another
abbrev pub IsTipChange : JournalState → JournalState → Option Hash256 → Type 0
IsTipChange old new told = IsChange (tip_of old) (tip_of new) told

-- the first eight bytes of a tip's hash, little-endian, or 1 if all are 0
abbrev pub tip_word : Hash256 → ℕ
tip_word hash = max (from_le_bytes w64 (take 8 hash.0)) 1

-- 0 if there is none
abbrev pub told_word : Option Hash256 → ℕ
told_word None = 0
told_word (Some hash) = tip_word hash
