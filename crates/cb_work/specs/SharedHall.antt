-- A hall behind a lock: what a badge tells of a question that was refused under it.
use Rattle.std.specs.Prelude.{◌≡◌, true}
use Rattle.cb_base.specs.declared.fault.Fault.{Fault}
use Rattle.cb_base.specs.declared.fault.Fault.TheVariants.{JournalFull}
use Rattle.cb_hall.specs.Badge.{BadgeState}

-- With `JournalFull` the badge is marked full. Of any other fault nothing is stated here.
abbrev pub IsMarked : BadgeState → Fault → Type 0
IsMarked badge JournalFull = badge.full ≡ true
IsMarked badge other = Unit {0}
