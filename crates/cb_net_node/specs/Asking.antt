-- What a session is told by the hall of its node.
use Rattle.std.specs.Prelude.{List}
use Rattle.cb_hall.specs.Journal.{JournalState}
use Rattle.cb_hall.specs.Badge.{BadgeState}
use Rattle.cb_hall.specs.Histories.{Asks, Reply}

-- under a badge a hall was asked, and gave these replies
abbrev pub asks : JournalState → BadgeState → List Reply → JournalState → BadgeState → Type 0
asks old had replies new has = Asks old new had has replies
