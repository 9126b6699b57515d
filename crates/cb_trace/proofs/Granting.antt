-- What a badge has counted, one list of replies behind another.
use Rattle.std.proofs.Common.{◌∙◌, List, [], ◌++◌, refl, arith}
use Rattle.std.proofs.lemmas.List.{length-append}
use Rattle.cb_hall.specs.Badge.{BadgeState}
use Rattle.cb_hall.specs.Histories.{Asks, Reply}
use Rattle.cb_hall.specs.Journal.{JournalState}
use Rattle.cb_trace.specs.Granting.{HasCounted}

-- no question
pub counted_none : (badge : BadgeState) → HasCounted badge badge []
counted_none badge = record { connection = refl; count = omega arith; marked = λ h. h }

-- some questions, and then others
pub counted_then : (x y z : BadgeState) (first next : List Reply) → HasCounted x y first → HasCounted y z next → HasCounted x z (first ++ next)
counted_then x y z first next a b =
    let one = a.count in
    let two = b.count in
    record { connection = b.connection ∙ a.connection; count = omega (arith, one, two, length-append first next); marked = λ h. b.marked (a.marked h) }

-- of a hall
pub counted_asks : (old new : JournalState) (had has : BadgeState) (replies : List Reply) → Asks old new had has replies → HasCounted had has replies
counted_asks old new had has replies a = record { connection = a.connection; count = a.count; marked = a.marked }
