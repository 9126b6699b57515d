-- What a badge alone shows of the questions that its connection was granted. An oracle that others
-- ask too can say no more of what it told one connection.
use Rattle.std.specs.Prelude.{◌≡◌, ◌+◌, true, List, length}
use Rattle.cb_hall.specs.Badge.{BadgeState}
use Rattle.cb_hall.specs.Histories.{Reply}

-- The badge counted these replies, stayed that of its connection, and stayed marked if it was.
pub record HasCounted (had has : BadgeState) (replies : List Reply) : Type 0 where
  pub connection : has.connection ≡ had.connection
  pub count : has.count ≡ had.count + length replies
  pub marked : had.full ≡ true → has.full ≡ true
