-- A badge: one connection's permit to ask the hall (this node's own notion). It holds the
-- connection, how many questions were granted, and whether one was refused as too many.
use Rattle.std.specs.Prelude.{◌≡◌, ℕ, ◌+◌, Bool, true, false, List, map}
use Rattle.std.specs.List.{range_with_len}
use Rattle.cb_state.specs.declared.connection.Connection.{Connection}

pub record BadgeState : Type 0 where
  pub connection : Connection
  pub count : ℕ
  pub full : Bool

-- The badge before any question.
abbrev pub fresh_badge : Connection → BadgeState
fresh_badge connection = record { connection = connection; count = 0; full = false }

-- A peer's first connection.
abbrev pub first_of : ℕ → Connection
first_of peer = record { peer = peer; generation = 1 }

-- One badge for the first connection of each peer below this number, in order.
abbrev pub AreBadges : ℕ → List BadgeState → Type 0
AreBadges peers badges = badges ≡ map (λ peer. fresh_badge (first_of peer)) (range_with_len 0 peers)

-- One more question was granted.
abbrev pub counted : BadgeState → BadgeState
counted badge = record { connection = badge.connection; count = badge.count + 1; full = badge.full }

-- A question was refused as one too many.
abbrev pub marked : BadgeState → BadgeState
marked badge = record { connection = badge.connection; count = badge.count; full = true }
