-- How much the outboxes of a node hold together.
use Rattle.std.specs.Prelude.{◌⊎◌, ℕ, ◌+◌, ◌≤◌}

-- With so many bytes held by all outboxes, and so many of them by one, that one may hold so many
-- more: all hold at most 256,000,000. Once they hold more than half of it, an outbox takes up to
-- 2,000,000.
abbrev pub HasRoom : ℕ → ℕ → ℕ → Type 0
HasRoom all one more =
    (all + more ≤ 128000000) ⊎ ((all + more ≤ 256000000) × (one + more ≤ 2000000))
