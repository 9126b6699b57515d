use Rattle.std.proofs.Common.{◌≡◌, ℕ}
use Rattle.std.specs.Prelude.{map}
use Rattle.std.specs.List.{range_with_len}
use Rattle.cb_hall.specs.Badge.{first_of, fresh_badge}
use Rattle.cb_hall.proofs.badge.first_badges.Given as goal

-- the badges of the peers so far
abbrev pub invariant-loop-peer : goal.invariant-loop-peer
invariant-loop-peer l = l.badges.items ≡ map (λ (peer : ℕ). fresh_badge (first_of peer)) (range_with_len 0 l.peer)
