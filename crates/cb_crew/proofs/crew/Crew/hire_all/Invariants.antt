use Rattle.std.proofs.Common.{◌≡◌, ◌≤◌, ◌+◌, [], length, vec_capacity}
use Rattle.cb_crew.proofs.NewCrews.{IsHiring}
use Rattle.cb_crew.proofs.crew.Crew.hire_all.Given as goal

abbrev pub invariant-loop : goal.invariant-loop
invariant-loop g l =
    IsHiring l.self l.hand (vec_capacity l.desks) l.handlers.items × (length l.handlers.items + 1 ≡ l.counter) × (l.desks.items ≡ []) × (l.self.handlers ≤ vec_capacity l.handlers)
