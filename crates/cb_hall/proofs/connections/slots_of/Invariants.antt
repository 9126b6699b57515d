use Rattle.std.proofs.Common.{◌≡◌, ◌∷◌, [], replicate}
use Rattle.cb_hall.specs.Connections.{fresh}
use Rattle.cb_hall.proofs.connections.slots_of.Given as goal

abbrev pub invariant-loop : goal.invariant-loop
invariant-loop l = l.slots.items ≡ replicate l.counter (fresh ∷ [])
