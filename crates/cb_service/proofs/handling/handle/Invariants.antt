use Rattle.std.proofs.Common.{◌≡◌}
use Rattle.cb_crew.specs.Crew.{IsHandlerOf}
use Rattle.cb_service.proofs.handling.handle.Given as goal

abbrev pub invariant-loop : goal.invariant-loop
invariant-loop g l = IsHandlerOf l.crew l.handler × (l.handler.room ≡ l.fn.handler.room)
