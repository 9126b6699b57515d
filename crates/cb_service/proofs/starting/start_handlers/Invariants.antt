use Rattle.std.proofs.Common.{◌≡◌, ◌≤◌, ◌++◌, map, All, length, vec_capacity}
use Rattle.cb_crew.specs.Crew.{IsHandlerOf}
use Rattle.cb_service.specs.Service.{handler_of, crew_of}
use Rattle.cb_service.proofs.starting.start_handlers.Given as goal

abbrev pub invariant-loop-handler : goal.invariant-loop-handler
invariant-loop-handler g l =
    ((map handler_of l.threads.items ++ l.handler-iterator.rest.items ≡ l.fn.handlers.items)
    × All (λ thread. crew_of thread ≡ l.crew) l.threads.items
    × All (IsHandlerOf l.crew) l.handler-iterator.rest.items)
    × (length l.fn.handlers.items ≤ vec_capacity l.threads)
