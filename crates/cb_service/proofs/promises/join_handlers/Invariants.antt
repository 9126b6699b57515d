use Rattle.std.proofs.Common.{◌≡◌, ◌≤◌, ◌+◌, length, vec_capacity}
use Rattle.cb_crew.specs.Crew.{IsHandlerOf}
use Rattle.cb_service.specs.Service.{crew_of, handler_of}
use Rattle.cb_service.proofs.Threads.{IsJoining}
use Rattle.cb_service.proofs.promises.join_handlers.Given as goal

abbrev pub invariant-loop-thread : goal.invariant-loop-thread
invariant-loop-thread g l =
    (length l.handlers.items + length l.thread-iterator.rest.items ≤ vec_capacity l.handlers)
    × IsJoining (λ thread handler. IsHandlerOf (crew_of thread) handler × (handler.room ≡ (handler_of thread).room)) l.fn.threads.items l.thread-iterator.rest.items l.handlers.items
