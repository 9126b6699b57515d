use Rattle.std.proofs.Common.{◌≡◌, arith}
use Rattle.std.proofs.lemmas.List.{nil_from_length}
use Rattle.cb_crew.specs.Crew.{IsHandlerOf}
use Rattle.cb_service.specs.Service.{handler_of, crew_of}
use Rattle.cb_service.proofs.Threads.{started_more, started_all}
use Rattle.cb_service.proofs.starting.start_handlers.Goals as goal

pub loop-handler-preserved : goal.loop-handler-preserved
loop-handler-preserved g c = (
  started_more handler_of (λ thread. crew_of thread ≡ c.args.crew.now) (IsHandlerOf c.args.crew.now) c.loop-handler.threads.items _ c.in-Ok.thread c.in-Some.handler _ _ _
      c.loop-handler.invariant.0 c.in-Some.ensures.steps.0 c.push_reserved.ensures.items c.in-Ok.ensures.1 c.in-Ok.ensures.0,
  omega (arith, c.push_reserved.ensures.capacity, c.loop-handler.invariant.1),
)

pub returns : goal.returns
returns g c = record {
  handlers_are = started_all handler_of c.loop-handler.threads.items _ _ c.loop-handler.invariant.0.0 (nil_from_length c.loop-handler.handler-iterator.rest.items (omega (arith, c.in-None.ensures.steps.0, c.loop-handler.handler-iterator.rest.ok.0)));
  crew_is = c.loop-handler.invariant.0.1;
}
