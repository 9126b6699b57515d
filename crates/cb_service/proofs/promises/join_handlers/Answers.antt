use Rattle.std.proofs.Common.{length, ap, ◌∙◌, arith}
use Rattle.std.proofs.lemmas.List.{length_push, nil_from_length}
use Rattle.cb_service.specs.Service.{crew_of, handler_of}
use Rattle.cb_service.proofs.Threads.{joining_more, joining_all}
use Rattle.cb_service.proofs.promises.join_handlers.Goals as goal

pub loop-thread-preserved : goal.loop-thread-preserved
loop-thread-preserved g c = (
  omega (arith, c.push_reserved.ensures.capacity, ap length c.push_reserved.ensures.items ∙ length_push c.loop-thread.handlers.items c.join_handler.result, ap length c.in-Some.ensures.steps.0, c.loop-thread.invariant.0),
  joining_more _ _ _ _ _ _ c.in-Some.thread c.join_handler.result c.loop-thread.invariant.1 c.in-Some.ensures.steps.0 c.push_reserved.ensures.items (c.join_handler.ensures.crew, c.join_handler.ensures.room),
)

pub returns : goal.returns
returns g c crew before back are =
    joining_all _ handler_of crew_of (λ thread handler kept. kept) crew before _ _ _ back.handlers_are back.crew_is are c.loop-thread.invariant.1
    (nil_from_length c.loop-thread.thread-iterator.rest.items (omega (arith, c.in-None.ensures.steps.0, c.loop-thread.thread-iterator.rest.ok.0)))
