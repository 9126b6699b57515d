use Rattle.std.proofs.Common.{length, ap, sym, ◌∙◌}
use Rattle.std.proofs.lemmas.List.{length-map}
use Rattle.cb_service.specs.Service.{handler_of}
use Rattle.cb_node.proofs.crewing.start_handlers.Goals as goal

pub returns-in-Ok : goal.returns-in-Ok
returns-in-Ok g c = (
  record { handlers = _; have = c.in-Ok.ensures; all = c.requires },
  sym (length-map c.in-Ok.threads.items handler_of) ∙ ap length c.in-Ok.ensures.handlers_are,
)
