use Rattle.std.proofs.Common.{inl, sym, ◌∙◌}
use Rattle.cb_command.proofs.serve.converse.Goals as goal

pub returns-in-Ok : goal.returns-in-Ok
returns-in-Ok g c =
    inl record {
      trace = c.in-Ok.served.trace;
      hall = c.serve.new.hall;
      badge = c.serve.new.badge;
      written = c.in-Ok.served.written;
      end = c.in-Ok.served.read;
      serves = rw (← c.requires.hall, ← c.requires.badge) c.in-Ok.ensures.served;
      closed = sym c.state.ensures ∙ c.reason_of.ensures;
    }
