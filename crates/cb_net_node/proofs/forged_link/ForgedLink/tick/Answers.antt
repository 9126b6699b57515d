use Rattle.std.proofs.Common.{◌∙◌}
use Rattle.cb_net_node.proofs.forged_link.ForgedLink.tick.Goals as goal

pub returns-clause-ok : goal.returns-clause-ok
returns-clause-ok c =
    record {
      given = λ e. c.in_ok-_given.ensures.ticks (c.in_ok-_given.ensures.given ∙ e);
      over = λ e. c.in_ok-_given.ensures.same (c.in_ok-_given.ensures.given ∙ e);
    }
