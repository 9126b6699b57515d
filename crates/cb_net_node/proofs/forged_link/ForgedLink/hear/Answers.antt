use Rattle.cb_net_node.proofs.Passing.{either}
use Rattle.cb_net_node.proofs.forged_link.ForgedLink.hear.Goals as goal

pub returns-clause-ok : goal.returns-clause-ok
returns-clause-ok c =
    either c.in_ok-_given._given
    (λ e. let h = c.in_ok-_given.ensures.heard e in record { going = h.0; lasts = h.1; hears = h.2 })
    (λ e. record { nothing = c.in_ok-_given.ensures.nothing e; same = c.in_ok-_given.ensures.same e })
