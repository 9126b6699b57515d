use Rattle.cb_net_node.proofs.Passing.{either}
use Rattle.cb_net_node.proofs.joined.hear_one.Goals as goal

pub returns-clause-ok : goal.returns-clause-ok
returns-clause-ok c =
    either c.in_ok-_heard._heard
    (λ e. let h = c.in_ok-_heard.ensures.heard e in record { going = h.0; lasts = h.1; hears = h.2 })
    (λ e. record { nothing = c.in_ok-_heard.ensures.nothing e; same = c.in_ok-_heard.ensures.same e })
