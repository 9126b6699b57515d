use Rattle.std.proofs.Common.{refl}
use Rattle.std.proofs.lemmas.Result.{on_err_weaker, on_ok_weaker}
use Rattle.cb_net_node.proofs.ends.Ends.hear.Goals as goal

pub returns-in-First-clause-ok : goal.returns-in-First-clause-ok
returns-in-First-clause-ok g c =
    rw c.in-First.is (on_ok_weaker c.hear.result (λ hears. record { hears = hears; neighbour = refl }) c.hear.ensures.ok)

pub returns-in-First-clause-err : goal.returns-in-First-clause-err
returns-in-First-clause-err g c =
    rw c.in-First.is (on_err_weaker c.hear.result (λ misses. record { misses = misses; neighbour = refl }) c.hear.ensures.err)

pub returns-in-Second-clause-ok : goal.returns-in-Second-clause-ok
returns-in-Second-clause-ok g c =
    rw c.in-Second.is (on_ok_weaker c.hear-in-Second.result (λ hears. record { hears = hears; neighbour = refl }) c.hear-in-Second.ensures.ok)

pub returns-in-Second-clause-err : goal.returns-in-Second-clause-err
returns-in-Second-clause-err g c =
    rw c.in-Second.is (on_err_weaker c.hear-in-Second.result (λ misses. record { misses = misses; neighbour = refl }) c.hear-in-Second.ensures.err)
