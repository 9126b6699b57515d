use Rattle.std.proofs.lemmas.Result.{on_ok_weaker}
use Rattle.cb_net_node.proofs.ends.Ends.close.Goals as goal

pub returns-clause-ok : goal.returns-clause-ok
returns-clause-ok c = on_ok_weaker c.close-second.result (λ second. (c.in_ok-first.ensures.ok, second)) c.close-second.ensures.ok
