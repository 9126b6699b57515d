use Rattle.std.proofs.lemmas.Result.{IfErr-weaker}
use Rattle.cb_net_node.proofs.MineFaults.{mine_faults}
use Rattle.cb_net_node.proofs.node.mined.Goals as goal

pub returns-clause-kinds : goal.returns-clause-kinds
returns-clause-kinds c = IfErr-weaker c.mine.result _ _ (λ fault e. mine_faults c.args.hall.now.latest.relay c.args.mark fault e) c.mine.ensures.err
