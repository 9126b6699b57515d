use Rattle.std.proofs.lemmas.Result.{err_from_is_err_and}
use Rattle.cb_net_node.proofs.Handing.{begun_open}
use Rattle.cb_net_node.proofs.ends.Ends.new.Goals as goal

pub returns-clause-begun : goal.returns-clause-begun
returns-clause-begun c =
    begun_open c.args.first c.args.second _ _ _ _ _ c.in_ok-first.ensures.begins c.in_ok-first.ensures.opens c.in_ok-second.ensures.begins c.in_ok-second.ensures.opens c.in_ok-open.ensures.ok

pub returns-in_err-second-clause-memory : goal.returns-in_err-second-clause-memory
returns-in_err-second-clause-memory c =
    let p = err_from_is_err_and c.from_residual-in_err-second.result c.from_residual-in_err-second.ensures.1 in rw (p.1, p.2) c.in_err-second.ensures.memory

pub returns-in_err-open-clause-memory : goal.returns-in_err-open-clause-memory
returns-in_err-open-clause-memory c =
    let p = err_from_is_err_and c.from_residual-in_err-open.result c.from_residual-in_err-open.ensures.1 in rw (p.1, p.2) c.in_err-open.ensures.memory
