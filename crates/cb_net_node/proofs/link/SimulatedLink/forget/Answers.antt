use Rattle.cb_net_node.proofs.Cutting.{cut_alone, cut_itself, forgot_first, forgot_second}
use Rattle.cb_net_node.proofs.Passing.{on_err_of}
use Rattle.cb_net_node.proofs.link.SimulatedLink.forget.Goals as goal

pub returns-in_err-cut-clause-err : goal.returns-in_err-cut-clause-err
returns-in_err-cut-clause-err c = on_err_of c.from_residual.result (cut_itself c.args.self.now c.cut.new.self c.in_err-cut.ensures.cut)

pub returns-in_err-retire-clause-err : goal.returns-in_err-retire-clause-err
returns-in_err-retire-clause-err c =
    on_err_of c.from_residual-in_err-retire.result
    (cut_alone c.args.self.now c.cut.new.self c.retire.new.self c.in_ok-cut.ensures.cut c.in_err-retire.ensures.err c.in_err-retire.ensures.stays)

pub returns-in-First-clause-ok : goal.returns-in-First-clause-ok
returns-in-First-clause-ok c =
    rw c.in-First.is (forgot_first c.args.self.now c.cut.new.self c.retire.new.self c.len-gone.result c.in_ok-cut.ensures.cut c.in_ok-retire.ensures.ok c.in_ok-retire.ensures.past c.len-gone.ensures)

pub returns-in-Second-clause-ok : goal.returns-in-Second-clause-ok
returns-in-Second-clause-ok c =
    rw c.in-Second.is (forgot_second c.args.self.now c.cut.new.self c.retire.new.self c.len-gone.result c.in_ok-cut.ensures.cut c.in_ok-retire.ensures.ok c.in_ok-retire.ensures.past c.len-gone.ensures)
