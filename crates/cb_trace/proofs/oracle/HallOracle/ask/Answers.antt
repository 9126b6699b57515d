use Rattle.std.proofs.lemmas.Result.{IfOk-weaker}
use Rattle.cb_hall.specs.Hall.{Grants}
use Rattle.cb_trace.proofs.Fitting.{grants_fit}
use Rattle.cb_trace.proofs.oracle.HallOracle.ask.Goals as goal

pub returns-clause-fits : goal.returns-clause-fits
returns-clause-fits c =
    IfOk-weaker c.call.result (Grants c.args.self.now c.call.new.self c.args.badge.now c.call.new.badge c.args.question) _
    (λ answer g. grants_fit c.args.self.now c.call.new.self c.args.badge.now c.call.new.badge c.args.question answer g) c.call.ensures.ok
