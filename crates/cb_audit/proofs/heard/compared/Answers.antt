use Rattle.cb_audit.specs.Heard.{skip_of, start_of}
use Rattle.cb_audit.proofs.Accounts.{compared_is}
use Rattle.cb_audit.proofs.heard.compared.Goals as goal

pub returns : goal.returns
returns c = λ kept seen come g t s.
    compared_is kept c.args.one.now c.args.turns.now seen c.connection.result c.trace-trace.result.now c.entries.ensures.history.0 c.before-2.result c.in_ok-index.index c.saturating_add.result c.connection.ensures
    c.trace-trace.ensures c.entries.ensures.history.1 c.before-2.ensures c.saturating_add.ensures
    (c.in_ok-index.ensures (start_of kept c.args.one.now) (skip_of kept c.args.one.now) seen come) g t s
