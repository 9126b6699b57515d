use Rattle.cb_net.proofs.net.Net.audit_before_restart.Goals as goal

pub returns-clause-judged : goal.returns-clause-judged
returns-clause-judged c = record { verdict = c.in_ok-verdict.verdict; is = c.in_ok-verdict.ensures.verdict; yes = cc; no = cc }
