use Rattle.std.proofs.Common.{subst, ap, ◌∙◌}
use Rattle.cb_node.specs.Node.{NodeState}
use Rattle.cb_driver.specs.Auditing.{IsAudited}
use Rattle.cb_process.specs.Process.{ProcessState}
use Rattle.cb_process.proofs.process.Process.renew.Goals as goal

pub returns-clause-audited : goal.returns-clause-audited
returns-clause-audited g c = subst (λ (node : NodeState). IsAudited node.crew c.finish_audited-end.result.0.read c.finish_audited-end.result.0.desks.items c.finish_audited-end.result.1) (c.replace-old.ensures.value ∙ ap (λ (process : ProcessState). process.node) c.self.view_is) c.finish_audited-end.ensures
