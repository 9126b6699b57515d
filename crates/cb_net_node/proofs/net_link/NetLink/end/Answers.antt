use Rattle.std.proofs.Common.{subst}
use Rattle.std.specs.Prelude.{OnOk}
use Rattle.cb_net_node.specs.Ends.{WasClosed}
use Rattle.cb_net_node.specs.Link.{LinkView}
use Rattle.cb_net_node.proofs.Handing.{link_closes}
use Rattle.cb_net_node.proofs.net_link.NetLink.end.Goals as goal

pub invariant_of-self : goal.invariant_of-self
invariant_of-self c = link_closes c.self.inside.lasts c.self.inside.ends c.close.new.self c.close.ensures.closes.0 c.close.ensures.closes.1 c.self.invariant

pub returns-clause-heard : goal.returns-clause-heard
returns-clause-heard c =
    subst (λ (v : LinkView). OnOk c.close.result (WasClosed v.ends.first.trace c.close.new.self.first.trace × WasClosed v.ends.second.trace c.close.new.self.second.trace)) c.self.view_is c.close.ensures.ok
