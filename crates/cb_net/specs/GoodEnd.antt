-- What a good end comes to.
use Rattle.std.specs.Prelude.{◌≡◌, true}
use Rattle.std.specs.List.{AllByRecursion}
use Rattle.cb_net_node.specs.Nodes.{is_honest}
use Rattle.cb_net.specs.Audits.{IsVerdict}
use Rattle.cb_net.specs.Ending.{agrees, first_tip}
use Rattle.cb_net.specs.declared.audits.AuditVerdict.TheVariants.{Yes}
use Rattle.cb_net.specs.declared.net.Net.{Net}

-- The hall of each honest node has the tip that is told. If audits are asked for, the audit of each
-- honest node says yes.
pub record IsGood (net : Net) : Type 0 where
  pub tips : AllByRecursion
      (λ node. is_honest node ≡ true → agrees (first_tip net.world.nodes.items).1 node ≡ true)
      net.world.nodes.items
  pub audits : net.settings.audit ≡ true → AllByRecursion
      (λ node. is_honest node ≡ true → IsVerdict net.world.links.items node Yes)
      net.world.nodes.items
