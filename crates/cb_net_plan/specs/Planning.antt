-- What a network is made of.
use Rattle.std.specs.Prelude.{◌≡◌, ◌≢◌, ℕ, ◌+◌, ◌-◌, ◌*◌, ◌/◌, ◌<◌, ◌≤◌, List, [], count_by, length, ⊤}
use Rattle.std.specs.List.{All}
use Rattle.cb_net_plan.specs.declared.links.PlannedLink.{PlannedLink}
use Rattle.cb_net_plan.specs.declared.plan.Plan.{Plan}
use Rattle.cb_net_plan.specs.declared.roles.Role.{Role}
use Rattle.cb_net_plan.specs.declared.settings.NetSettings.{NetSettings}
use Rattle.cb_net_plan.specs.Links.{AreApart, Outline, Way, all_joined, all_tried}
use Rattle.cb_net_plan.specs.Roles.{IsHonest, after_many, lies, roles_of, stalls}

-- the roles are drawn from the seed
unfoldable pub planned_roles : NetSettings → List Role
planned_roles settings =
    roles_of settings.nodes settings.stall settings.lie (record { state = settings.seed })

-- no links, and the draws behind those of the roles
unfoldable pub planned_start : NetSettings → Outline
planned_start settings = record {
  draws = after_many (settings.nodes - 1) (record { state = settings.seed });
  low = settings.latency_low * 1000;
  high = settings.latency_high * 1000;
  honest = [];
  links = [];
}

-- Each node is linked to one before it, and then nodes are drawn and linked until there are half as
-- many links as nodes times links, or as many tries were made.
unfoldable pub planned : NetSettings → Outline
planned settings =
    let ends = settings.nodes * settings.links in
    all_tried ends settings.nodes (ends / 2)
    (all_joined 0 (planned_roles settings) (planned_start settings))

-- a plan as settings say
pub record IsPlan (settings : NetSettings) (plan : Plan) : Type 0 where
  pub roles : plan.roles.items ≡ planned_roles settings
  pub links : plan.links.items ≡ (planned settings).links
  pub draws : plan.draws ≡ (planned settings).draws

-- ---- what a plan comes to

-- each node has a role, the first is honest, and so many stall and lie as settings say
pub record AreRoles (settings : NetSettings) (roles : List Role) : Type 0 where
  pub all : length roles ≡ settings.nodes
  pub first : 0 < settings.nodes → IsHonest roles 0
  pub stall : settings.stall + settings.lie < settings.nodes
      → count_by stalls roles ≡ settings.stall
  pub lie : settings.stall + settings.lie < settings.nodes → count_by lies roles ≡ settings.lie

-- a link between two of so many nodes
pub record IsLink (nodes : ℕ) (link : PlannedLink) : Type 0 where
  pub first : link.first < nodes
  pub second : link.second < nodes
  pub two : link.first ≢ link.second

-- Each link is between two of the nodes, no two links are between the same, and latencies lie in
-- their range. From each node links lead to node 0, and from each honest node over honest nodes
-- alone.
pub record AreLinks (settings : NetSettings) (roles : List Role) (links : List PlannedLink)
    : Type 0 where
  pub ends : All (IsLink settings.nodes) links
  pub apart : AreApart links
  pub latency : settings.latency_low ≤ settings.latency_high
      → All (λ link. (settings.latency_low * 1000 ≤ link.latency)
      × (link.latency ≤ settings.latency_high * 1000)) links
  pub connected : (node : ℕ) → node < settings.nodes → Way (λ node. ⊤) links node 0
  pub honest : (node : ℕ) → IsHonest roles node → Way (IsHonest roles) links node 0
