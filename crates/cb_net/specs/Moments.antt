-- From one moment of a network to a later one.
use Rattle.std.specs.Prelude.{◌≡◌, ◌≤◌, List, map}
use Rattle.cb_net_plan.specs.declared.roles.Role.{Role}
use Rattle.cb_net_node.specs.declared.node.SimulatedNode.{SimulatedNode}
use Rattle.cb_net.specs.declared.net.Net.{Net}
use Rattle.cb_net.specs.declared.world.World.{World}

-- what each node is like, in the order of their numbers
abbrev pub roles_in : List SimulatedNode → List Role
roles_in nodes = map (λ node. node.role) nodes

-- Each node is like before, and virtual time didn't go back.
pub record IsLater (old new : World) : Type 0 where
  pub roles : roles_in new.nodes.items ≡ roles_in old.nodes.items
  pub time : old.queue.time ≤ new.queue.time

-- So it is, and the block that is being relayed is the same.
pub record Relays (old new : World) : Type 0 where
  pub roles : roles_in new.nodes.items ≡ roles_in old.nodes.items
  pub time : old.queue.time ≤ new.queue.time
  pub block : new.block ≡ old.block

-- So it is in the whole network, and no more events may happen than before.
pub record Lasts (old new : Net) : Type 0 where
  pub settings : new.settings ≡ old.settings
  pub roles : roles_in new.world.nodes.items ≡ roles_in old.world.nodes.items
  pub time : old.world.queue.time ≤ new.world.queue.time
  pub left : new.left ≤ old.left

-- So it is, and no block was counted.
pub record Ages (old new : Net) : Type 0 where
  pub settings : new.settings ≡ old.settings
  pub roles : roles_in new.world.nodes.items ≡ roles_in old.world.nodes.items
  pub time : old.world.queue.time ≤ new.world.queue.time
  pub left : new.left ≤ old.left
  pub relayed : new.relayed ≡ old.relayed
