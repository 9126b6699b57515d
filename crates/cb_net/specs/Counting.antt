-- The messages that are sent, and what of them is counted.
use Rattle.std.specs.Prelude.{◌≡◌, ℕ, ◌+◌, ◌/◌, Bool, true, false, List, Option, Some, None, IsSomeAnd, length, option_and_then, option_map, slice_get}
use Rattle.cb_net_plan.specs.declared.roles.Role.{Role}
use Rattle.cb_net_plan.specs.declared.due.LinkEvent.{LinkEvent}
use Rattle.cb_net_node.specs.Sides.{other_side}
use Rattle.cb_wire.specs.declared.message.Message.{Message}
use Rattle.cb_net_node.specs.declared.side.Side.{Side}
use Rattle.cb_net_node.specs.Commands.{payload_text, row_of}
use Rattle.cb_net_node.specs.Joined.{on_its_way}
use Rattle.cb_net_node.specs.Links.{IsPresent, end_of, present}
use Rattle.cb_net_node.specs.Nodes.{is_honest, is_honest_role}
use Rattle.cb_net_node.specs.Traffics.{Counts}
use Rattle.cb_net_node.specs.declared.link.SimulatedLink.{SimulatedLink}
use Rattle.cb_net_node.specs.declared.node.SimulatedNode.{SimulatedNode}
use Rattle.cb_net_node.specs.declared.traffic.Traffic.{Traffic}
use Rattle.cb_net.specs.declared.world.World.{World}

-- ---- events

-- an event is of what its link is joined by now
abbrev pub IsPresentAt : LinkEvent → World → Type 0
IsPresentAt event world = IsSomeAnd (slice_get world.links.items (event.end / 2)) (IsPresent event)

-- ---- nodes

abbrev pub is_honest_one : Option Role → Bool
is_honest_one None = false
is_honest_one (Some role) = is_honest_role role

-- there is a node of this number, and it is honest
abbrev pub is_honest_at : List Role → ℕ → Bool
is_honest_at roles number = is_honest_one (slice_get roles number)

-- ---- messages

-- the message at a place of those that are on their way to a side of a link
abbrev pub message_on : Option SimulatedLink → Side → ℕ → Option Message
message_on None to turn = None
message_on (Some link) to turn =
    option_and_then (λ joined. slice_get (on_its_way joined to) turn) (present link)

-- the number of the node at the far side of a link
abbrev pub sender_of : Option SimulatedLink → Side → Option ℕ
sender_of link to = option_map (λ link. (end_of link (other_side to)).node) link

-- that node
abbrev pub sender_on : Option SimulatedLink → Side → List SimulatedNode → Option SimulatedNode
sender_on link to nodes = option_and_then (λ number. slice_get nodes number) (sender_of link to)

-- A message that a node sends is counted once if the node is honest, and never if it isn't.
pub data Counted : Option SimulatedNode → Option Message → Traffic → Traffic → Type 0 where
  by_an_honest_node : (node : SimulatedNode) (message : Message) (old new : Traffic)
      → is_honest node ≡ true
      → Counts (row_of message) (length (payload_text message) + 24) old new
      → Counted (Some node) (Some message) old new
  by_another_node : (node : SimulatedNode) (message : Message) (old : Traffic)
      → is_honest node ≡ false → Counted (Some node) (Some message) old old
  nothing_sent : (node : Option SimulatedNode) (old : Traffic) → Counted node None old old
  nobody_sent : (message : Option Message) (old : Traffic) → Counted None message old old

-- the message at a place of those on their way to a side of a link is sent
abbrev pub CountsMessage : ℕ → Side → ℕ → World → World → Type 0
CountsMessage place to turn old new =
    let link = slice_get old.links.items place in
    Counted (sender_on link to old.nodes.items) (message_on link to turn) old.traffic new.traffic
