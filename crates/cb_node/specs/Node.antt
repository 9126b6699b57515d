-- How contracts see a node.
use Rattle.std.specs.Prelude.{◌≡◌, ℕ, ℤ, pos, nat_lt, ◌+◌, Bool, true, false, List, length, map, replicate, Option, None, Some, Result, Err, IfOk, OnErr, slice_set}
use Rattle.std.specs.List.{AllZip, range_with_len}
use Rattle.std.specs.declared.net.socket_addr.SocketAddr.{SocketAddr}
use Rattle.std.specs.Net.Socket.{socket_port}
use Rattle.cb_crew.specs.declared.reader_side.ReaderSide.{ReaderSide}
use Rattle.cb_crew.specs.Desk.{DeskState}
use Rattle.cb_crew.specs.Crew.{AreSidesOf, CrewState}
use Rattle.cb_session.specs.declared.input.Input.{Input}
use Rattle.cb_work.specs.PeerWork.{WorkState, label_of}
use Rattle.cb_peers.specs.Headline.{IsHeadline}
use Rattle.cb_peers.specs.Reading.{QueuedWhatItRead}
use Rattle.cb_peer_state.specs.declared.settings.Settings.{Settings}
use Rattle.cb_node.specs.declared.fault.NodeFault.{NodeFault}
use Rattle.cb_node.specs.declared.fault.NodeFault.TheVariants.{NoSlot}
use Rattle.cb_node.specs.Choosing.{HasNone, IsChosen}
use Rattle.cb_node.specs.Slot.{SlotState, uses_of}
use Rattle.cb_node.specs.declared.settings.NodeSettings.{NodeSettings}

-- A node: its crew, the settings with which it makes what it serves next, where it listens, and
-- which slots ever had a socket. The inbound slots come first.
pub record NodeState : Type 0 where
  pub crew : CrewState
  pub settings : NodeSettings
  pub listens : Option SocketAddr
  pub used : List Bool

abbrev pub node_state : CrewState → NodeSettings → Option SocketAddr → List SlotState → NodeState
node_state crew settings listens slots = record {
  crew = crew;
  settings = settings;
  listens = listens;
  used = uses_of slots;
}

-- with what the sessions of a slot begin
abbrev pub session_settings : NodeSettings → ℕ → Settings
session_settings settings slot = record {
  inbound = nat_lt slot settings.inbound;
  nonce = settings.nonce;
  time = settings.time;
  height = pos 0;
  salt = settings.salt;
}

-- the labels of the works of so many slots' first connections, in their order
abbrev pub first_labels : ℕ → List ℕ
first_labels count =
    map (λ slot. label_of (record { peer = slot; generation = 1 })) (range_with_len 0 count)

-- ---- what calls do

-- how many slots a node with these settings has
abbrev pub slots_in : NodeSettings → ℕ
slots_in settings = settings.inbound + settings.outbound

-- A node with these settings and their slots, none of which ever had a socket. The first work of
-- each is that of the slot's first connection.
pub record IsNewNode (settings : NodeSettings) (made : NodeState) : Type 0 where
  pub settings_are : made.settings ≡ settings
  pub slots : length made.crew.inboxes ≡ slots_in settings
  pub handlers : made.crew.handlers ≡ settings.handlers
  pub quiet : made.listens ≡ None
  pub unused : made.used ≡ replicate (slots_in settings) false
  pub works : made.crew.labels ≡ first_labels (slots_in settings)

-- this slot has or had a socket
abbrev pub with_used : NodeState → ℕ → NodeState
with_used n slot = record {
  crew = n.crew;
  settings = n.settings;
  listens = n.listens;
  used = slice_set n.used slot true;
}

abbrev pub with_listens : NodeState → Option SocketAddr → NodeState
with_listens n listens = record {
  crew = n.crew;
  settings = n.settings;
  listens = listens;
  used = n.used;
}

-- it listens at an address with this port
abbrev pub ListensBy : ℕ → NodeState → NodeState → Type 0
ListensBy port old new =
    (at : SocketAddr) × (port ≡ socket_port at) × (new ≡ with_listens old (Some at))

-- the sessions that it makes next tell this time
abbrev pub with_time : NodeState → ℤ → NodeState
with_time n time = record n { settings = record n.settings { time = time } }

-- The slots of a kind, which serve peers that connect to the node or those to which it connects:
-- the first, and the one behind the last.
abbrev pub first_of : Bool → NodeState → ℕ
first_of true n = 0
first_of false n = n.settings.inbound

abbrev pub end_of : Bool → NodeState → ℕ
end_of true n = n.settings.inbound
end_of false n = length n.used

-- each slot of the kind has or had a socket
abbrev pub HasNoUnused : Bool → NodeState → Type 0
HasNoUnused inbound n = HasNone n.used false (first_of inbound n) (end_of inbound n)

-- What a call answers that serves a peer by a slot of a kind, and what it does: a slot of the kind
-- serves it, the lowest that never had a socket, if there is one, and nothing else changes. A
-- refusal changes nothing, and `NoSlot` is answered only where each slot of the kind had a socket.
pub record IsServed (inbound : Bool) (old new : NodeState) (result : Result ℕ NodeFault)
    : Type 0 where
  pub chosen : IfOk result (IsChosen old.used (first_of inbound old) (end_of inbound old))
  pub ok : IfOk result (λ slot. new ≡ with_used old slot)
  pub err : OnErr result (new ≡ old)
  pub no_slot : result ≡ Err NoSlot → HasNoUnused inbound old

-- The node's crew has finished: its peers' readers left these sides, one of each inbox, in order,
-- and the desks served all that they queued. `read` has the bytes that the socket of each
-- connection of each slot gave: its reader queued what they spell. Nothing is told of the bytes
-- that went out by sockets.
pub record HasFinished {S H F : Type 0} (crew : CrewState) (read : List (List (List ℕ)))
    (desks : List (DeskState (WorkState S H F) Input)) : Type 0 where
  pub sides : List (ReaderSide Input (WorkState S H F))
  pub own : AreSidesOf crew sides
  pub spelled : AllZip QueuedWhatItRead read sides
  pub headline : IsHeadline (λ sink. None) crew sides desks
