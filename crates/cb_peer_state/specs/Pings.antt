-- Pings and pongs, by their nonces (BIP 31).
use Rattle.std.specs.Prelude.{ℕ, List, filter_map, Option, Some, None}
use Rattle.cb_wire.specs.declared.item.Item.{Item}
use Rattle.cb_wire.specs.declared.item.Item.TheVariants.{Good}
use Rattle.cb_wire.specs.declared.message.Message.{Message}
use Rattle.cb_wire.specs.declared.message.Message.TheVariants as messages
use Rattle.cb_peer_state.specs.declared.event.Event.{Event}
use Rattle.cb_peer_state.specs.declared.event.Event.TheVariants as events

abbrev pub ping_nonce : Message → Option ℕ
ping_nonce (messages.Ping nonce) = Some nonce
ping_nonce other = None

abbrev pub pong_nonce : Message → Option ℕ
pong_nonce (messages.Pong nonce) = Some nonce
pong_nonce other = None

-- The nonces of the pongs among messages, in order.
abbrev pub pongs : List Message → List ℕ
pongs sent = filter_map pong_nonce sent

-- The nonce of an item that is a ping.
abbrev pub item_ping : Item → Option ℕ
item_ping (Good message) = ping_nonce message
item_ping other = None

-- The nonce of an event that is a ping.
abbrev pub event_ping : Event → Option ℕ
event_ping (events.Said item) = item_ping item
event_ping other = None

-- The nonces of the pings among events, in order.
abbrev pub pings : List Event → List ℕ
pings events = filter_map event_ping events
