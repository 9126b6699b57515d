-- The connections that last: Bitcoin Core's `getpeerinfo` (rpc/net.cpp).
use Rattle.std.specs.Prelude.{ℕ, ◌+◌, ◌*◌, ◌/◌, ◌%◌, ◌^◌, ℤ, pos, negsuc, Bool, if◌then◌else◌, List, [], ◌++◌, codes, Option, Some, None}
use Rattle.std.specs.Net.Text.{socket_text}
use Rattle.std.specs.declared.net.socket_addr.SocketAddr.{SocketAddr}
use Rattle.std.specs.declared.net.socket_addr.SocketAddr.TheVariants.{V4, V6}
use Rattle.json.specs.Token.{Token}
use Rattle.cb_control.specs.declared.moved.Moved.{Moved}
use Rattle.cb_control.specs.declared.report.Greeting.{Greeting}
use Rattle.cb_control.specs.declared.report.PeerReport.{PeerReport}
use Rattle.cb_control.specs.PeerText.{agent_text}
use Rattle.cb_rpc_call.specs.Amounts.{millis_text}
use Rattle.cb_rpc_call.specs.Fields.{capped, exact_field, number_field, object_tokens, signed_field, switch_field, text_field}

-- A connection's number: its generation and its slot. It wraps at 2^64.
abbrev pub peer_id : ℕ → ℕ → ℕ
peer_id slot generation = (generation * 1024 + slot) % 2 ^ 64

-- the slot and the generation of a number
abbrev pub slot_of_id : ℕ → ℕ × ℕ
slot_of_id id = (id % 1024, id / 1024)

abbrev pub network_name : SocketAddr → List ℕ
network_name (V4 address) = codes "ipv4"
network_name (V6 address) = codes "ipv6"

unfoldable pub address_fields : PeerReport → List Token
address_fields peer =
    number_field (codes "id") (peer_id peer.slot peer.generation)
    ++ (text_field (codes "addr") (socket_text peer.address)
    ++ text_field (codes "network") (network_name peer.address))

-- a moment, or 0 if there is none
abbrev pub moment_or_zero : Option ℤ → ℤ
moment_or_zero None = pos 0
moment_or_zero (Some moment) = moment

-- how many bytes came: each message has 24 bytes before its payload
abbrev pub bytes_read : Moved → ℕ
bytes_read moved = capped (moved.payload + 24 * moved.messages)

unfoldable pub traffic_fields : PeerReport → List Token
traffic_fields peer =
    signed_field (codes "lastrecv") (moment_or_zero peer.last)
    ++ (number_field (codes "bytessent") peer.moved.written
    ++ number_field (codes "bytesrecv") (bytes_read peer.moved))

-- how many seconds the latest `pong` took, with three decimals
abbrev pub ping_field : Option ℕ → List Token
ping_field None = []
ping_field (Some millis) = exact_field (codes "pingtime") (millis_text millis)

unfoldable pub time_fields : PeerReport → List Token
time_fields peer =
    signed_field (codes "conntime") peer.since
    ++ (number_field (codes "timeoffset") 0 ++ ping_field peer.pong)

-- the protocol version, 0 before it is known
abbrev pub version_of : Option Greeting → ℤ
version_of None = pos 0
version_of (Some greeting) = greeting.version

-- what is told of the agent
abbrev pub agent_of : Option Greeting → List ℕ
agent_of None = []
agent_of (Some greeting) = agent_text greeting.agent.items

-- the height that the peer told, -1 before it is known
abbrev pub height_of : Option Greeting → ℤ
height_of None = negsuc 0
height_of (Some greeting) = greeting.height

abbrev pub way_name : Bool → List ℕ
way_name inbound = if inbound then codes "inbound" else codes "manual"

unfoldable pub greeting_fields : PeerReport → List Token
greeting_fields peer =
    signed_field (codes "version") (version_of peer.greeting)
    ++ text_field (codes "subver") (agent_of peer.greeting)

unfoldable pub way_fields : PeerReport → List Token
way_fields peer =
    switch_field (codes "inbound") peer.inbound
    ++ (signed_field (codes "startingheight") (height_of peer.greeting)
    ++ text_field (codes "connection_type") (way_name peer.inbound))

unfoldable pub peer_tokens : PeerReport → List Token
peer_tokens peer =
    object_tokens
    (address_fields peer
    ++ (traffic_fields peer ++ (time_fields peer ++ (greeting_fields peer ++ way_fields peer))))
