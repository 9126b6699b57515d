-- What the words of `node` ask for.
use Rattle.std.specs.Prelude.{◌≡◌, ℕ, ◌≤◌, ◌⊎◌, ◌*◌, ◌-◌, ◌^◌, nat_le, ◌&&◌, if◌then◌else◌, ◌++◌, pos, true, false, not, is_some, List, [], codes, Option, Some, None}
use Rattle.std.specs.Net.Addr.{IsLoopbackV4, IsLoopbackV6, MatchIp}
use Rattle.std.specs.Net.Socket.{socket_ip}
use Rattle.std.specs.Option.{option_map_or}
use Rattle.std.specs.Str.{bytes_eq}
use Rattle.std.specs.Str.Parse.{without_leading_plus}
use Rattle.std.specs.declared.net.ip_addr.IpAddr.{IpAddr}
use Rattle.clap.specs.Words.{App, Row, Rule, first_of, found_of, new_app, new_rule, rows_of, with_rule}
use Rattle.clap.specs.declared.builder.action.ArgAction.TheVariants.{Append}
use Rattle.clap.specs.declared.builder.value_parser.ValueParser.TheVariants as parsers
use Rattle.cb_process.specs.Limits.{dialled_of}
use Rattle.cb_process.specs.declared.limits.Limits.{Limits}
use Rattle.cb_control.specs.Words.{number_in}
use Rattle.clap.specs.declared.parser.matches.ArgMatches.{ArgMatches}
use Rattle.cb_command.specs.RpcWords.{IsRpc, is_set, with_rpc}
use Rattle.cb_command.specs.declared.node_words.BadWords.{BadWords}
use Rattle.cb_command.specs.declared.node_words.BadWords.TheVariants as bad
use Rattle.cb_process.specs.declared.orders.NodeOrders.{NodeOrders}

-- an option of this name with a value
abbrev pub valued : List ℕ → Rule
valued name = record (new_rule name) { long = Some name; value_names = 1 }

-- the same, any number of times
abbrev pub repeated : List ℕ → Rule
repeated name = record (valued name) { action = Some Append }

-- the same with a number from the least to the most
abbrev pub numbered_from : List ℕ → ℕ → ℕ → Rule
numbered_from name least most =
    record (valued name) { parser = Some (parsers.Signed (pos least) (pos most)) }

-- the same with a number from 1 to the most
abbrev pub numbered : List ℕ → ℕ → Rule
numbered name most = numbered_from name 1 most

-- the options about what peers may do, behind those that a command has
abbrev pub with_limits : App → App
with_limits a =
    with_rule
    (with_rule
    (with_rule
    (with_rule
    (with_rule a (numbered (codes "handshake-timeout") 86400))
    (numbered (codes "idle-timeout") 86400))
    (numbered (codes "block-timeout") 86400))
    (numbered_from (codes "max-connections") 2 1000))
    (numbered (codes "per-address") 1000)

-- the command `node`
abbrev pub node_line : App
node_line =
    with_rpc
    (with_rule
    (with_limits
    (with_rule
    (with_rule
    (with_rule (with_rule (new_app (codes "node")) (valued (codes "listen")))
    (repeated (codes "connect")))
    (numbered (codes "handlers") 16))
    (numbered (codes "tick") 60000)))
    (valued (codes "log")))

-- how an address is written
abbrev pub address_rule : List ℕ
address_rule =
    codes " takes ADDR:PORT in numbers alone, as 127.0.0.1:18444 or [::1]:18444;"
    ++ codes " names of hosts aren't looked up\n"

-- what standard error is told of words of `node` that can't be followed
abbrev pub bad_words_text : BadWords → List ℕ
bad_words_text bad.Listen = codes "error: --listen" ++ address_rule
bad_words_text bad.Connect = codes "error: --connect" ++ address_rule
bad_words_text bad.Log = codes "error: --log takes off, error, warn, info, debug or trace\n"
bad_words_text bad.Rpc = codes "error: --rpc" ++ address_rule
bad_words_text bad.NoSecret =
    codes "error: --rpc takes --rpc-user and --rpc-password too, and neither is empty; the"
    ++ codes " environment's CBRELAY_RPC_PASSWORD stands for the second\n"
bad_words_text bad.User = codes "error: --rpc-user takes a name without a colon\n"
bad_words_text bad.Remote =
    codes "error: --rpc takes a loopback address, and another one only with"
    ++ codes " --rpc-allow-remote\n"
bad_words_text bad.RpcAlone =
    codes "error: --rpc-user, --rpc-password and --rpc-allow-remote go with --rpc\n"
bad_words_text bad.NoInput =
    codes "error: --no-input takes --rpc too: nothing else could end the node\n"
bad_words_text bad.Memory = []

-- There are 1 to 16 handlers, and 1 to 60,000 milliseconds pass from tick to tick.
abbrev pub HasSizes : NodeOrders → Type 0
HasSizes orders =
    ((1 ≤ orders.handlers) × (orders.handlers ≤ 16)) × ((1 ≤ orders.tick) × (orders.tick ≤ 60000))

-- ---- what options ask for

-- a number, if it is one from the least to the most, or else the usual one
abbrev pub in_bounds : ℕ → ℕ → ℕ → ℕ → ℕ
in_bounds usual least most n = if nat_le least n && nat_le n most then n else usual

-- The number that a value writes: clap lets no other value through than one from the least to the
-- most.
abbrev pub number_told : ℕ → ℕ → ℕ → List ℕ → ℕ
number_told usual least most text =
    option_map_or (in_bounds usual least most) (number_in (2 ^ 64) (without_leading_plus text))
    usual

-- the same of an option, which has the usual number if it isn't told
abbrev pub number_or : ℕ → ℕ → ℕ → Option (List ℕ) → ℕ
number_or usual least most None = usual
number_or usual least most (Some text) = number_told usual least most text

-- so many seconds in milliseconds
abbrev pub millis_or : ℕ → Option (List ℕ) → ℕ
millis_or usual text = 1000 * number_or usual 1 86400 text

-- Slots for all peers.
abbrev pub most_of : List Row → ℕ
most_of rows = number_or 64 2 1000 (first_of (codes "max-connections") rows)

-- At a loopback address all peers have one address, so no limit is usual there, and elsewhere 8.
abbrev pub IsUsualShare : IpAddr → Option ℕ → Type 0
IsUsualShare at limit =
    (MatchIp at IsLoopbackV4 IsLoopbackV6 × (limit ≡ None))
    ⊎ ((MatchIp at IsLoopbackV4 IsLoopbackV6 → ⊥) × (limit ≡ Some 8))

-- how many connections of one address last, where a node listens there
abbrev pub Shares : IpAddr → Option (List ℕ) → Option ℕ → Type 0
Shares at None limit = IsUsualShare at limit
Shares at (Some text) limit = limit ≡ Some (number_told 8 1 1000 text)

-- The limits that these values of the options ask for, at a node that listens there.
pub record AreLimits (rows : List Row) (at : IpAddr) (limits : Limits) : Type 0 where
  pub handshake : limits.handshake ≡ millis_or 60 (first_of (codes "handshake-timeout") rows)
  pub idle : limits.idle ≡ millis_or 1200 (first_of (codes "idle-timeout") rows)
  pub block : limits.block ≡ millis_or 120 (first_of (codes "block-timeout") rows)
  pub outbound : limits.outbound ≡ dialled_of (most_of rows)
  pub inbound : limits.inbound ≡ most_of rows - dialled_of (most_of rows)
  pub per_address : Shares at (first_of (codes "per-address") rows) limits.per_address

-- What these values of the options ask for.
pub record IsNodeOrders (rows : List Row) (orders : NodeOrders) : Type 0 where
  pub handlers : orders.handlers ≡ number_or 2 1 16 (first_of (codes "handlers") rows)
  pub tick : orders.tick ≡ number_or 100 1 60000 (first_of (codes "tick") rows)
  pub limits : AreLimits rows (socket_ip orders.listen) orders.limits
  pub rpc : IsRpc rows orders.rpc
  pub reads : orders.reads_input ≡ not (is_set (codes "no-input") rows)
  pub ends : orders.reads_input ≡ false → is_some orders.rpc ≡ true

-- the values of the options of a command, if it was entered
abbrev pub rows_in : Option ArgMatches → List Row
rows_in None = []
rows_in (Some matches) = rows_of (found_of matches)

-- the values of the options of `node`, by the command that was entered
abbrev pub node_rows : Option (List ℕ × List Row) → List Row
node_rows None = []
node_rows (Some found) = if bytes_eq found.0 (codes "node") then found.1 else []
