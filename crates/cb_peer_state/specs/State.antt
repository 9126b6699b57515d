-- What a session keeps about its peer.
use Rattle.std.specs.Prelude.{ℕ, ◌+◌, ◌%◌, ◌^◌, ◌==◌, ◌&&◌, ◌||◌, not, pos, Bool, true, false, List, [], codes, length, Option, None, Some, is_some, if◌then◌else◌}
use Rattle.cb_base.specs.declared.hash.Hash256.{Hash256}
use Rattle.cb_block.specs.declared.tx.Tx.{Tx}
use Rattle.cb_chain.specs.Entries.{block_hash, same}
use Rattle.cb_compact.specs.Slots.{Unfilled, missing}
use Rattle.cb_peer_state.specs.Fetching.{FetchState, fallen_back, idle, is_fetched, landed, leaves_out, wanting, wanting_all, wants_none}
use Rattle.cb_wire.specs.declared.message.Message.{Message}
use Rattle.cb_peer_state.specs.declared.compact.CompactState.{CompactState}
use Rattle.cb_peer_state.specs.declared.session_state.SessionState.{SessionState}
use Rattle.cb_peer_state.specs.declared.settings.Settings.{Settings}
use Rattle.cb_peer_state.specs.declared.pending.Pending.{Pending}
use Rattle.cb_peer_state.specs.declared.state.CloseReason.{CloseReason}
use Rattle.cb_peer_state.specs.declared.state.CloseReason.TheVariants as reasons
use Rattle.cb_peer_state.specs.declared.state.Marks.{Marks}
use Rattle.cb_peer_state.specs.declared.state.Peer.{Peer}
use Rattle.cb_peer_state.specs.declared.state.State.{State}
use Rattle.cb_peer_state.specs.declared.state.State.TheVariants.{Start, Ready, Closed}

-- A peer that has sent nothing.
abbrev pub stranger : Peer
stranger =
    record {
      version = pos 0;
      relays = true;
      by_headers = false;
      capable = false;
      wants_high = false;
    }

-- Nothing was announced.
abbrev pub unmarked : Marks
unmarked = record { heard = None; tip = None; next = 0 }

-- No compact block was made for the peer, and none is being rebuilt.
abbrev pub no_compact : CompactState
no_compact = record { partial = None; made = 0; asked_high = false }

-- A session about which only its settings and its state are known. This is so at its beginning and
-- when it is over.
abbrev pub bare : Settings → State → SessionState
bare settings state = record {
  settings = settings;
  state = state;
  peer = stranger;
  marks = unmarked;
  fetch = idle;
  resume_from = None;
  unknown = false;
  compact = no_compact;
  probes = 0;
  pending = None;
}

abbrev pub opening : Settings → SessionState
opening settings = bare settings Start

abbrev pub over : CloseReason → SessionState → SessionState
over why s = bare s.settings (Closed why)

abbrev pub is_closed : State → Bool
is_closed (Closed why) = true
is_closed other = false

abbrev pub is_ready : State → Bool
is_ready Ready = true
is_ready other = false

-- ---- a session with one part replaced

abbrev pub with_state : State → SessionState → SessionState
with_state state s = record {
  settings = s.settings;
  state = state;
  peer = s.peer;
  marks = s.marks;
  fetch = s.fetch;
  resume_from = s.resume_from;
  unknown = s.unknown;
  compact = s.compact;
  probes = s.probes;
  pending = s.pending;
}

abbrev pub with_peer : Peer → SessionState → SessionState
with_peer peer s = record {
  settings = s.settings;
  state = s.state;
  peer = peer;
  marks = s.marks;
  fetch = s.fetch;
  resume_from = s.resume_from;
  unknown = s.unknown;
  compact = s.compact;
  probes = s.probes;
  pending = s.pending;
}

abbrev pub with_marks : Marks → SessionState → SessionState
with_marks marks s = record {
  settings = s.settings;
  state = s.state;
  peer = s.peer;
  marks = marks;
  fetch = s.fetch;
  resume_from = s.resume_from;
  unknown = s.unknown;
  compact = s.compact;
  probes = s.probes;
  pending = s.pending;
}

abbrev pub with_fetch : FetchState → SessionState → SessionState
with_fetch fetch s = record {
  settings = s.settings;
  state = s.state;
  peer = s.peer;
  marks = s.marks;
  fetch = fetch;
  resume_from = s.resume_from;
  unknown = s.unknown;
  compact = s.compact;
  probes = s.probes;
  pending = s.pending;
}

abbrev pub with_pending : Option Pending → SessionState → SessionState
with_pending pending s = record {
  settings = s.settings;
  state = s.state;
  peer = s.peer;
  marks = s.marks;
  fetch = s.fetch;
  resume_from = s.resume_from;
  unknown = s.unknown;
  compact = s.compact;
  probes = s.probes;
  pending = pending;
}

abbrev pub with_compact : CompactState → SessionState → SessionState
with_compact compact s = record {
  settings = s.settings;
  state = s.state;
  peer = s.peer;
  marks = s.marks;
  fetch = s.fetch;
  resume_from = s.resume_from;
  unknown = s.unknown;
  compact = compact;
  probes = s.probes;
  pending = s.pending;
}

abbrev pub with_resume_from : Option Hash256 → SessionState → SessionState
with_resume_from hash s = record {
  settings = s.settings;
  state = s.state;
  peer = s.peer;
  marks = s.marks;
  fetch = s.fetch;
  resume_from = hash;
  unknown = s.unknown;
  compact = s.compact;
  probes = s.probes;
  pending = s.pending;
}

abbrev pub with_unknown : Bool → SessionState → SessionState
with_unknown unknown s = record {
  settings = s.settings;
  state = s.state;
  peer = s.peer;
  marks = s.marks;
  fetch = s.fetch;
  resume_from = s.resume_from;
  unknown = unknown;
  compact = s.compact;
  probes = s.probes;
  pending = s.pending;
}

-- Blocks are in flight or wanted.
abbrev pub is_fetching : FetchState → Bool
is_fetching fetch = not (length fetch.flight == 0) || not (wants_none fetch)

-- ---- blocks that had no room among the wanted ones

-- The session remembers a header behind which blocks had no room.
abbrev pub remembers : SessionState → Bool
remembers s = is_some s.resume_from

-- The messages, requests for headers, unless a header is remembered: then headers are requested
-- from that one alone, and later.
abbrev pub unless_remembered : SessionState → List Message → List Message
unless_remembered s sent = if remembers s then [] else sent

-- Blocks are missing, in order. They stand last among the wanted ones, in this order, as far as
-- there is room, but for those in flight. If some had none, the header before them is remembered.
-- While one is remembered, what is wanted stays as it is.
abbrev pub with_lacking : List Hash256 → Option Hash256 → SessionState → SessionState
with_lacking lack before s =
    with_resume_from
    (if remembers s
    then s.resume_from
    else if leaves_out (wanting_all s.fetch lack) lack
    then before
    else None)
    (with_fetch (if remembers s then s.fetch else wanting_all s.fetch lack) s)

-- A compact block couldn't be rebuilt, so the whole block is needed. If it is neither in flight nor
-- wanted then, the header before it is remembered, unless another one is.
abbrev pub with_fallen : Hash256 → Hash256 → SessionState → SessionState
with_fallen hash before s =
    with_resume_from
    (if remembers s
    then s.resume_from
    else if is_fetched (fallen_back hash s.fetch) hash
    then None
    else Some before)
    (with_fetch (fallen_back hash s.fetch) s)

-- ---- what is unknown

-- Headers may be requested for something unknown: none were that weren't answered yet, and no
-- header is remembered.
abbrev pub may_seek : SessionState → Bool
may_seek s = not s.unknown && not (remembers s)

-- Something unknown was found, or wasn't. If it was, it is noted that headers are requested for it.
abbrev pub seeking : Bool → SessionState → SessionState
seeking found s = with_unknown ((found && may_seek s) || s.unknown) s

-- The block is in flight or wanted, and no header is remembered. So a child of it can wait for it.
abbrev pub awaits : SessionState → Hash256 → Bool
awaits s hash = not (remembers s) && is_fetched s.fetch hash

-- A block came before its parent, which is in flight or wanted. It is queued for download behind
-- it. If it has no room, the header before it is remembered.
abbrev pub with_child : Hash256 → Hash256 → SessionState → SessionState
with_child hash parent s =
    with_resume_from
    (if is_fetched (wanting s.fetch hash) hash then s.resume_from else Some parent)
    (with_fetch (wanting s.fetch hash) s)

-- ---- compact blocks (BIP 152)

-- With this block, or none, being rebuilt.
abbrev pub with_partial : Option Unfilled → SessionState → SessionState
with_partial partial s =
    with_compact
    (record { partial = partial; made = s.compact.made; asked_high = s.compact.asked_high }) s

-- With this many more compact blocks made for the peer, modulo 2^64.
abbrev pub with_made : ℕ → SessionState → SessionState
with_made count s =
    with_compact
    (record {
      partial = s.compact.partial;
      made = (s.compact.made + count) % 2
          ^ 64;
      asked_high = s.compact.asked_high;
    })
    s

-- With what the peer was last asked: whether to announce blocks as compact blocks.
abbrev pub with_asked_high : Bool → SessionState → SessionState
with_asked_high high s =
    with_compact (record { partial = s.compact.partial; made = s.compact.made; asked_high = high })
    s

-- The nonce of the next compact block that is made for the peer.
abbrev pub next_nonce : SessionState → ℕ
next_nonce s = (s.settings.salt + s.compact.made) % 2 ^ 64

-- With one more `ping` sent, modulo 2^64.
abbrev pub with_probe : SessionState → SessionState
with_probe s = record {
  settings = s.settings;
  state = s.state;
  peer = s.peer;
  marks = s.marks;
  fetch = s.fetch;
  resume_from = s.resume_from;
  unknown = s.unknown;
  compact = s.compact;
  probes = (s.probes + 1) % 2 ^ 64;
  pending = s.pending;
}

-- The nonce of the next `ping`.
abbrev pub next_ping : SessionState → ℕ
next_ping s = (s.settings.nonce + s.probes) % 2 ^ 64

-- A block came: it is no longer in flight.
abbrev pub landing : Hash256 → SessionState → SessionState
landing hash s = with_fetch (landed hash s.fetch) s

-- Whether a block with this hash is being rebuilt.
abbrev pub is_partial : Hash256 → Option Unfilled → Bool
is_partial hash None = false
is_partial hash (Some partial) = same (block_hash partial.header) hash

-- Whether these are as many transactions as the block that is being rebuilt lacks.
abbrev pub is_count_of : List Tx → Option Unfilled → Bool
is_count_of txs None = false
is_count_of txs (Some partial) = length txs == length (missing 0 partial.slots)

-- A block that came whole is no longer being rebuilt.
abbrev pub dropping : Hash256 → SessionState → SessionState
dropping hash s = if is_partial hash s.compact.partial then with_partial None s else s

-- No question is open any more.
abbrev pub freed : SessionState → SessionState
freed s = with_pending None s

abbrev pub reason_name : CloseReason → List ℕ
reason_name reasons.Bye = codes "Bye"
reason_name reasons.BadStream = codes "BadStream"
reason_name reasons.BadMessage = codes "BadMessage"
reason_name reasons.BadBlock = codes "BadBlock"
reason_name reasons.BadRequest = codes "BadRequest"
reason_name reasons.OldPeer = codes "OldPeer"
reason_name reasons.SelfPeer = codes "SelfPeer"
reason_name reasons.Kicked = codes "Kicked"
reason_name reasons.Memory = codes "Memory"
reason_name reasons.TraceFull = codes "TraceFull"
reason_name reasons.HallFull = codes "HallFull"
reason_name reasons.WriteFault = codes "WriteFault"
