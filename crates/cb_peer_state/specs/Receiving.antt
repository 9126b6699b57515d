-- How a session handles its peer's messages: one line for each message. Sources: Bitcoin's
-- peer-to-peer protocol; BIP 31 (pong), BIP 130 (sendheaders), BIP 152 (sendcmpct, cmpctblock,
-- getblocktxn, blocktxn). 'Own' marks a choice of this node.
use Rattle.std.specs.Prelude.{pos, true, not, ◌==◌, int_lt, if◌then◌else◌, List, [], ◌∷◌, fold, Option, Some, None, Result, Ok, Err, false}
use Rattle.cb_base.specs.declared.hash.Hash256.{Hash256}
use Rattle.cb_block.specs.declared.block.Block.{Block}
use Rattle.cb_block.specs.declared.header.Header.{Header}
use Rattle.cb_base.specs.declared.fault.Fault.{Fault}
use Rattle.cb_chain.specs.Entries.{block_hash, same}
use Rattle.cb_compact.specs.Slots.{Unfilled}
use Rattle.cb_compact.specs.declared.partial.Filled.{Filled}
use Rattle.cb_compact.specs.declared.partial.Filled.TheVariants.{Sound, Wrong}
use Rattle.cb_peer_state.specs.Fetching.{FetchState, asks_now, is_due, landed}
use Rattle.cb_wire.specs.declared.block_transactions.BlockTransactions.{BlockTransactions}
use Rattle.cb_wire.specs.declared.compact_block.HeaderAndShortIds.{HeaderAndShortIds}
use Rattle.cb_compact.specs.Completing.{completed_of}
use Rattle.cb_compact.specs.Places.{has_places}
use Rattle.cb_peer_state.specs.Inventory.{asking_block}
use Rattle.cb_wire.specs.declared.inventory.Inventory.{Inventory}
use Rattle.cb_wire.specs.declared.inventory.Inventory.TheVariants as entry
use Rattle.cb_wire.specs.declared.requests.CompactRelay.{CompactRelay}
use Rattle.cb_wire.specs.declared.version.Version.{Version}
use Rattle.cb_peer_state.specs.Greeting.{our_version, wishes}
use Rattle.cb_wire.specs.declared.item.Item.{Item}
use Rattle.cb_wire.specs.declared.item.Item.TheVariants.{Good, Damaged, Bad}
use Rattle.cb_wire.specs.declared.message.Message.{Message}
use Rattle.cb_wire.specs.declared.message.Message.TheVariants as messages
use Rattle.cb_peer_state.specs.declared.stage.Stage.{Stage}
use Rattle.cb_peer_state.specs.declared.stage.Stage.TheVariants.{About, Give, Wanted, Fresh}
use Rattle.cb_peer_state.specs.declared.stage.Subject.TheVariants as subjects
use Rattle.cb_peer_state.specs.declared.settings.Settings.{Settings}
use Rattle.cb_peer_state.specs.declared.state.CloseReason.{CloseReason}
use Rattle.cb_peer_state.specs.declared.state.CloseReason.TheVariants as reasons
use Rattle.cb_peer_state.specs.declared.state.State.{State}
use Rattle.cb_peer_state.specs.declared.state.State.TheVariants.{Start, Greeted, Ready}
use Rattle.cb_peer_state.specs.Questions.{is_nil, told_of}
use Rattle.cb_block.specs.Decision.{is_sound_block}
use Rattle.cb_peer_state.specs.declared.session_state.SessionState.{SessionState}
use Rattle.cb_peer_state.specs.State.{dropping, is_ready, landing, over, with_fallen, with_fetch, with_marks, with_partial, with_peer, with_state, with_unknown}

-- The result of a message or an answer: the session after it, the messages to send, and the next
-- question, if any.
pub record Outcome : Type 0 where
  pub session : SessionState
  pub messages : List Message
  pub next : Option Stage

-- Sends messages and asks nothing.
abbrev pub sends : SessionState → List Message → Outcome
sends s sent = record { session = s; messages = sent; next = None }

-- Sends messages and then asks.
abbrev pub asks : SessionState → List Message → Stage → Outcome
asks s sent stage = record { session = s; messages = sent; next = Some stage }

-- Ends the session; sends and asks nothing.
abbrev pub ended : CloseReason → SessionState → Outcome
ended why s = sends (over why s) []

-- The end of an item or a tick. Once the handshake is complete, the session asks which queued
-- blocks are still needed if it has some and none is in flight. Otherwise it asks for news.
unfoldable pub ends : SessionState → List Message → Outcome
ends s sent =
    if not (is_ready s.state) then sends s sent
    else if is_due s.fetch then asks s sent Wanted
    else asks s sent Fresh

-- ---- what the peer tells about itself

-- Notes the last block heard of from the peer.
abbrev pub heard_of : Hash256 → SessionState → SessionState
heard_of hash s =
    with_marks (record { heard = Some hash; tip = s.marks.tip; next = s.marks.next }) s

-- The peer wants blocks announced by their headers (BIP 130).
abbrev pub by_headers : SessionState → SessionState
by_headers s =
    with_peer
    (record {
      version = s.peer.version;
      relays = s.peer.relays;
      by_headers = true;
      capable = s.peer.capable;
      wants_high = s.peer.wants_high;
    })
    s

-- The peer supports compact blocks of version 1. Another version is ignored (BIP 152).
abbrev pub by_compact : CompactRelay → SessionState → SessionState
by_compact relay s =
    if relay.version == 1
    then with_peer
    (record {
      version = s.peer.version;
      relays = s.peer.relays;
      by_headers = s.peer.by_headers;
      capable = true;
      wants_high = relay.high_bandwidth;
    })
    s
    else s

-- The answer to the peer's `version`: `verack`, and before it our `version` if the peer made the
-- connection.
abbrev pub greeting : Settings → List Message
greeting settings =
    if settings.inbound
    then our_version settings.nonce settings.time settings.height ∷ messages.Verack ∷ []
    else messages.Verack ∷ []

-- The peer's `version`. The session ends if its nonce is our own, or if the version is below 70001
-- (own). It tells whether the peer wants transactions to be announced (BIP 37).
unfoldable pub introduced : SessionState → Version → Outcome
introduced s version =
    if version.nonce == s.settings.nonce then ended reasons.SelfPeer s
    else if int_lt version.version (pos 70001) then ended reasons.OldPeer s
    else
    sends
    (with_state Greeted
    (with_peer
    (record {
      version = version.version;
      relays = version.relay;
      by_headers = s.peer.by_headers;
      capable = s.peer.capable;
      wants_high = s.peer.wants_high;
    })
    s))
    (greeting s.settings)

-- ---- a message that was admitted

-- A `block`: the session ends unless the block is sound. A mutated tree (CVE-2012-2459) ends it
-- too, though its root matches the header.
unfoldable pub brought : SessionState → Block → Outcome
brought s block =
    if is_sound_block block
    then asks
    (heard_of (block_hash block.header)
    (dropping (block_hash block.header) (landing (block_hash block.header) s)))
    [] (About subjects.Block)
    else ended reasons.BadBlock s

-- A block of a `notfound` is no longer in flight; it is named as a block or a compact block.
abbrev pub gives_up : FetchState → Inventory → FetchState
gives_up fetch (entry.Block hash) = landed hash fetch
gives_up fetch (entry.CompactBlock hash) = landed hash fetch
gives_up fetch other = fetch

abbrev pub given_up : List Inventory → FetchState → FetchState
given_up entries fetch = fold gives_up fetch entries

-- The hash of the last header.
abbrev pub last_hash : Header → List Header → Hash256
last_hash header [] = block_hash header
last_hash header (next ∷ others) = last_hash next others

-- ---- compact blocks (BIP 152)

-- A block that was rebuilt is given to the hall. It is no longer in flight.
abbrev pub gives : SessionState → Block → Outcome
gives s block = asks (landing (block_hash block.header) s) [] (Give block)

-- A compact block that can't be rebuilt is requested whole, or queued for download if 16 others are
-- in flight. If the queue is full, the header before it is remembered.
unfoldable pub falls_back : SessionState → Hash256 → Hash256 → Outcome
falls_back s hash before =
    ends (with_fallen hash before s) (if asks_now s.fetch hash then asking_block hash ∷ [] else [])

-- A `cmpctblock`: the hall is asked about its header. The session ends if a prefilled transaction
-- has a place past the block's end.
unfoldable pub short_heard : SessionState → HeaderAndShortIds → Outcome
short_heard s short =
    if has_places short.txs
    then asks (heard_of (block_hash short.header) s) [] (About subjects.Headers)
    else ended reasons.BadMessage s

-- The completed block is given to the hall, or requested whole if it isn't sound. The session ends
-- if not as many transactions came as were missing.
abbrev pub filled_by : SessionState → Hash256 → Hash256 → Result Filled Fault → Outcome
filled_by s hash before (Ok (Sound block)) = gives s block
filled_by s hash before (Ok Wrong) = falls_back s hash before
filled_by s hash before (Err fault) = ended reasons.BadMessage s

-- The block that is completed is no longer being rebuilt, whatever comes of it. Transactions of
-- another block are ignored.
abbrev pub completed_by : SessionState → BlockTransactions → Option Unfilled → Outcome
completed_by s given None = ends s []
completed_by s given (Some partial) =
    if same (block_hash partial.header) given.block
    then filled_by (with_partial None s) given.block partial.header.prev
    (completed_of partial given)
    else ends s []

-- A `blocktxn`: the transactions that a compact block lacked.
unfoldable pub txs_heard : SessionState → BlockTransactions → Outcome
txs_heard s given = completed_by s given s.compact.partial

-- A message once the handshake is complete. An empty `headers` answers a request for what is
-- unknown.
unfoldable pub in_ready : SessionState → Message → Outcome
in_ready s messages.SendHeaders = ends (by_headers s) []
in_ready s (messages.SendCmpct relay) = ends (by_compact relay s) []
in_ready s (messages.Headers []) = ends (with_unknown false s) []
in_ready s (messages.Headers (first ∷ others)) =
    asks (heard_of (last_hash first others) s) [] (About subjects.Headers)
in_ready s (messages.Inv entries) =
    if is_nil (told_of entries) then ends s [] else asks s [] (About subjects.Inventory)
in_ready s (messages.GetData entries) = asks s [] (About subjects.Items)
in_ready s (messages.GetHeaders request) = asks s [] (About subjects.After)
in_ready s (messages.NotFound entries) = ends (with_fetch (given_up entries s.fetch) s) []
in_ready s (messages.Tx tx) = asks s [] (About subjects.Tx)
in_ready s (messages.Block block) = brought s block
in_ready s (messages.CmpctBlock short) = short_heard s short
in_ready s (messages.GetBlockTxn request) = asks s [] (About subjects.Places)
in_ready s (messages.BlockTxn given) = txs_heard s given
in_ready s other = ends s []

-- A message before the peer's `version` has come. Anything but a `version` is ignored.
unfoldable pub in_start : SessionState → Message → Outcome
in_start s (messages.Version version) = introduced s version
in_start s other = sends s []

-- A message between the peer's `version` and its `verack`. `verack` completes the handshake;
-- `sendheaders` and `sendcmpct` are noted. Anything else is ignored.
unfoldable pub in_greeted : SessionState → Message → Outcome
in_greeted s messages.Verack =
    asks (with_state Ready s) (wishes s.peer.version) (About subjects.Locator)
in_greeted s messages.SendHeaders = sends (by_headers s) []
in_greeted s (messages.SendCmpct relay) = sends (by_compact relay s) []
in_greeted s other = sends s []

-- A message by the state of the handshake.
abbrev pub by_phase : State → SessionState → Message → Outcome
by_phase Start s message = in_start s message
by_phase Greeted s message = in_greeted s message
by_phase Ready s message = in_ready s message
by_phase other s message = sends s []

-- Any message. A `ping` is answered with its `pong` at any time (BIP 31; before the handshake:
-- own).
unfoldable pub received : SessionState → Message → Outcome
received s (messages.Ping nonce) = ends s (messages.Pong nonce ∷ [])
received s message = by_phase s.state s message

-- An admitted item, or an admitted tick if there is none.
unfoldable pub processed : SessionState → Option Item → Outcome
processed s None = ends s []
processed s (Some (Good message)) = received s message
processed s (Some Damaged) = ends s []
processed s (Some (Bad command fault)) = ended reasons.BadMessage s
