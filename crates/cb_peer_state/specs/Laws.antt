-- The terms of the laws for every session, in the words of the protocol.
use Rattle.std.specs.Prelude.{◌&&◌, Bool, true, false, not, List, filter, Option, None, Some}
use Rattle.std.specs.List.{list_any}
use Rattle.cb_base.specs.declared.hash.Hash256.{Hash256}
use Rattle.cb_chain.specs.Entries.{block_hash, same}
use Rattle.cb_compact.specs.Slots.{Unfilled}
use Rattle.cb_hall.specs.declared.answer.Answer.{Answer}
use Rattle.cb_hall.specs.declared.answer.Answer.TheVariants.{Following, Go, Pairs}
use Rattle.cb_wire.specs.declared.compact_block.HeaderAndShortIds.{HeaderAndShortIds}
use Rattle.cb_wire.specs.declared.inventory.Inventory.{Inventory}
use Rattle.cb_wire.specs.declared.inventory.Inventory.TheVariants as entry
use Rattle.cb_wire.specs.declared.item.Item.{Item}
use Rattle.cb_wire.specs.declared.item.Item.TheVariants.{Good}
use Rattle.cb_wire.specs.declared.message.Message.{Message}
use Rattle.cb_wire.specs.declared.message.Message.TheVariants as messages
use Rattle.cb_peer_state.specs.declared.event.Event.{Event}
use Rattle.cb_peer_state.specs.declared.event.Event.TheVariants as events
use Rattle.cb_peer_state.specs.declared.pending.Pending.{Pending}
use Rattle.cb_peer_state.specs.declared.settings.Settings.{Settings}
use Rattle.cb_peer_state.specs.declared.stage.Stage.{Stage}
use Rattle.cb_peer_state.specs.declared.stage.Stage.TheVariants.{Admit, Match}
use Rattle.cb_peer_state.specs.declared.state.CloseReason.{CloseReason}
use Rattle.cb_peer_state.specs.Questions.{short_in}
use Rattle.cb_peer_state.specs.Session.{step_of}
use Rattle.cb_peer_state.specs.declared.session_state.SessionState.{SessionState}
use Rattle.cb_peer_state.specs.State.{is_partial, opening, over}

-- A reachable session: events lead to it from a new one. It may be ended at any time.
pub data IsReached : SessionState → Type 0 where
  opens : (settings : Settings) → IsReached (opening settings)
  steps : (s : SessionState) (event : Event) → IsReached s → IsReached (step_of s event).session
  stops : (s : SessionState) (why : CloseReason) → IsReached s → IsReached (over why s)

-- A `version`, a `verack` or a `ping`.
abbrev pub greets : Message → Bool
greets (messages.Version version) = true
greets messages.Verack = true
greets (messages.Ping nonce) = true
greets other = false

abbrev pub asks_for_headers : Message → Bool
asks_for_headers (messages.GetHeaders request) = true
asks_for_headers other = false

-- The messages but for a `getheaders`.
abbrev pub but_headers : List Message → List Message
but_headers sent = filter (λ message. not (asks_for_headers message)) sent

-- How the peer wants blocks announced: `sendheaders` or `sendcmpct`.
abbrev pub wishes_for : Message → Bool
wishes_for messages.SendHeaders = true
wishes_for (messages.SendCmpct relay) = true
wishes_for other = false

-- The hall's answer to a `getheaders` of the peer.
abbrev pub is_following : Event → Bool
is_following (events.Told (Following headers)) = true
is_following other = false

abbrev pub is_headers : Message → Bool
is_headers (messages.Headers headers) = true
is_headers other = false

-- A `getdata` entry for the block with this hash, as a block or a compact block.
abbrev pub names_block : Hash256 → Inventory → Bool
names_block hash (entry.Block other) = same hash other
names_block hash (entry.CompactBlock other) = same hash other
names_block hash other = false

abbrev pub asks_for_block : Hash256 → Message → Bool
asks_for_block hash (messages.GetData entries) = list_any (names_block hash) entries
asks_for_block hash other = false

-- ---- an answer by which the block with this hash is rebuilt, or seen not to be (BIP 152)

abbrev pub is_short_of : Hash256 → Option HeaderAndShortIds → Bool
is_short_of hash None = false
is_short_of hash (Some short) = same hash (block_hash short.header)

-- A `blocktxn` of the block that is being rebuilt.
abbrev pub completes : Hash256 → Option Unfilled → Option Item → Bool
completes hash partial (Some (Good (messages.BlockTxn given))) =
    same hash given.block && is_partial given.block partial
completes hash partial item = false

-- The mempool's transactions for a compact block, or the hall's leave for a `blocktxn`.
abbrev pub rebuilds_by : Hash256 → Option Unfilled → Option Item → Stage → Answer → Bool
rebuilds_by hash partial item Match (Pairs pairs) = is_short_of hash (short_in item)
rebuilds_by hash partial item Admit Go = completes hash partial item
rebuilds_by hash partial item stage answer = false

abbrev pub rebuilds_at : Hash256 → SessionState → Answer → Option Pending → Bool
rebuilds_at hash s answer None = false
rebuilds_at hash s answer (Some pending) =
    rebuilds_by hash s.compact.partial pending.item pending.stage answer

abbrev pub rebuilds : Hash256 → SessionState → Event → Bool
rebuilds hash s (events.Told answer) = rebuilds_at hash s answer s.pending
rebuilds hash s other = false
