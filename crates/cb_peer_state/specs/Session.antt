-- One step of a session: the session after an event, what it sends, and what it asks the hall
-- (Bitcoin's peer-to-peer protocol). Receiving says how messages are handled, Replying how answers
-- are.
use Rattle.std.specs.Prelude.{Bool, true, false, not, ◌&&◌, ◌||◌, List, [], ◌∷◌, Option, Some, None, option_map, if◌then◌else◌}
use Rattle.cb_base.specs.declared.hash.Hash256.{Hash256}
use Rattle.cb_base.specs.declared.fault.Fault.{Fault}
use Rattle.cb_block.specs.Decision.{is_hashed}
use Rattle.cb_block.specs.declared.header.Header.{Header}
use Rattle.cb_wire.specs.declared.compact_block.HeaderAndShortIds.{HeaderAndShortIds}
use Rattle.cb_wire.specs.declared.item.Item.{Item}
use Rattle.cb_wire.specs.declared.message.Message.{Message}
use Rattle.cb_wire.specs.declared.item.Item.TheVariants.{Good}
use Rattle.cb_wire.specs.declared.message.Message.TheVariants as messages
use Rattle.cb_hall.specs.declared.answer.Answer.{Answer}
use Rattle.cb_hall.specs.declared.answer.Answer.TheVariants as answers
use Rattle.cb_hall.specs.declared.question.Question.{Question}
use Rattle.cb_hall.specs.declared.question.Question.TheVariants as questions
use Rattle.cb_peer_state.specs.Greeting.{our_version}
use Rattle.cb_peer_state.specs.declared.stage.Stage.{Stage}
use Rattle.cb_peer_state.specs.declared.stage.Stage.TheVariants.{Admit, About, Fresh, Give, Match}
use Rattle.cb_peer_state.specs.declared.event.Event.{Event}
use Rattle.cb_peer_state.specs.declared.event.Event.TheVariants as events
use Rattle.cb_peer_state.specs.declared.settings.Settings.{Settings}
use Rattle.cb_peer_state.specs.declared.pending.Pending.{Pending}
use Rattle.cb_peer_state.specs.declared.state.CloseReason.{CloseReason}
use Rattle.cb_peer_state.specs.declared.state.CloseReason.TheVariants as reasons
use Rattle.cb_peer_state.specs.declared.state.State.{State}
use Rattle.cb_peer_state.specs.declared.state.State.TheVariants.{Ready}
use Rattle.cb_peer_state.specs.Questions.{fits, is_nil, question_of, short_in}
use Rattle.cb_peer_state.specs.Replying.{answered, header_in, is_orphan, is_workless}
use Rattle.cb_peer_state.specs.Receiving.{Outcome, asks}
use Rattle.cb_peer_state.specs.declared.session_state.SessionState.{SessionState}
use Rattle.cb_peer_state.specs.State.{awaits, freed, is_closed, is_count_of, is_partial, is_ready, next_ping, over, with_pending, with_probe, with_unknown}

-- The result of a step: the session after it, the messages to send, and the question to ask.
pub record Stepped : Type 0 where
  pub session : SessionState
  pub messages : List Message
  pub question : Option Question

-- The messages that open a session: our `version` if this node made the connection.
abbrev pub openings : Settings → List Message
openings settings =
    if settings.inbound then [] else our_version settings.nonce settings.time settings.height ∷ []

-- Nothing changes, and nothing is sent or asked.
abbrev pub stays : SessionState → Stepped
stays s = record { session = s; messages = []; question = None }

-- The session is over, and nothing is sent or asked.
abbrev pub closes : CloseReason → SessionState → Stepped
closes why s = stays (over why s)

-- The open question with its item.
abbrev pub pending_of : Option Item → Option Stage → Option Pending
pending_of item next = option_map (λ stage. record { item = item; stage = stage }) next

-- The result of handling an item, or a tick if there is none.
abbrev pub for_item : Option Item → Outcome → Stepped
for_item item outcome =
    record {
      session = with_pending (pending_of item outcome.next) outcome.session;
      messages = outcome.messages;
      question = option_map (question_of outcome.session item) outcome.next;
    }

-- An item or a tick asks for admission. It is ignored while a question is open.
abbrev pub arrives : Option Pending → SessionState → Option Item → Stepped
arrives None s item = for_item item (asks s [] Admit)
arrives (Some other) s item = stays s

-- A session ignores an answer that doesn't fit its open question.
abbrev pub told : Option Pending → SessionState → Answer → Stepped
told None s answer = stays s
told (Some pending) s answer =
    if fits (question_of s pending.item pending.stage) answer
    then for_item pending.item (answered (freed s) pending.item pending.stage answer)
    else stays s

-- One `ping` with the next nonce is sent (BIP 31). Nothing is asked, and an open question stays
-- open. A request for what is unknown counts no more, so another may be sent.
abbrev pub pinged : SessionState → Stepped
pinged s =
    record {
      session = with_unknown false (with_probe s);
      messages = messages.Ping (next_ping s) ∷ [];
      question = None;
    }

-- A probe pings the peer once the handshake is complete.
abbrev pub probed : SessionState → Stepped
probed s = if is_ready s.state then pinged s else stays s

unfoldable pub open_step : SessionState → Event → Stepped
open_step s (events.Said item) = arrives s.pending s (Some item)
open_step s (events.Broken fault) = closes reasons.BadStream s
open_step s events.Tick = arrives s.pending s None
open_step s events.Probe = probed s
open_step s (events.Told answer) = told s.pending s answer
open_step s events.ReaderEnd = closes reasons.Bye s
open_step s events.NoMemory = closes reasons.Memory s
open_step s events.HallFull = closes reasons.HallFull s
open_step s events.WriteFault = closes reasons.WriteFault s

-- One step. A session that is over changes and sends nothing.
unfoldable pub step_of : SessionState → Event → Stepped
step_of s event = if is_closed s.state then stays s else open_step s event

-- An event whose step takes no memory.
abbrev pub takes_no_memory : Event → Bool
takes_no_memory (events.Said item) = false
takes_no_memory events.Probe = false
takes_no_memory (events.Told answers.Kicked) = true
takes_no_memory (events.Told other) = false
takes_no_memory other = true

-- ---- answers that take no memory

-- What is hashed of an admitted message once the handshake is complete: a block that has
-- transactions, none of 64 bytes, and transactions of the block that is being rebuilt, if they are
-- as many as it lacks.
abbrev pub weighs_ready : SessionState → Message → Bool
weighs_ready s (messages.Block block) = is_hashed block
weighs_ready s (messages.BlockTxn given) =
    is_partial given.block s.compact.partial && is_count_of given.txs s.compact.partial
weighs_ready s other = false

-- Before that nothing is hashed.
abbrev pub weighs_heard : State → SessionState → Message → Bool
weighs_heard Ready s message = weighs_ready s message
weighs_heard other s message = false

abbrev pub weighs_admitted : SessionState → Option Item → Bool
weighs_admitted s (Some (Good message)) = weighs_heard s.state s message
weighs_admitted s item = false

-- A compact block is rebuilt.
abbrev pub weighs_short : Option HeaderAndShortIds → Bool
weighs_short None = false
weighs_short (Some short) = true

-- A transaction is hashed, because it isn't announced to its own peer.
abbrev pub weighs_txids : Option Item → List Hash256 → Bool
weighs_txids (Some (Good (messages.Tx tx))) txids = not (is_nil txids)
weighs_txids item txids = false

-- An answer that lists needed entries, or missing blocks unless a header has no work.
abbrev pub weighs_answer : Answer → Bool
weighs_answer (answers.Heads heads) = not (is_workless heads.refused) && not (is_nil heads.lack)
weighs_answer (answers.Need need) = not (is_nil need.entries)
weighs_answer answer = false

-- A block that came before its parent is queued for download.
abbrev pub weighs_child : SessionState → Option Header → Option Fault → Bool
weighs_child s (Some header) refused = is_orphan refused && awaits s header.prev
weighs_child s None refused = false

-- What an answer leads to at a stage is hashed, copied or listed.
abbrev pub weighs_at : SessionState → Option Item → Stage → Answer → Bool
weighs_at s item (About subject) (answers.Taken taken) =
    weighs_child s (header_in item) taken.refused
weighs_at s item (Give block) (answers.Taken taken) =
    weighs_child s (Some block.header) taken.refused
weighs_at s item Admit answers.Go = weighs_admitted s item
weighs_at s item Match (answers.Pairs pairs) = weighs_short (short_in item)
weighs_at s item Fresh (answers.News news) = weighs_txids item news.txids
weighs_at s item stage answer = weighs_answer answer

-- The item whose question is open, if there is one.
abbrev pub pending_item : Option Pending → Option Item
pending_item None = None
pending_item (Some pending) = pending.item

abbrev pub spares_pending : Option Pending → SessionState → Answer → Bool
spares_pending None s answer = true
spares_pending (Some pending) s answer =
    not (fits (question_of s pending.item pending.stage) answer)
    || not (weighs_at (freed s) pending.item pending.stage answer)

-- A probe, an answer that doesn't fit, or one that leads to nothing that is hashed, copied or
-- listed. It takes no memory if nothing is sent to it and nothing is asked but for the locator or
-- what is new (`is_light`).
abbrev pub spares : SessionState → Event → Bool
spares s (events.Told answer) = spares_pending s.pending s answer
spares s events.Probe = true
spares s other = false

abbrev pub is_light : Option Question → Bool
is_light None = true
is_light (Some questions.Locator) = true
is_light (Some (questions.News since)) = true
is_light (Some other) = false
