-- A session folded over the entries of its trace, with all that it sent and all that it was
-- answered.
use Rattle.std.specs.Prelude.{◌≡◌, ℕ, ◌+◌, ◌^◌, ◌==◌, Bool, false, List, [], ◌∷◌, ◌++◌, length, map, filter, fold, Option, Some, if◌then◌else◌}
use Rattle.std.specs.List.{list_any}
use Rattle.cb_wire.specs.declared.message.Message.{Message}
use Rattle.cb_hall.specs.Histories.{Reply}
use Rattle.cb_hall.specs.declared.question.Question.{Question}
use Rattle.cb_peer_state.specs.declared.settings.Settings.{Settings}
use Rattle.cb_peer_state.specs.declared.state.CloseReason.TheVariants as reasons
use Rattle.cb_peer_state.specs.declared.event.Event.{Event}
use Rattle.cb_peer_state.specs.declared.event.Event.TheVariants as events
use Rattle.cb_peer_state.specs.Questions.{pending_question}
use Rattle.cb_peer_state.specs.Event.{Kind, kind_of, is_beat, is_input}
use Rattle.cb_peer_state.specs.Session.{Stepped, openings, stays, closes, open_step}
use Rattle.cb_peer_state.specs.declared.session_state.SessionState.{SessionState}
use Rattle.cb_peer_state.specs.State.{is_closed, opening}
use Rattle.cb_trace.specs.declared.trace.TraceEntry.{TraceEntry}

-- A session after some entries: how many there were, what was sent, and the replies to its
-- questions, in order.
pub record Account : Type 0 where
  pub session : SessionState
  pub count : ℕ
  pub sent : List Message
  pub replies : List Reply

-- The step of one more entry. A session that is over stays as it is. Entry number 2^62 ends it, and
-- so does an entry that lacked memory; neither sends or asks anything.
abbrev pub entry_step : ℕ → SessionState → TraceEntry → Stepped
entry_step count s entry =
    if is_closed s.state then stays s
    else if count + 1 == 2 ^ 62 then closes reasons.TraceFull s
    else if entry.starved then closes reasons.Memory s
    else open_step s entry.event

-- The reply that an event is to the open question.
abbrev pub replies_to : Option Question → Event → List Reply
replies_to (Some question) (events.Told answer) =
    record { question = question; answer = answer } ∷ []
replies_to pending event = []

abbrev pub account_step : Account → TraceEntry → Account
account_step account entry =
    record {
      session = (entry_step account.count account.session entry).session;
      count = account.count + 1;
      sent = account.sent ++ (entry_step account.count account.session entry).messages;
      replies = account.replies ++ replies_to (pending_question account.session) entry.event;
    }

abbrev pub first_account : Settings → Account
first_account settings = record {
  session = opening settings;
  count = 0;
  sent = openings settings;
  replies = [];
}

-- The fold over all entries, from a new session.
unfoldable pub account_of : Settings → List TraceEntry → Account
account_of settings entries = fold account_step (first_account settings) entries

-- The session after the entries, the messages sent, and the replies.
abbrev pub session_of : Settings → List TraceEntry → SessionState
session_of settings entries = (account_of settings entries).session

abbrev pub sends : Settings → List TraceEntry → List Message
sends settings entries = (account_of settings entries).sent

abbrev pub replies : Settings → List TraceEntry → List Reply
replies settings entries = (account_of settings entries).replies

-- Each entry found a session that wasn't over: none follows the one that ends it.
abbrev pub EachOpen : Account → List TraceEntry → Type 0
EachOpen account [] = Unit {0}
EachOpen account (entry ∷ entries) =
    (is_closed account.session.state ≡ false) × EachOpen (account_step account entry) entries

-- Whether some entry's event is of such a kind.
abbrev pub has_kind : (Kind → Bool) → List TraceEntry → Bool
has_kind test entries = list_any (λ entry. test (kind_of entry.event)) entries

-- The number of entries whose event is of such a kind.
abbrev pub number_of : (Kind → Bool) → List TraceEntry → ℕ
number_of test entries = length (filter (λ entry. test (kind_of entry.event)) entries)

-- The timer events, in order: ticks and probes.
abbrev pub beats_of : List TraceEntry → List Event
beats_of entries = filter (λ event. is_beat (kind_of event)) (map (λ entry. entry.event) entries)

-- The inputs from the peer, in order: items, a fault of the stream, its end.
abbrev pub inputs_of : List TraceEntry → List Event
inputs_of entries = filter (λ event. is_input (kind_of event)) (map (λ entry. entry.event) entries)
