-- What a prompt trace that ended by the peer's end sent, and what a session was given.
use Rattle.std.proofs.Common.{◌≡◌, ℕ, ◌<◌, ◌≢◌, Bool, true, false, cond, List, [], ◌∷◌, ◌++◌, Option, Some, None, refl, sym, ap, ◌∙◌, append_assoc, arith, inl, inr, ◌⊎◌}
use Rattle.std.specs.List.{fold}
use Rattle.std.proofs.lemmas.List.{append-nil}
use Rattle.std.proofs.lemmas.List.Elements.{filter_map-append}
use Rattle.cb_hall.specs.declared.answer.Answer.{Answer}
use Rattle.cb_wire.specs.declared.item.Item.{Item}
use Rattle.cb_wire.specs.declared.item.Item.TheVariants.{Good}
use Rattle.cb_wire.specs.declared.message.Message.{Message}
use Rattle.cb_wire.specs.declared.message.Message.TheVariants as messages
use Rattle.cb_peer_state.specs.declared.stage.Stage.{Stage}
use Rattle.cb_peer_state.specs.declared.stage.Stage.TheVariants.{Admit, About, Match, Give, Wanted, Fresh}
use Rattle.cb_peer_state.specs.declared.settings.Settings.{Settings}
use Rattle.cb_peer_state.specs.declared.pending.Pending.{Pending}
use Rattle.cb_peer_state.specs.declared.state.State.{State}
use Rattle.cb_peer_state.specs.declared.state.State.TheVariants.{Closed}
use Rattle.cb_peer_state.specs.declared.state.CloseReason.{CloseReason}
use Rattle.cb_peer_state.specs.declared.state.CloseReason.TheVariants as reasons
use Rattle.cb_peer_state.specs.declared.event.Event.{Event}
use Rattle.cb_peer_state.specs.declared.event.Event.TheVariants as events
use Rattle.cb_peer_state.specs.Questions.{fits, question_left, question_of}
use Rattle.cb_peer_state.specs.Event.{begins, is_input, kind_of}
use Rattle.cb_peer_state.specs.Pings.{event_ping, item_ping, pings, pong_nonce, pongs}
use Rattle.cb_peer_state.specs.Receiving.{Outcome}
use Rattle.cb_peer_state.specs.Replying.{answered}
use Rattle.cb_peer_state.specs.Session.{Stepped, arrives, for_item, open_step, openings, pending_of, pinged, stays, told}
use Rattle.cb_peer_state.specs.declared.session_state.SessionState.{SessionState}
use Rattle.cb_peer_state.specs.State.{freed, is_closed, is_ready}
use Rattle.cb_peer_state.proofs.Cases.{by_test}
use Rattle.cb_peer_state.proofs.Steps.{Comes, Fixed, answered_comes, fixed_of, goes, next_left, nonces_of, owed_at, owed_by, stops}
use Rattle.cb_trace.specs.declared.trace.TraceEntry.{TraceEntry}
use Rattle.cb_trace.specs.Fold.{Account, EachOpen, account_of, account_step, entry_step, first_account, inputs_of, session_of}
use Rattle.cb_trace.specs.Prompt.{EachPrompt}
use Rattle.cb_trace.specs.Laws.{AnswersPings, EndsPromptly}
use Rattle.cb_trace.proofs.Entries.{entry_over, entry_settings}
use Rattle.cb_trace.proofs.Folds.{entry_cases}

-- ---- what is owed

-- the pongs that are owed by what is pending
abbrev pub owed : Option Pending → List ℕ
owed None = []
owed (Some pending) = owed_at pending.stage pending.item

-- the session goes on, or the peer ended it
abbrev pub IsFine : State → Type 0
IsFine state = (is_closed state ≡ false) ⊎ (state ≡ Closed reasons.Bye)

-- the pongs that a step sends, and those that are owed after it, are the ones that were owed before it and by what came
abbrev pub Settles : List ℕ → Stepped → Type 0
Settles due made = IsFine made.session.state → due ≡ pongs made.messages ++ owed made.session.pending

-- a session that ended for another reason isn't fine
no_bye : {P : Type 0} (state : State) → is_closed state ≡ true → state ≢ Closed reasons.Bye → IsFine state → P
no_bye state closed other (inl going) = absurd (let clash = sym closed ∙ going in cc)
no_bye state closed other (inr bye) = absurd (other bye)

reason_is : (a b : CloseReason) → Closed a ≡ Closed b → a ≡ b
reason_is a b e = cc

-- ---- the step of a session that goes on

arrives_settles : (pending : Option Pending) (s : SessionState) (item : Option Item) → pending ≡ None → Settles (owed pending ++ owed_by item) (arrives pending s item)
arrives_settles None s item free fine = refl
arrives_settles (Some other) s item free fine = absurd cc

-- nothing is owed but before the hall's leave
owed_next : (item : Option Item) (next : Option Stage) → next_left next < 6 → owed (pending_of item next) ≡ []
owed_next item None few = refl
owed_next item (Some Admit) few = absurd (omega (arith, few))
owed_next item (Some (About subject)) few = refl
owed_next item (Some Match) few = refl
owed_next item (Some (Give block)) few = refl
owed_next item (Some Wanted) few = refl
owed_next item (Some Fresh) few = refl

left_most : (stage : Stage) (n : ℕ) → n < question_left stage → n < 6
left_most Admit n few = few
left_most (About subject) n few = omega (arith, few)
left_most Match n few = omega (arith, few)
left_most (Give block) n few = omega (arith, few)
left_most Wanted n few = omega (arith, few)
left_most Fresh n few = omega (arith, few)

outcome_settles : (fixed : Fixed) (item : Option Item) (stage : Stage) (outcome : Outcome) → Comes fixed (question_left stage) (owed_at stage item) outcome → Settles (owed_at stage item) (for_item item outcome)
outcome_settles fixed item stage outcome (goes going same next sent) fine =
    sym sent ∙ sym (append-nil (pongs outcome.messages)) ∙ ap (λ (ns : List ℕ). pongs outcome.messages ++ ns) (sym (owed_next item outcome.next (left_most stage (next_left outcome.next) next)))
outcome_settles fixed item stage outcome (stops why other e) fine =
    no_bye outcome.session.state (ap (λ (p : Outcome). is_closed p.session.state) e) (λ bye. other (reason_is why reasons.Bye (ap (λ (p : Outcome). p.session.state) (sym e) ∙ bye))) fine

told_settles : (pending : Option Pending) (s : SessionState) (answer : Answer) → is_closed s.state ≡ false → s.pending ≡ pending → Settles (owed pending) (told pending s answer)
told_settles None s answer going same = λ fine. sym (ap owed same)
told_settles (Some pending) s answer going same =
    let outcome : Outcome = answered (freed s) pending.item pending.stage answer in
    let by_fit : (b : Bool) → fits (question_of s pending.item pending.stage) answer ≡ b → Settles (owed (Some pending)) (cond b (for_item pending.item outcome) (stays s)) =
    elim [
      | true ↦ λ fit. outcome_settles (fixed_of s) pending.item pending.stage outcome (answered_comes s (freed s) pending.item pending.stage answer fit going)
      | false ↦ λ fit fine. sym (ap owed same)
    ] in
    by_fit (fits (question_of s pending.item pending.stage) answer) refl

-- what is owed before an event and by it
abbrev pub due_at : SessionState → Event → List ℕ
due_at s event = owed s.pending ++ nonces_of (event_ping event)

open_settles : (s : SessionState) (event : Event) → is_closed s.state ≡ false → (begins (kind_of event) ≡ true → s.pending ≡ None) → Settles (due_at s event) (open_step s event)
unfolding open_step
open_settles s (events.Said item) going prompt fine = arrives_settles s.pending s (Some item) (prompt refl) fine
open_settles s (events.Broken fault) going prompt fine = no_bye (Closed reasons.BadStream) refl (λ e. cc) fine
open_settles s events.Tick going prompt fine = arrives_settles s.pending s None (prompt refl) fine
open_settles s events.Probe going prompt fine =
    by_test (Settles (due_at s events.Probe)) (is_ready s.state) (pinged s) (stays s) (λ _ _. append-nil (owed s.pending)) (λ _ _. append-nil (owed s.pending)) fine
open_settles s (events.Told answer) going prompt fine = append-nil (owed s.pending) ∙ told_settles s.pending s answer going refl fine
open_settles s events.ReaderEnd going prompt fine = append-nil (owed s.pending) ∙ ap owed (prompt refl)
open_settles s events.NoMemory going prompt fine = no_bye (Closed reasons.Memory) refl (λ e. cc) fine
open_settles s events.HallFull going prompt fine = no_bye (Closed reasons.HallFull) refl (λ e. cc) fine
open_settles s events.WriteFault going prompt fine = no_bye (Closed reasons.WriteFault) refl (λ e. cc) fine

entry_settles : (count : ℕ) (s : SessionState) (entry : TraceEntry) → is_closed s.state ≡ false → (begins (kind_of entry.event) ≡ true → s.pending ≡ None) → Settles (due_at s entry.event) (entry_step count s entry)
entry_settles count s entry going prompt =
    entry_cases (Settles (due_at s entry.event)) count s entry going (λ full fine. no_bye (Closed reasons.TraceFull) refl (λ e. cc) fine) (λ more starved fine. no_bye (Closed reasons.Memory) refl (λ e. cc) fine)
    (λ more fed. open_settles s entry.event going prompt)

-- ---- over all entries

-- an item among what came
ping_more : (item : Item) (later : List Event) → pings (events.Said item ∷ later) ≡ nonces_of (item_ping item) ++ pings later
ping_more (Good (messages.Ping nonce)) later = refl
ping_more (Good other) later = refl
ping_more other later = refl

pings_more : (event : Event) (later : List Event) → pings (cond (is_input (kind_of event)) (event ∷ later) later) ≡ nonces_of (event_ping event) ++ pings later
pings_more (events.Said item) later = ping_more item later
pings_more (events.Broken fault) later = refl
pings_more events.Tick later = refl
pings_more events.Probe later = refl
pings_more (events.Told answer) later = refl
pings_more events.ReaderEnd later = refl
pings_more events.NoMemory later = refl
pings_more events.HallFull later = refl
pings_more events.WriteFault later = refl

abbrev pub EndsBye : Account → List TraceEntry → Type 0
EndsBye account entries = (fold account_step account entries).session.state ≡ Closed reasons.Bye

-- no entry comes behind the end, so a session is fine before the rest of them
fine_before : (account : Account) (entries : List TraceEntry) → EachOpen account entries → EndsBye account entries → IsFine account.session.state
fine_before account [] each bye = inr bye
fine_before account (entry ∷ entries) each bye = inl each.0

-- one entry moves what is owed to what was sent
one_sent : (sent messages due after rest new : List ℕ) → due ++ new ≡ messages ++ after → (sent ++ messages) ++ (after ++ rest) ≡ sent ++ (due ++ (new ++ rest))
one_sent sent messages due after rest new settled =
    append_assoc sent messages (after ++ rest)
    ∙ ap (λ (l : List ℕ). sent ++ l) (sym (append_assoc messages after rest) ∙ ap (λ (l : List ℕ). l ++ rest) (sym settled) ∙ append_assoc due new rest)

sent_from : (account : Account) (entries : List TraceEntry) → EachOpen account entries → EachPrompt account entries → EndsBye account entries → (is_closed account.session.state ≡ true → account.session.pending ≡ None)
    → pongs (fold account_step account entries).sent ≡ pongs account.sent ++ (owed account.session.pending ++ pings (inputs_of entries))
sent_from account [] each prompt bye clear =
    sym (append-nil (pongs account.sent)) ∙ ap (λ (pending : Option Pending). pongs account.sent ++ (owed pending ++ [])) (sym (clear (ap is_closed bye)))
sent_from account (entry ∷ entries) each prompt bye clear =
    let made = entry_step account.count account.session entry in
    let fine = fine_before (account_step account entry) entries each.1 bye in
    sent_from (account_step account entry) entries each.1 prompt.1 bye (λ closed. (entry_over account.count account.session entry each.0 closed).clear)
    ∙ ap (λ (ns : List ℕ). ns ++ (owed made.session.pending ++ pings (inputs_of entries))) (filter_map-append pong_nonce account.sent made.messages)
    ∙ one_sent (pongs account.sent) (pongs made.messages) (owed account.session.pending) (owed made.session.pending) (pings (inputs_of entries)) (nonces_of (event_ping entry.event)) (entry_settles account.count account.session entry each.0 prompt.0 fine)
    ∙ ap (λ (ns : List ℕ). pongs account.sent ++ (owed account.session.pending ++ ns)) (sym (pings_more entry.event (inputs_of entries)))

opening_by : (b : Bool) (first : Message) → pong_nonce first ≡ None → pongs (cond b [] (first ∷ [])) ≡ []
opening_by true first e = refl
opening_by false (messages.Pong nonce) e = absurd cc
opening_by false other e = refl

openings_plain : (settings : Settings) → pongs (openings settings) ≡ []
openings_plain settings = opening_by settings.inbound _ refl

pub answers_pings : (settings : Settings) (entries : List TraceEntry) → EndsPromptly settings entries → AnswersPings settings entries
unfolding account_of
answers_pings settings entries ends =
    sent_from (first_account settings) entries ends.each_open ends.each_prompt ends.bye (λ closed. refl) ∙ ap (λ (ns : List ℕ). ns ++ pings (inputs_of entries)) (openings_plain settings)

-- ---- what a session was given

settings_fold : (account : Account) (entries : List TraceEntry) → (fold account_step account entries).session.settings ≡ account.session.settings
settings_fold account [] = refl
settings_fold account (entry ∷ entries) = settings_fold (account_step account entry) entries ∙ entry_settings account.count account.session entry

pub settings_same : (settings : Settings) (entries : List TraceEntry) → (session_of settings entries).settings ≡ settings
unfolding account_of
settings_same settings entries = settings_fold (first_account settings) entries
