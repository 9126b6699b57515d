-- A peer that didn't ask to be told of blocks by their headers was sent those that it asked for alone.
use Rattle.std.proofs.Common.{◌≡◌, ℕ, ◌+◌, ◌≤◌, true, false, cond, ◌||◌, List, [], ◌∷◌, ◌++◌, Option, Some, None, length, refl, sym, ap, subst, ◌∙◌, append-nil, append_assoc, arith, inl, inr}
use Rattle.std.specs.Prelude.{filter_map}
use Rattle.std.specs.List.{fold, list_any}
use Rattle.std.proofs.lemmas.Bool.{cases_Bool, or_parts}
use Rattle.std.proofs.lemmas.List.{length-append}
use Rattle.std.proofs.lemmas.List.Elements.{filter_map-append}
use Rattle.cb_block.specs.declared.header.Header.{Header}
use Rattle.cb_hall.specs.Histories.{Reply}
use Rattle.cb_hall.specs.declared.answer.Answer.{Answer}
use Rattle.cb_hall.specs.declared.answer.Answer.TheVariants as answers
use Rattle.cb_hall.specs.declared.question.Question.{Question}
use Rattle.cb_hall.specs.declared.question.Question.TheVariants as questions
use Rattle.cb_hall.specs.declared.question.Request.TheVariants.{After}
use Rattle.cb_wire.specs.declared.item.Item.{Item}
use Rattle.cb_wire.specs.declared.message.Message.{Message}
use Rattle.cb_wire.specs.declared.message.Message.TheVariants as messages
use Rattle.cb_peer_state.specs.declared.stage.Stage.{Stage}
use Rattle.cb_peer_state.specs.declared.stage.Stage.TheVariants.{Admit, About, Match, Give, Wanted, Fresh}
use Rattle.cb_peer_state.specs.declared.event.Event.{Event}
use Rattle.cb_peer_state.specs.declared.event.Event.TheVariants as events
use Rattle.cb_peer_state.specs.declared.settings.Settings.{Settings}
use Rattle.cb_peer_state.specs.declared.pending.Pending.{Pending}
use Rattle.cb_peer_state.specs.declared.state.CloseReason.{CloseReason}
use Rattle.cb_peer_state.specs.declared.state.Peer.{Peer}
use Rattle.cb_peer_state.specs.declared.state.State.{State}
use Rattle.cb_peer_state.specs.Questions.{fits, question_at, question_of, pending_question}
use Rattle.cb_peer_state.specs.Event.{is_input, is_told, kind_of}
use Rattle.cb_peer_state.specs.Laws.{is_following, is_headers}
use Rattle.cb_peer_state.specs.Receiving.{Outcome, ends}
use Rattle.cb_peer_state.specs.Replying.{answered, replied, resuming}
use Rattle.cb_peer_state.specs.Session.{Stepped, arrives, closes, for_item, open_step, openings, pending_item, pending_of, pinged, stays, told}
use Rattle.cb_peer_state.specs.declared.session_state.SessionState.{SessionState}
use Rattle.cb_peer_state.specs.State.{freed, is_closed, is_ready}
use Rattle.cb_peer_state.proofs.LawLemmas.{no_headers_unasked}
use Rattle.cb_peer_state.proofs.Cases.{by_test, sent_at_end}
use Rattle.cb_peer_state.proofs.Resuming.{resuming_cases}
use Rattle.cb_peer_state.proofs.Behind.{found_more}
use Rattle.cb_peer_state.proofs.Steps.{no_question, open_over}
use Rattle.cb_trace.specs.declared.trace.TraceEntry.{TraceEntry}
use Rattle.cb_trace.specs.Fold.{Account, account_of, account_step, entry_step, first_account, inputs_of, replies, replies_to, sends, session_of}
use Rattle.cb_trace.specs.Whole.{SendsWhatFollows, following, following_in, headers_in, says_send_headers}
use Rattle.cb_trace.proofs.Hears.{Hears, answered_hears, greets, item_wishes, keeps, readies, stops}
use Rattle.cb_trace.proofs.Quiet.{NoneOf}
use Rattle.cb_trace.proofs.Reached.{open_is, step_cases}

-- ---- a peer that didn't ask

-- It isn't told of blocks by their headers, and doesn't ask for it by the item that is pending.
pub record IsUnasked (s : SessionState) : Type 0 where
  pub plain : s.peer.by_headers ≡ false
  pub item : item_wishes (pending_item s.pending) ≡ false

pending_wishes : (item : Option Item) (next : Option Stage) → item_wishes item ≡ false → item_wishes (pending_item (pending_of item next)) ≡ false
pending_wishes item None e = refl
pending_wishes item (Some stage) e = e

outcome_plain : (state : State) (peer : Peer) (item : Option Item) (outcome : Outcome) → Hears state peer item outcome → item_wishes item ≡ false → peer.by_headers ≡ false → outcome.session.peer.by_headers ≡ false
outcome_plain state peer item outcome (keeps at of by silent) e plain = by e ∙ plain
outcome_plain state peer item outcome (greets from to by silent) e plain = by ∙ plain
outcome_plain state peer item outcome (readies from to of sent next) e plain = ap (λ (p : Peer). p.by_headers) of ∙ plain
outcome_plain state peer item outcome (stops why to of sent next) e plain = ap (λ (p : Peer). p.by_headers) of

told_unasked : (pending : Option Pending) (s : SessionState) (answer : Answer) → item_wishes (pending_item pending) ≡ false → IsUnasked s → IsUnasked (told pending s answer).session
told_unasked None s answer e un = un
told_unasked (Some pending) s answer e un =
    let outcome : Outcome = answered (freed s) pending.item pending.stage answer in
    elim (cases_Bool (fits (question_of s pending.item pending.stage) answer)) [
      | inl fit ↦ rw fit (record { plain = outcome_plain s.state s.peer pending.item outcome (answered_hears (freed s) pending.item pending.stage answer) e un.plain; item = pending_wishes pending.item outcome.next e })
      | inr misfit ↦ rw misfit un
    ]

arrives_unasked : (pending : Option Pending) (s : SessionState) (item : Option Item) → item_wishes item ≡ false → IsUnasked s → IsUnasked (arrives pending s item).session
arrives_unasked None s item e un = record { plain = un.plain; item = e }
arrives_unasked (Some other) s item e un = un

closes_unasked : (s : SessionState) (why : CloseReason) → IsUnasked (closes why s).session
closes_unasked s why = record { plain = refl; item = refl }

open_unasked : (s : SessionState) (event : Event) → says_send_headers event ≡ false → IsUnasked s → IsUnasked (open_step s event).session
unfolding open_step
open_unasked s (events.Said item) e un = arrives_unasked s.pending s (Some item) e un
open_unasked s (events.Broken fault) e un = closes_unasked s _
open_unasked s events.Tick e un = arrives_unasked s.pending s None refl un
open_unasked s events.Probe e un = by_test (λ (made : Stepped). IsUnasked made.session) (is_ready s.state) (pinged s) (stays s) (λ _. record { plain = un.plain; item = un.item }) (λ _. un)
open_unasked s (events.Told answer) e un = told_unasked s.pending s answer un.item un
open_unasked s events.ReaderEnd e un = closes_unasked s _
open_unasked s events.NoMemory e un = closes_unasked s _
open_unasked s events.HallFull e un = closes_unasked s _
open_unasked s events.WriteFault e un = closes_unasked s _

entry_unasked : (count : ℕ) (s : SessionState) (entry : TraceEntry) → says_send_headers entry.event ≡ false → IsUnasked s → IsUnasked (entry_step count s entry).session
entry_unasked count s entry e un = step_cases (λ made. IsUnasked made.session) count s entry (λ _. un) (λ why _. closes_unasked s why) (λ _. open_unasked s entry.event e un)

-- ---- what a step sends of headers

none_in : (sent : List Message) → NoneOf is_headers sent → filter_map headers_in sent ≡ []
none_in [] none = refl
none_in (messages.Headers headers ∷ sent) none = absurd (let clash : true ≡ false = none in cc)
none_in (message ∷ sent) none = none_in sent none

no_reply : (question : Option Question) (event : Event) → is_told (kind_of event) ≡ false → replies_to question event ≡ []
no_reply None event e = refl
no_reply (Some question) (events.Told answer) e = absurd cc
no_reply (Some question) event e = refl

not_following : (question : Question) (answer : Answer) → is_following (events.Told answer) ≡ false → following_in question answer ≡ None
not_following (questions.Serve (After locator stop)) (answers.Following headers) e = absurd cc
not_following question answer e = refl

reply_none : (question : Option Question) (answer : Answer) → is_following (events.Told answer) ≡ false → filter_map following (replies_to question (events.Told answer)) ≡ []
reply_none None answer e = refl
reply_none (Some question) answer e = rw (not_following question answer e) refl

-- an answer of headers is sent where it was asked for
served_headers : (question : Question) (item : Option Item) (s : SessionState) (headers : List Header)
    → filter_map following (record { question = question; answer = answers.Following headers } ∷ []) ≡ filter_map headers_in (cond (fits question (answers.Following headers)) (for_item item (resuming (ends (freed s) (messages.Headers headers ∷ [])))) (stays s)).messages
served_headers (questions.Serve (After locator stop)) item s headers =
    let outcome = ends (freed s) (messages.Headers headers ∷ []) in
    let told : filter_map headers_in outcome.messages ≡ headers ∷ [] = ap (filter_map headers_in) (sent_at_end (freed s) (messages.Headers headers ∷ [])) in
    sym (resuming_cases (λ (o : Outcome). filter_map headers_in o.messages ≡ headers ∷ []) outcome told (λ hash _ _ _. found_more headers_in outcome.messages (hash ∷ []) refl ∙ told))
served_headers question item s headers = refl

asked_headers : (s : SessionState) (item : Option Item) (stage : Stage) (headers : List Header)
    → filter_map following (record { question = question_of s item stage; answer = answers.Following headers } ∷ []) ≡ filter_map headers_in (cond (fits (question_of s item stage) (answers.Following headers)) (for_item item (answered (freed s) item stage (answers.Following headers))) (stays s)).messages
unfolding answered resuming replied
asked_headers s item Admit headers = refl
asked_headers s item (About subject) headers = served_headers (question_of s item (About subject)) item s headers
asked_headers s item Match headers = refl
asked_headers s item (Give block) headers = refl
asked_headers s item Wanted headers = refl
asked_headers s item Fresh headers = refl

told_headers : (pending : Option Pending) (s : SessionState) (headers : List Header) → filter_map following (replies_to (question_at s pending) (events.Told (answers.Following headers))) ≡ filter_map headers_in (told pending s (answers.Following headers)).messages
told_headers None s headers = refl
told_headers (Some pending) s headers = asked_headers s pending.item pending.stage headers

abbrev pub Matches : SessionState → Event → List Message → Type 0
Matches s event sent = filter_map following (replies_to (pending_question s) event) ≡ filter_map headers_in sent

plain_none : (s : SessionState) (event : Event) → is_closed s.state ≡ false → s.peer.by_headers ≡ false → is_following event ≡ false → filter_map headers_in (open_step s event).messages ≡ []
plain_none s event going plain e = none_in (open_step s event).messages (subst (λ (made : Stepped). NoneOf is_headers made.messages) (open_is s event going) (no_headers_unasked s event plain e))

input_matches : (s : SessionState) (event : Event) → is_closed s.state ≡ false → s.peer.by_headers ≡ false → is_told (kind_of event) ≡ false → is_following event ≡ false → Matches s event (open_step s event).messages
input_matches s event going plain e f = ap (filter_map following) (no_reply (pending_question s) event e) ∙ sym (plain_none s event going plain f)

answer_matches : (s : SessionState) (answer : Answer) → is_closed s.state ≡ false → s.peer.by_headers ≡ false → Matches s (events.Told answer) (open_step s (events.Told answer)).messages
unfolding open_step
answer_matches s (answers.Following headers) going plain = told_headers s.pending s headers
answer_matches s answer going plain = reply_none (pending_question s) answer refl ∙ sym (plain_none s (events.Told answer) going plain refl)

open_matches : (s : SessionState) (event : Event) → is_closed s.state ≡ false → s.peer.by_headers ≡ false → Matches s event (open_step s event).messages
open_matches s (events.Told answer) going plain = answer_matches s answer going plain
open_matches s event going plain = input_matches s event going plain refl refl

-- ---- over all entries

abbrev pub answered_in : List Reply → List (List Header)
answered_in told_so_far = filter_map following told_so_far

abbrev pub sent_in : List Message → List (List Header)
sent_in sent = filter_map headers_in sent

-- What was sent of headers are the first of those that were answered; all of them while the session goes on. The peer didn't ask
-- to be told of blocks by headers.
pub record Follows (account : Account) : Type 0 where
  pub unasked : IsUnasked account.session
  pub unsent : List (List Header)
  pub parts : answered_in account.replies ≡ sent_in account.sent ++ unsent
  pub all : is_closed account.session.state ≡ false → unsent ≡ []
  pub clear : is_closed account.session.state ≡ true → pending_question account.session ≡ None

-- an account with one step more
abbrev pub stepped : Account → Event → Stepped → Account
stepped account event made =
    record {
      session = made.session;
      count = account.count + 1;
      sent = account.sent ++ made.messages;
      replies = account.replies ++ replies_to (pending_question account.session) event;
    }

joined : (account : Account) (event : Event) (messages : List Message) (unsent : List (List Header))
    → answered_in account.replies ++ answered_in (replies_to (pending_question account.session) event) ≡ (sent_in account.sent ++ sent_in messages) ++ unsent
    → answered_in (account.replies ++ replies_to (pending_question account.session) event) ≡ sent_in (account.sent ++ messages) ++ unsent
joined account event messages unsent e =
    filter_map-append following account.replies (replies_to (pending_question account.session) event) ∙ e ∙ ap (λ (l : List (List Header)). l ++ unsent) (sym (filter_map-append headers_in account.sent messages))

stays_follows : (account : Account) (event : Event) → is_closed account.session.state ≡ true → Follows account → Follows (stepped account event (stays account.session))
stays_follows account event closed follows =
    let none : answered_in (replies_to (pending_question account.session) event) ≡ [] = ap (λ (q : Option Question). answered_in (replies_to q event)) (follows.clear closed) in
    record {
      unasked = follows.unasked;
      unsent = follows.unsent;
      parts =
          joined account event [] follows.unsent
          (ap (λ (l : List (List Header)). answered_in account.replies ++ l) none ∙ append-nil (answered_in account.replies) ∙ follows.parts ∙ ap (λ (l : List (List Header)). l ++ follows.unsent) (sym (append-nil (sent_in account.sent))));
      all = follows.all;
      clear = follows.clear;
    }

-- while the session goes on, what is answered by one step more is sent, or left
goes_on : (account : Account) (event : Event) (messages : List Message) (unsent : List (List Header)) → is_closed account.session.state ≡ false → Follows account
    → answered_in (replies_to (pending_question account.session) event) ≡ sent_in messages ++ unsent
    → answered_in (account.replies ++ replies_to (pending_question account.session) event) ≡ sent_in (account.sent ++ messages) ++ unsent
goes_on account event messages unsent going follows e =
    let before : answered_in account.replies ≡ sent_in account.sent = follows.parts ∙ ap (λ (l : List (List Header)). sent_in account.sent ++ l) (follows.all going) ∙ append-nil (sent_in account.sent) in
    joined account event messages unsent
    (ap (λ (l : List (List Header)). l ++ answered_in (replies_to (pending_question account.session) event)) before ∙ ap (λ (l : List (List Header)). sent_in account.sent ++ l) e ∙ sym (append_assoc (sent_in account.sent) (sent_in messages) unsent))

closes_follows : (account : Account) (event : Event) (why : CloseReason) → is_closed account.session.state ≡ false → Follows account → Follows (stepped account event (closes why account.session))
closes_follows account event why going follows =
    let unsent = answered_in (replies_to (pending_question account.session) event) in
    record {
      unasked = closes_unasked account.session why;
      unsent = unsent;
      parts = goes_on account event [] unsent going follows refl;
      all = λ e. absurd (let clash : true ≡ false = e in cc);
      clear = λ _. refl;
    }

open_follows : (account : Account) (event : Event) → says_send_headers event ≡ false → is_closed account.session.state ≡ false → Follows account → Follows (stepped account event (open_step account.session event))
open_follows account event e going follows =
    let made = open_step account.session event in
    record {
      unasked = open_unasked account.session event e follows.unasked;
      unsent = [];
      parts = goes_on account event made.messages [] going follows (open_matches account.session event going follows.unasked.plain ∙ sym (append-nil (sent_in made.messages)));
      all = λ _. refl;
      clear = λ closed. no_question made.session (open_over account.session event going closed).clear;
    }

entry_follows : (account : Account) (entry : TraceEntry) → says_send_headers entry.event ≡ false → Follows account → Follows (account_step account entry)
entry_follows account entry e follows =
    step_cases (λ made. Follows (stepped account entry.event made)) account.count account.session entry (λ closed. stays_follows account entry.event closed follows) (λ why going. closes_follows account entry.event why going follows)
    (λ going. open_follows account entry.event e going follows)

says_more : (event : Event) (later : List Event) → list_any says_send_headers (cond (is_input (kind_of event)) (event ∷ later) later) ≡ (says_send_headers event || list_any says_send_headers later)
says_more (events.Said item) later = refl
says_more (events.Broken fault) later = refl
says_more events.Tick later = refl
says_more events.Probe later = refl
says_more (events.Told answer) later = refl
says_more events.ReaderEnd later = refl
says_more events.NoMemory later = refl
says_more events.HallFull later = refl
says_more events.WriteFault later = refl

follows_fold : (account : Account) (entries : List TraceEntry) → list_any says_send_headers (inputs_of entries) ≡ false → Follows account → Follows (fold account_step account entries)
follows_fold account [] none follows = follows
follows_fold account (entry ∷ entries) none follows =
    let parts = or_parts (says_send_headers entry.event) (list_any says_send_headers (inputs_of entries)) (sym (says_more entry.event (inputs_of entries)) ∙ none) in
    follows_fold (account_step account entry) entries parts.1 (entry_follows account entry parts.0 follows)

openings_none : (settings : Settings) → sent_in (openings settings) ≡ []
openings_none settings = elim (cases_Bool settings.inbound) [ inl inbound ↦ rw inbound refl | inr outbound ↦ rw outbound refl ]

first_follows : (settings : Settings) → Follows (first_account settings)
first_follows settings =
    record {
      unasked = record { plain = refl; item = refl };
      unsent = [];
      parts = sym (append-nil (sent_in (openings settings)) ∙ openings_none settings);
      all = λ _. refl;
      clear = λ _. refl;
    }

all_follow : (settings : Settings) (entries : List TraceEntry) → list_any says_send_headers (inputs_of entries) ≡ false → Follows (account_of settings entries)
unfolding account_of
all_follow settings entries none = follows_fold (first_account settings) entries none (first_follows settings)

pub asked_by_headers : (settings : Settings) (entries : List TraceEntry) → (session_of settings entries).peer.by_headers ≡ true → list_any says_send_headers (inputs_of entries) ≡ true
asked_by_headers settings entries by =
    elim (cases_Bool (list_any says_send_headers (inputs_of entries))) [
      | inl said ↦ said
      | inr none ↦ absurd (let clash : true ≡ false = sym by ∙ (all_follow settings entries none).unasked.plain in cc)
    ]

pub sends_what_follows : (settings : Settings) (entries : List TraceEntry) → list_any says_send_headers (inputs_of entries) ≡ false → SendsWhatFollows settings entries
sends_what_follows settings entries none =
    let follows = all_follow settings entries none in
    record { unsent = follows.unsent; parts = follows.parts; all = follows.all }

pub few_headers : (settings : Settings) (entries : List TraceEntry) → list_any says_send_headers (inputs_of entries) ≡ false → length (filter_map headers_in (sends settings entries)) ≤ length (filter_map following (replies settings entries))
few_headers settings entries none =
    let follows = all_follow settings entries none in
    shorter (filter_map headers_in (sends settings entries)) follows.unsent (filter_map following (replies settings entries)) follows.parts
  where
    shorter : (xs ys zs : List (List Header)) → zs ≡ xs ++ ys → length xs ≤ length zs
    shorter xs ys zs e =
        let all = ap length e in
        let sum = length-append xs ys in
        omega (arith, all, sum)
