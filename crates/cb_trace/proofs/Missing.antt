-- The hall told of each block that is fetched, rebuilt or asked for what it should.
use Rattle.std.proofs.Common.{◌≡◌, ℕ, Bool, true, false, ◌||◌, List, [], ◌∷◌, ◌++◌, Option, Some, None, refl, sym, subst, ◌∙◌, inl, inr}
use Rattle.std.specs.List.{list_any}
use Rattle.std.proofs.lemmas.Bool.{cases_Bool, or_cases, or_left, or_right}
use Rattle.std.proofs.lemmas.List.Folds.{list_any-append}
use Rattle.cb_base.specs.declared.hash.Hash256.{Hash256}
use Rattle.cb_chain.specs.Entries.{block_hash}
use Rattle.cb_chain.proofs.BlockIndexes.{same-refl}
use Rattle.cb_compact.specs.Slots.{Unfilled}
use Rattle.cb_peer_state.specs.Fetching.{has}
use Rattle.cb_hall.specs.Histories.{Reply}
use Rattle.cb_hall.specs.declared.answer.Answer.{Answer}
use Rattle.cb_hall.specs.declared.question.Question.{Question}
use Rattle.cb_wire.specs.declared.item.Item.{Item}
use Rattle.cb_wire.specs.declared.message.Message.{Message}
use Rattle.cb_peer_state.specs.declared.stage.Stage.{Stage}
use Rattle.cb_peer_state.specs.declared.event.Event.{Event}
use Rattle.cb_peer_state.specs.declared.event.Event.TheVariants as events
use Rattle.cb_peer_state.specs.declared.settings.Settings.{Settings}
use Rattle.cb_peer_state.specs.declared.pending.Pending.{Pending}
use Rattle.cb_peer_state.specs.declared.state.CloseReason.{CloseReason}
use Rattle.cb_peer_state.specs.Questions.{fits, question_at, question_of, pending_question}
use Rattle.cb_peer_state.specs.Receiving.{Outcome}
use Rattle.cb_peer_state.specs.Replying.{answered}
use Rattle.cb_peer_state.specs.Session.{Stepped, arrives, closes, for_item, open_step, openings, pending_of, pinged, stays, told}
use Rattle.cb_peer_state.specs.declared.session_state.SessionState.{SessionState}
use Rattle.cb_peer_state.specs.State.{freed, is_ready}
use Rattle.cb_peer_state.proofs.Cases.{by_test}
use Rattle.cb_peer_state.specs.Laws.{asks_for_block}
use Rattle.cb_trace.specs.declared.trace.TraceEntry.{TraceEntry}
use Rattle.cb_trace.specs.Fold.{Account, account_of, account_step, entry_step, replies, replies_to, sends, session_of}
use Rattle.cb_trace.specs.Whole.{lacking_of, needed_in, tells_lacking, tells_missing, tells_needed}
use Rattle.cb_trace.proofs.Fetches.{Each, Tests, idle_fetches, none_each, rebuilding}
use Rattle.cb_trace.proofs.Reached.{kept, step_cases}
use Rattle.cb_trace.proofs.Requested.{Asks, Comes, FetchesAt, Tells, answered_comes, matched, none_asked}

-- ---- steps

-- the block that the mempool is being searched for
abbrev pub pending_matched : Option Pending → List Hash256
pending_matched None = []
pending_matched (Some pending) = matched pending.item (Some pending.stage)

-- What a session fetches and rebuilds is so, and the block that the mempool is searched for is missing.
pub record IsSo (t : Tests) (s : SessionState) : Type 0 where
  pub fetches : FetchesAt t s
  pub sought : Each t.missing (pending_matched s.pending)

-- the same of a step, and each block that it asks for is needed
pub record MakesSo (t : Tests) (made : Stepped) : Type 0 where
  pub is : IsSo t made.session
  pub asked : Asks t.needed made.messages

stays_so : (t : Tests) (s : SessionState) → IsSo t s → MakesSo t (stays s)
stays_so t s is = record { is = is; asked = none_asked t.needed [] (λ _. refl) }

closes_so : (t : Tests) (s : SessionState) (why : CloseReason) → MakesSo t (closes why s)
closes_so t s why = record { is = record { fetches = idle_fetches t; sought = none_each t.missing }; asked = none_asked t.needed [] (λ _. refl) }

next_matched : (t : Tests) (item : Option Item) (next : Option Stage) → Each t.missing (matched item next) → Each t.missing (pending_matched (pending_of item next))
next_matched t item None each = none_each t.missing
next_matched t item (Some stage) each = each

outcome_so : (t : Tests) (item : Option Item) (outcome : Outcome) → Comes t item outcome → MakesSo t (for_item item outcome)
outcome_so t item outcome comes = record { is = record { fetches = comes.fetches; sought = next_matched t item outcome.next comes.sought }; asked = comes.asked }

arrives_so : (t : Tests) (pending : Option Pending) (s : SessionState) (item : Option Item) → IsSo t s → MakesSo t (arrives pending s item)
arrives_so t None s item is = record { is = record { fetches = is.fetches; sought = none_each t.missing }; asked = none_asked t.needed [] (λ _. refl) }
arrives_so t (Some other) s item is = stays_so t s is

-- what an event tells, where a question is open, is so
abbrev pub TellsAt : Tests → Option Question → Event → Type 0
TellsAt t (Some question) (events.Told answer) = Tells t question answer
TellsAt t question event = Unit {0}

told_so : (t : Tests) (pending : Option Pending) (s : SessionState) (answer : Answer) → TellsAt t (question_at s pending) (events.Told answer) → Each t.missing (pending_matched pending) → IsSo t s → MakesSo t (told pending s answer)
told_so t None s answer tells each is = stays_so t s is
told_so t (Some pending) s answer tells each is =
    elim (cases_Bool (fits (question_of s pending.item pending.stage) answer)) [
      | inl fit ↦ rw fit (outcome_so t pending.item (answered (freed s) pending.item pending.stage answer) (answered_comes t s (freed s) pending.item pending.stage answer fit tells each is.fetches))
      | inr misfit ↦ rw misfit (stays_so t s is)
    ]

pinged_so : (t : Tests) (s : SessionState) → IsSo t s → MakesSo t (pinged s)
pinged_so t s is = record { is = record { fetches = is.fetches; sought = is.sought }; asked = none_asked t.needed (pinged s).messages (λ _. refl) }

open_so : (t : Tests) (s : SessionState) (event : Event) → TellsAt t (pending_question s) event → IsSo t s → MakesSo t (open_step s event)
unfolding open_step
open_so t s (events.Said item) tells is = arrives_so t s.pending s (Some item) is
open_so t s (events.Broken fault) tells is = closes_so t s _
open_so t s events.Tick tells is = arrives_so t s.pending s None is
open_so t s events.Probe tells is = by_test (MakesSo t) (is_ready s.state) (pinged s) (stays s) (λ _. pinged_so t s is) (λ _. stays_so t s is)
open_so t s (events.Told answer) tells is = told_so t s.pending s answer tells is.sought is
open_so t s events.ReaderEnd tells is = closes_so t s _
open_so t s events.NoMemory tells is = closes_so t s _
open_so t s events.HallFull tells is = closes_so t s _
open_so t s events.WriteFault tells is = closes_so t s _

entry_so : (t : Tests) (count : ℕ) (s : SessionState) (entry : TraceEntry) → TellsAt t (pending_question s) entry.event → IsSo t s → MakesSo t (entry_step count s entry)
entry_so t count s entry tells is = step_cases (MakesSo t) count s entry (λ _. stays_so t s is) (λ why _. closes_so t s why) (λ _. open_so t s entry.event tells is)

-- ---- what replies tell

any_weaker : (p q : Reply → Bool) → ((reply : Reply) → p reply ≡ true → q reply ≡ true) → (list : List Reply) → list_any p list ≡ true → list_any q list ≡ true
any_weaker p q weaker [] e = e
any_weaker p q weaker (reply ∷ list) e =
    elim (or_cases (p reply) (list_any p list) e) [
      | inl first ↦ or_left (q reply) (list_any q list) (weaker reply first)
      | inr later ↦ or_right (q reply) (list_any q list) (any_weaker p q weaker list later)
    ]

-- what some of these replies told
pub tests_of : List Reply → Tests
tests_of told_so_far =
    record {
      needed = λ hash. list_any (tells_needed hash) told_so_far;
      lacks = λ hash. list_any (tells_lacking hash) told_so_far;
      missing = λ hash. list_any (tells_missing hash) told_so_far;
      is_needed = λ hash e. any_weaker (tells_missing hash) (tells_needed hash) (λ reply is. or_right (has (needed_in reply.question reply.answer) hash) (tells_missing hash reply) is) told_so_far e;
      is_lacking = λ hash e. any_weaker (tells_missing hash) (tells_lacking hash) (λ reply is. or_right (has (lacking_of reply.question reply.answer) hash) (tells_missing hash reply) is) told_so_far e;
    }

more_told : (tells : Hash256 → Reply → Bool) (xs ys : List Reply) (hash : Hash256) → list_any (tells hash) xs ≡ true → list_any (tells hash) (xs ++ ys) ≡ true
more_told tells xs ys hash e = list_any-append (tells hash) xs ys ∙ or_left (list_any (tells hash) xs) (list_any (tells hash) ys) e

last_told : (tells : Hash256 → Reply → Bool) (xs : List Reply) (reply : Reply) (hash : Hash256) → tells hash reply ≡ true → list_any (tells hash) (xs ++ reply ∷ []) ≡ true
last_told tells xs reply hash e =
    list_any-append (tells hash) xs (reply ∷ []) ∙ or_right (list_any (tells hash) xs) (tells hash reply || false) (or_left (tells hash reply) false e)

-- what the last reply tells
tells_last : (xs : List Reply) (question : Option Question) (event : Event) → TellsAt (tests_of (xs ++ replies_to question event)) question event
unfolding tests_of
tells_last xs (Some question) (events.Told answer) =
    let reply : Reply = record { question = question; answer = answer } in
    record {
      needed = λ hash e. last_told tells_needed xs reply hash (or_left (has (needed_in question answer) hash) (tells_missing hash reply) e);
      lacks = λ hash e. last_told tells_lacking xs reply hash (or_left (has (lacking_of question answer) hash) (tells_missing hash reply) e);
      missing = λ hash e. last_told tells_missing xs reply hash e;
    }
tells_last xs question event = tt

more_so : (xs ys : List Reply) (s : SessionState) → IsSo (tests_of xs) s → IsSo (tests_of (xs ++ ys)) s
unfolding tests_of
more_so xs ys s is =
    record {
      fetches =
          record {
            flight = λ hash e. more_told tells_needed xs ys hash (is.fetches.flight hash e);
            wanted = λ hash e. more_told tells_lacking xs ys hash (is.fetches.wanted hash e);
            rebuilt = λ hash e. more_told tells_missing xs ys hash (is.fetches.rebuilt hash e);
          };
      sought = λ hash e. more_told tells_missing xs ys hash (is.sought hash e);
    }

-- ---- over all entries

-- What the session fetches and rebuilds, and what was asked for, is as the replies told.
pub record IsAsTold (account : Account) : Type 0 where
  pub is : IsSo (tests_of account.replies) account.session
  pub asked : Asks (tests_of account.replies).needed account.sent

more_asked : (xs ys : List Reply) (sent messages : List Message) → Asks (tests_of xs).needed sent → Asks (tests_of (xs ++ ys)).needed messages → Asks (tests_of (xs ++ ys)).needed (sent ++ messages)
unfolding tests_of
more_asked xs ys sent messages before now hash e =
    elim (or_cases (list_any (asks_for_block hash) sent) (list_any (asks_for_block hash) messages) (sym (list_any-append (asks_for_block hash) sent messages) ∙ e)) [
      | inl first ↦ more_told tells_needed xs ys hash (before hash first)
      | inr later ↦ now hash later
    ]

entry_told : (account : Account) (entry : TraceEntry) → IsAsTold account → IsAsTold (account_step account entry)
entry_told account entry told_so_far =
    let question = pending_question account.session in
    let last = replies_to question entry.event in
    let made = entry_so (tests_of (account.replies ++ last)) account.count account.session entry (tells_last account.replies question entry.event) (more_so account.replies last account.session told_so_far.is) in
    record { is = made.is; asked = more_asked account.replies last account.sent (entry_step account.count account.session entry).messages told_so_far.asked made.asked }

openings_ask : (settings : Settings) (hash : Hash256) → list_any (asks_for_block hash) (openings settings) ≡ false
openings_ask settings hash = elim (cases_Bool settings.inbound) [ inl inbound ↦ rw inbound refl | inr outbound ↦ rw outbound refl ]

all_told : (settings : Settings) (entries : List TraceEntry) → IsAsTold (account_of settings entries)
all_told settings entries =
    kept IsAsTold entry_told settings entries
    (record { is = record { fetches = idle_fetches (tests_of []); sought = none_each (tests_of []).missing }; asked = none_asked (tests_of []).needed (openings settings) (openings_ask settings) })

pub in_flight_needed : (settings : Settings) (entries : List TraceEntry) (hash : Hash256) → has (session_of settings entries).fetch.flight hash ≡ true → list_any (tells_needed hash) (replies settings entries) ≡ true
unfolding tests_of
in_flight_needed settings entries hash e = (all_told settings entries).is.fetches.flight hash e

pub wanted_lacking : (settings : Settings) (entries : List TraceEntry) (hash : Hash256) → has (session_of settings entries).fetch.wanted hash ≡ true → list_any (tells_lacking hash) (replies settings entries) ≡ true
unfolding tests_of
wanted_lacking settings entries hash e = (all_told settings entries).is.fetches.wanted hash e

pub asked_needed : (settings : Settings) (entries : List TraceEntry) (hash : Hash256) → list_any (asks_for_block hash) (sends settings entries) ≡ true → list_any (tells_needed hash) (replies settings entries) ≡ true
unfolding tests_of
asked_needed settings entries hash e = (all_told settings entries).asked hash e

was_missing : (t : Tests) (old : Option Unfilled) (partial : Unfilled) → old ≡ Some partial → Each t.missing (rebuilding old) → t.missing (block_hash partial.header) ≡ true
was_missing t old partial is each =
    let own : Each t.missing (block_hash partial.header ∷ []) = subst (λ (p : Option Unfilled). Each t.missing (rebuilding p)) is each in
    own (block_hash partial.header) (or_left _ false (same-refl (block_hash partial.header)))

pub rebuilt_missing : (settings : Settings) (entries : List TraceEntry) (partial : Unfilled) → (session_of settings entries).compact.partial ≡ Some partial → list_any (tells_missing (block_hash partial.header)) (replies settings entries) ≡ true
unfolding tests_of
rebuilt_missing settings entries partial is = was_missing (tests_of (replies settings entries)) (session_of settings entries).compact.partial partial is (all_told settings entries).is.fetches.rebuilt
