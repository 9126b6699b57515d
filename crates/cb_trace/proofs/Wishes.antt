-- `sendheaders` goes out once, where the handshake is done with a peer that knows it.
use Rattle.std.proofs.Common.{◌≡◌, ℕ, ℤ, ◌+◌, ◌≤◌, Bool, true, false, cond, ◌&&◌, ◌||◌, List, [], ◌∷◌, ◌++◌, Option, Some, None, length, refl, sym, ap, ◌∙◌, inl, inr, arith}
use Rattle.std.specs.Prelude.{filter, int_lt, not, pos}
use Rattle.std.specs.List.{fold, list_any}
use Rattle.std.proofs.lemmas.Bool.{and_parts, cases_Bool, or_left, or_parts}
use Rattle.std.proofs.lemmas.List.{length-append}
use Rattle.std.proofs.lemmas.List.Elements.{filter-append}
use Rattle.cb_hall.specs.declared.answer.Answer.{Answer}
use Rattle.cb_peer_state.specs.Greeting.{wishes}
use Rattle.cb_wire.specs.declared.item.Item.{Item}
use Rattle.cb_wire.specs.declared.message.Message.{Message}
use Rattle.cb_wire.specs.declared.message.Message.TheVariants as messages
use Rattle.cb_peer_state.specs.declared.event.Event.{Event}
use Rattle.cb_peer_state.specs.declared.event.Event.TheVariants as events
use Rattle.cb_peer_state.specs.declared.settings.Settings.{Settings}
use Rattle.cb_peer_state.specs.declared.pending.Pending.{Pending}
use Rattle.cb_peer_state.specs.declared.state.CloseReason.{CloseReason}
use Rattle.cb_peer_state.specs.declared.state.Peer.{Peer}
use Rattle.cb_peer_state.specs.declared.state.State.{State}
use Rattle.cb_peer_state.specs.declared.state.State.TheVariants.{Start, Greeted, Ready}
use Rattle.cb_peer_state.specs.Questions.{fits, question_of}
use Rattle.cb_peer_state.specs.Receiving.{Outcome}
use Rattle.cb_peer_state.specs.Replying.{answered}
use Rattle.cb_peer_state.specs.Session.{Stepped, arrives, closes, for_item, open_step, openings, pinged, stays, told}
use Rattle.cb_peer_state.specs.declared.session_state.SessionState.{SessionState}
use Rattle.cb_peer_state.specs.State.{freed, is_closed, is_ready}
use Rattle.cb_peer_state.proofs.Cases.{by_test}
use Rattle.cb_trace.specs.declared.trace.TraceEntry.{TraceEntry}
use Rattle.cb_trace.specs.Fold.{Account, account_of, account_step, entry_step, first_account, sends}
use Rattle.cb_trace.specs.Whole.{came_to, is_send_headers, knows_send_headers, number_sent}
use Rattle.cb_trace.proofs.Hears.{Hears, Silent, answered_hears, greets, keeps, readies, stops}
use Rattle.cb_trace.proofs.Quiet.{NoneOf}
use Rattle.cb_trace.proofs.Reached.{step_cases}

-- the handshake is done, or the session is over
abbrev pub is_past : State → Bool
is_past state = is_ready state || is_closed state

abbrev pub knows_by : State → ℤ → Bool
knows_by state version = is_ready state && not (int_lt version (pos 70012))

-- What a step sends of `sendheaders`: none, and it doesn't end the handshake; or what is sent where it does.
pub data Tells (s : SessionState) (made : Stepped) : Type 0 where
  quiet : Silent made.messages → (knows_send_headers made.session ≡ true → knows_send_headers s ≡ true) → (is_past s.state ≡ true → is_past made.session.state ≡ true) → Tells s made
  tells : s.state ≡ Greeted → made.messages ≡ wishes s.peer.version → made.session.state ≡ Ready → made.session.peer ≡ s.peer → Tells s made

knows_same : (a b : State) (v w : ℤ) → a ≡ b → v ≡ w → knows_by a v ≡ knows_by b w
knows_same a b v w e f = ap (λ (state : State). knows_by state v) e ∙ ap (λ (version : ℤ). knows_by b version) f

not_known : {P : Type 0} (state : State) (version : ℤ) → is_ready state ≡ false → knows_by state version ≡ true → P
not_known state version early knows = absurd (let parts = and_parts (is_ready state) (not (int_lt version (pos 70012))) knows in let clash : false ≡ true = sym early ∙ parts.0 in cc)

not_past : {P : Type 0} (a b : State) → a ≡ b → is_past b ≡ false → is_past a ≡ true → P
not_past a b same early past = absurd (let clash : false ≡ true = sym early ∙ ap is_past (sym same) ∙ past in cc)

outcome_tells : (s : SessionState) (item : Option Item) (outcome : Outcome) → Hears s.state s.peer item outcome → Tells s (for_item item outcome)
outcome_tells s item outcome (keeps at of by silent) =
    quiet silent (λ knows. sym (knows_same outcome.session.state s.state outcome.session.peer.version s.peer.version at of) ∙ knows) (λ past. ap is_past at ∙ past)
outcome_tells s item outcome (greets from to by silent) =
    quiet silent (λ knows. not_known outcome.session.state outcome.session.peer.version (ap is_ready to) knows) (λ past. not_past s.state Start from refl past)
outcome_tells s item outcome (readies from to of sent next) = tells from sent to of
outcome_tells s item outcome (stops why to of sent next) =
    quiet (ap (λ (l : List Message). list_any is_send_headers l) sent) (λ knows. not_known outcome.session.state outcome.session.peer.version (ap is_ready to) knows) (λ past. ap is_past to)

stays_tells : (s : SessionState) → Tells s (stays s)
stays_tells s = quiet refl (λ knows. knows) (λ past. past)

arrives_tells : (pending : Option Pending) (s : SessionState) (item : Option Item) → Tells s (arrives pending s item)
arrives_tells None s item = quiet refl (λ knows. knows) (λ past. past)
arrives_tells (Some other) s item = stays_tells s

told_tells : (pending : Option Pending) (s : SessionState) (answer : Answer) → Tells s (told pending s answer)
told_tells None s answer = stays_tells s
told_tells (Some pending) s answer =
    elim (cases_Bool (fits (question_of s pending.item pending.stage) answer)) [
      | inl fit ↦ rw fit (outcome_tells s pending.item (answered (freed s) pending.item pending.stage answer) (answered_hears (freed s) pending.item pending.stage answer))
      | inr misfit ↦ rw misfit (stays_tells s)
    ]

closes_tells : (s : SessionState) (why : CloseReason) → Tells s (closes why s)
closes_tells s why = quiet refl (λ knows. absurd cc) (λ past. refl)

open_tells : (s : SessionState) (event : Event) → Tells s (open_step s event)
unfolding open_step
open_tells s (events.Said item) = arrives_tells s.pending s (Some item)
open_tells s (events.Broken fault) = closes_tells s _
open_tells s events.Tick = arrives_tells s.pending s None
open_tells s events.Probe = by_test (Tells s) (is_ready s.state) (pinged s) (stays s) (λ _. quiet refl (λ knows. knows) (λ past. past)) (λ _. stays_tells s)
open_tells s (events.Told answer) = told_tells s.pending s answer
open_tells s events.ReaderEnd = closes_tells s _
open_tells s events.NoMemory = closes_tells s _
open_tells s events.HallFull = closes_tells s _
open_tells s events.WriteFault = closes_tells s _

entry_tells : (count : ℕ) (s : SessionState) (entry : TraceEntry) → Tells s (entry_step count s entry)
entry_tells count s entry = step_cases (Tells s) count s entry (λ _. stays_tells s) (λ why _. closes_tells s why) (λ _. open_tells s entry.event)

-- ---- numbers of messages

number_append : (test : Message → Bool) (xs ys : List Message) → number_sent test (xs ++ ys) ≡ number_sent test xs + number_sent test ys
number_append test xs ys = ap length (filter-append test xs ys) ∙ length-append (filter test xs) (filter test ys)

none_number : (test : Message → Bool) (sent : List Message) → NoneOf test sent → number_sent test sent ≡ 0
none_number test [] none = refl
none_number test (message ∷ sent) none =
    let parts = or_parts (test message) (list_any test sent) none in
    rw parts.0 (none_number test sent parts.1)

wishes_number : (version : ℤ) → number_sent is_send_headers (wishes version) ≡ cond (not (int_lt version (pos 70012))) 1 0
wishes_number version = by_tests (int_lt version (pos 70012)) (int_lt version (pos 70014))
  where
    by_tests : (a b : Bool) → number_sent is_send_headers (cond a [] (messages.SendHeaders ∷ []) ++ cond b [] (messages.SendCmpct (record { high_bandwidth = false; version = 1 }) ∷ [])) ≡ cond (not a) 1 0
    by_tests true true = refl
    by_tests true false = refl
    by_tests false true = refl
    by_tests false false = refl

-- ---- over all entries

-- Of `sendheaders` so many were sent as it should be, where the session came to know of it before or knows of it now.
pub record Wished (came : Bool) (account : Account) : Type 0 where
  pub number : number_sent is_send_headers account.sent ≡ cond (came || knows_send_headers account.session) 1 0
  pub past : came ≡ true → is_past account.session.state ≡ true

or_kept : (came before now : Bool) → (now ≡ true → before ≡ true) → ((came || before) || now) ≡ (came || before)
or_kept true before now kept = refl
or_kept false true now kept = refl
or_kept false false true kept = absurd (let clash : false ≡ true = kept refl in cc)
or_kept false false false kept = refl

came_past : (came : Bool) (s : SessionState) → (came ≡ true → is_past s.state ≡ true) → (came || knows_send_headers s) ≡ true → is_past s.state ≡ true
came_past true s past e = past refl
came_past false s past e =
    let parts = and_parts (is_ready s.state) (not (int_lt s.peer.version (pos 70012))) e in
    or_left (is_ready s.state) (is_closed s.state) parts.0

not_came : (came : Bool) (s : SessionState) → (came ≡ true → is_past s.state ≡ true) → s.state ≡ Greeted → (came || knows_send_headers s) ≡ false
not_came came s past at =
    elim (cases_Bool (came || knows_send_headers s)) [
      | inl is ↦ not_past s.state Greeted at refl (came_past came s past is)
      | inr isnt ↦ isnt
    ]

abbrev pub as_number : Bool → ℕ
as_number b = cond b 1 0

-- nothing more, of the same number
no_more : (all old new due now : ℕ) → all ≡ old + new → old ≡ due → new ≡ 0 → now ≡ due → all ≡ now
no_more all old new due now sum was none same = omega (arith, sum, was, none, same)

-- as many as now, after none
first_ones : (all old new due now : ℕ) → all ≡ old + new → old ≡ 0 → new ≡ due → now ≡ due → all ≡ now
first_ones all old new due now sum none made same = omega (arith, sum, none, made, same)

step_wished : (came : Bool) (account : Account) (entry : TraceEntry) (made : Stepped) → Tells account.session made → Wished came account
    → (number_sent is_send_headers (account.sent ++ made.messages) ≡ cond ((came || knows_send_headers account.session) || knows_send_headers made.session) 1 0) × ((came || knows_send_headers account.session) ≡ true → is_past made.session.state ≡ true)
step_wished came account entry made (quiet silent kept past) wished =
    (no_more _ _ _ _ _ (number_append is_send_headers account.sent made.messages) wished.number (none_number is_send_headers made.messages silent) (ap as_number (or_kept came (knows_send_headers account.session) (knows_send_headers made.session) kept)), λ e. past (came_past came account.session wished.past e))
step_wished came account entry made (tells from sent to of) wished =
    let before : (came || knows_send_headers account.session) ≡ false = not_came came account.session wished.past from in
    let now : knows_send_headers made.session ≡ not (int_lt account.session.peer.version (pos 70012)) = knows_same made.session.state Ready made.session.peer.version account.session.peer.version to (ap (λ (peer : Peer). peer.version) of) in
    let whole : ((came || knows_send_headers account.session) || knows_send_headers made.session) ≡ not (int_lt account.session.peer.version (pos 70012)) = ap (λ (b : Bool). b || knows_send_headers made.session) before ∙ now in
    (first_ones _ _ _ _ _ (number_append is_send_headers account.sent made.messages) (wished.number ∙ ap as_number before) (ap (number_sent is_send_headers) sent ∙ wishes_number account.session.peer.version) (ap as_number whole), λ e. absurd (let clash : false ≡ true = sym before ∙ e in cc))

wished_more : (came : Bool) (account : Account) (entry : TraceEntry) → Wished came account → Wished (came || knows_send_headers account.session) (account_step account entry)
wished_more came account entry wished =
    let parts = step_wished came account entry (entry_step account.count account.session entry) (entry_tells account.count account.session entry) wished in
    record { number = parts.0; past = parts.1 }

or_assoc : (a b c : Bool) → ((a || b) || c) ≡ (a || (b || c))
or_assoc true b c = refl
or_assoc false b c = refl

wished_fold : (came : Bool) (account : Account) (entries : List TraceEntry) → Wished came account → number_sent is_send_headers (fold account_step account entries).sent ≡ cond (came || came_to knows_send_headers account entries) 1 0
wished_fold came account [] wished = wished.number
wished_fold came account (entry ∷ entries) wished =
    wished_fold (came || knows_send_headers account.session) (account_step account entry) entries (wished_more came account entry wished)
    ∙ ap (λ (b : Bool). cond b 1 0) (or_assoc came (knows_send_headers account.session) (came_to knows_send_headers (account_step account entry) entries))

openings_number : (settings : Settings) → number_sent is_send_headers (openings settings) ≡ 0
openings_number settings = elim (cases_Bool settings.inbound) [ inl inbound ↦ rw inbound refl | inr outbound ↦ rw outbound refl ]

pub wished_once : (settings : Settings) (entries : List TraceEntry) → number_sent is_send_headers (sends settings entries) ≡ cond (came_to knows_send_headers (first_account settings) entries) 1 0
unfolding account_of
wished_once settings entries = wished_fold false (first_account settings) entries (record { number = openings_number settings; past = λ e. absurd cc })

one_at_most : (b : Bool) → cond b 1 0 ≤ 1
one_at_most true = omega arith
one_at_most false = omega arith

pub wished_few : (settings : Settings) (entries : List TraceEntry) → number_sent is_send_headers (sends settings entries) ≤ 1
wished_few settings entries =
    let exact = wished_once settings entries in
    let few = one_at_most (came_to knows_send_headers (first_account settings) entries) in
    omega (arith, exact, few)
