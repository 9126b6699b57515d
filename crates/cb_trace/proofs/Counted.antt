-- Over a whole trace: each compact block has the next nonce, and each wish is another one.
use Rattle.std.proofs.Common.{◌≡◌, ◌≢◌, ℕ, ℤ, ◌+◌, ◌<◌, ◌^◌, Bool, true, false, cond, List, [], ◌∷◌, ◌++◌, Option, Some, None, get_or, length, refl, sym, ap, subst, ◌∙◌, append-nil, arith, inl, inr}
use Rattle.std.specs.Prelude.{◌%◌, int_lt, pos}
use Rattle.std.proofs.lemmas.Bool.{cases_Bool}
use Rattle.std.proofs.lemmas.List.Elements.{filter_map-append}
use Rattle.cb_hall.specs.declared.answer.Answer.{Answer}
use Rattle.cb_peer_state.specs.Greeting.{wishes}
use Rattle.cb_peer_state.specs.Serving.{nonce_in, nonces_from, nonces_in}
use Rattle.cb_wire.specs.declared.item.Item.{Item}
use Rattle.cb_wire.specs.declared.message.Message.{Message}
use Rattle.cb_wire.specs.declared.message.Message.TheVariants as messages
use Rattle.cb_wire.specs.declared.requests.CompactRelay.{CompactRelay}
use Rattle.cb_peer_state.specs.declared.stage.Stage.{Stage}
use Rattle.cb_peer_state.specs.declared.event.Event.{Event}
use Rattle.cb_peer_state.specs.declared.event.Event.TheVariants as events
use Rattle.cb_peer_state.specs.declared.settings.Settings.{Settings}
use Rattle.cb_peer_state.specs.declared.pending.Pending.{Pending}
use Rattle.cb_peer_state.specs.declared.state.CloseReason.{CloseReason}
use Rattle.cb_peer_state.specs.Questions.{fits, question_of}
use Rattle.cb_peer_state.specs.Receiving.{Outcome}
use Rattle.cb_peer_state.specs.Replying.{answered, differ}
use Rattle.cb_peer_state.specs.Session.{Stepped, arrives, closes, for_item, open_step, openings, pending_of, pinged, stays, told}
use Rattle.cb_peer_state.specs.declared.session_state.SessionState.{SessionState}
use Rattle.cb_peer_state.specs.State.{freed, is_closed, is_ready, with_pending}
use Rattle.cb_peer_state.proofs.Cases.{by_test}
use Rattle.cb_trace.specs.declared.trace.TraceEntry.{TraceEntry}
use Rattle.cb_trace.specs.Fold.{Account, account_of, account_step, entry_step, first_account, sends}
use Rattle.cb_trace.specs.Whole.{AreAlternating, high_in, highs_in}
use Rattle.cb_trace.proofs.Entries.{entry_settings}
use Rattle.cb_trace.proofs.Numbered.{IsPlain, Plays, PlaysAt, Turns, answered_plays, greets, is_late, no_highs, no_nonces, over, plain, tells}
use Rattle.cb_trace.proofs.Reached.{kept, step_cases}
use Rattle.cb_trace.proofs.Runs.{alternates_more, behind, last_more, last_of, run_append, run_length, run_once}

-- ---- steps

-- a question that is open behind the handshake alone
abbrev pub pending_late : Option Pending → Bool
pending_late None = false
pending_late (Some pending) = is_late (Some pending.stage)

abbrev pub IsTimely : SessionState → Type 0
IsTimely s = pending_late s.pending ≡ true → is_ready s.state ≡ true

-- a step as an outcome, and the question that it leaves open
pub record PlaysMade (s : SessionState) (made : Stepped) : Type 0 where
  pub plays : Plays s made.session made.messages
  pub timely : IsTimely made.session

nothing : IsPlain []
nothing = record { shorts = refl; relays = refl }

stays_plays : (s : SessionState) → IsTimely s → PlaysMade s (stays s)
stays_plays s timely = record { plays = plain nothing refl refl (λ ready. ready); timely = timely }

closes_plays : (s : SessionState) (why : CloseReason) → PlaysMade s (closes why s)
closes_plays s why = record { plays = over refl refl; timely = λ late. absurd (let clash : false ≡ true = late in cc) }

arrives_plays : (pending : Option Pending) (s : SessionState) (item : Option Item) → IsTimely s → PlaysMade s (arrives pending s item)
arrives_plays None s item timely = record { plays = plain nothing refl refl (λ ready. ready); timely = λ late. absurd (let clash : false ≡ true = late in cc) }
arrives_plays (Some other) s item timely = stays_plays s timely

-- an answer finds a session without a question, and the next question changes nothing of it
from_freed : (s : SessionState) (outcome : Outcome) (pending : Option Pending) → Plays (freed s) outcome.session outcome.messages → Plays s (with_pending pending outcome.session) outcome.messages
from_freed s outcome pending (plain is made asked ready) = plain is made asked ready
from_freed s outcome pending (tells count nonces made turns early ready) = tells count nonces made turns early ready
from_freed s outcome pending (greets at to is made asked) = greets at to is made asked
from_freed s outcome pending (over none closed) = over none closed

next_timely : (item : Option Item) (s : SessionState) (next : Option Stage) → (is_late next ≡ true → is_ready s.state ≡ true) → IsTimely (with_pending (pending_of item next) s)
next_timely item s None late e = absurd (let clash : false ≡ true = e in cc)
next_timely item s (Some stage) late e = late e

outcome_plays : (s : SessionState) (item : Option Item) (outcome : Outcome) → PlaysAt (freed s) outcome → PlaysMade s (for_item item outcome)
outcome_plays s item outcome at = record { plays = from_freed s outcome (pending_of item outcome.next) at.plays; timely = next_timely item outcome.session outcome.next at.late }

told_plays : (pending : Option Pending) (s : SessionState) (answer : Answer) → (pending_late pending ≡ true → is_ready s.state ≡ true) → IsTimely s → PlaysMade s (told pending s answer)
told_plays None s answer late timely = stays_plays s timely
told_plays (Some pending) s answer late timely =
    elim (cases_Bool (fits (question_of s pending.item pending.stage) answer)) [
      | inl fit ↦ rw fit (outcome_plays s pending.item (answered (freed s) pending.item pending.stage answer) (answered_plays (freed s) pending.item pending.stage answer late))
      | inr misfit ↦ rw misfit (stays_plays s timely)
    ]

pinged_plays : (s : SessionState) → IsTimely s → PlaysMade s (pinged s)
pinged_plays s timely = record { plays = plain (record { shorts = refl; relays = refl }) refl refl (λ ready. ready); timely = timely }

open_plays : (s : SessionState) (event : Event) → IsTimely s → PlaysMade s (open_step s event)
unfolding open_step
open_plays s (events.Said item) timely = arrives_plays s.pending s (Some item) timely
open_plays s (events.Broken fault) timely = closes_plays s _
open_plays s events.Tick timely = arrives_plays s.pending s None timely
open_plays s events.Probe timely = by_test (PlaysMade s) (is_ready s.state) (pinged s) (stays s) (λ _. pinged_plays s timely) (λ _. stays_plays s timely)
open_plays s (events.Told answer) timely = told_plays s.pending s answer timely timely
open_plays s events.ReaderEnd timely = closes_plays s _
open_plays s events.NoMemory timely = closes_plays s _
open_plays s events.HallFull timely = closes_plays s _
open_plays s events.WriteFault timely = closes_plays s _

-- ---- over all entries

-- So many compact blocks were sent, under the nonces from the first one on, and each wish was another one. While the session goes on
-- it knows their number, and the last wish. None was sent before the handshake was done.
pub record Counted (settings : Settings) (session : SessionState) (sent : List Message) : Type 0 where
  pub count : ℕ
  pub nonces : nonces_in sent ≡ nonces_from (settings.salt % 2 ^ 64) count
  pub turns : AreAlternating (highs_in sent)
  pub same : session.settings ≡ settings
  pub timely : IsTimely session
  pub made : is_closed session.state ≡ false → session.compact.made ≡ count % 2 ^ 64
  pub last : is_closed session.state ≡ false → session.compact.asked_high ≡ last_of (highs_in sent)
  pub early : is_closed session.state ≡ false → is_ready session.state ≡ false → highs_in sent ≡ []

not_before : (before after : Bool) → (before ≡ true → after ≡ true) → after ≡ false → before ≡ false
not_before true after kept e = absurd (let clash : false ≡ true = sym e ∙ kept refl in cc)
not_before false after kept e = refl

-- nothing more of them is sent
more_nonces : (sent messages : List Message) → nonces_in messages ≡ [] → nonces_in (sent ++ messages) ≡ nonces_in sent
more_nonces sent messages none = filter_map-append nonce_in sent messages ∙ ap (λ (l : List ℕ). nonces_in sent ++ l) none ∙ append-nil (nonces_in sent)

more_highs : (sent messages : List Message) → highs_in messages ≡ [] → highs_in (sent ++ messages) ≡ highs_in sent
more_highs sent messages none = filter_map-append high_in sent messages ∙ ap (λ (l : List Bool). highs_in sent ++ l) none ∙ append-nil (highs_in sent)

pub small : (salt : ℕ) → salt % 2 ^ 64 < 2 ^ 64
small salt = omega arith

-- the next nonce is the one behind all
pub next_is : (salt own made count : ℕ) → own ≡ salt → made ≡ count % 2 ^ 64 → (own + made) % 2 ^ 64 ≡ behind (salt % 2 ^ 64) count
next_is salt own made count same is = omega (arith, same, is)

pub made_more : (made count more new : ℕ) → made ≡ count % 2 ^ 64 → new ≡ (made + more) % 2 ^ 64 → new ≡ (count + more) % 2 ^ 64
made_more made count more new is next = omega (arith, is, next)

turned : (old highs : List Bool) (asked new : Bool) → asked ≡ last_of old → Turns asked highs new → AreAlternating old → AreAlternating (old ++ highs) × (new ≡ last_of (old ++ highs))
turned old [] asked new last turns each = (subst AreAlternating (sym (append-nil old)) each, turns ∙ last ∙ ap last_of (sym (append-nil old)))
turned old (high ∷ []) asked new last turns each = (alternates_more old high each (subst (λ (b : Bool). differ b high ≡ true) last turns.0), turns.1 ∙ sym (last_more old high))
turned old (high ∷ (next ∷ others)) asked new last turns each = absurd turns

-- the wish at the end of the handshake
first_wish : (a b : Bool) → AreAlternating (highs_in (cond a [] (messages.SendHeaders ∷ []) ++ cond b [] (messages.SendCmpct (record { high_bandwidth = false; version = 1 }) ∷ []))) × (last_of (highs_in (cond a [] (messages.SendHeaders ∷ []) ++ cond b [] (messages.SendCmpct (record { high_bandwidth = false; version = 1 }) ∷ []))) ≡ false)
first_wish true true = (tt, refl)
first_wish true false = (tt, refl)
first_wish false true = (tt, refl)
first_wish false false = (tt, refl)

greeting_nonces : (a b : Bool) (relay : CompactRelay) → nonces_in (cond a [] (messages.SendHeaders ∷ []) ++ cond b [] (messages.SendCmpct relay ∷ [])) ≡ []
greeting_nonces true true relay = refl
greeting_nonces true false relay = refl
greeting_nonces false true relay = refl
greeting_nonces false false relay = refl

greeted_highs : (sent : List Message) (version : ℤ) → highs_in sent ≡ [] → highs_in (sent ++ wishes version) ≡ highs_in (wishes version)
greeted_highs sent version none = filter_map-append high_in sent (wishes version) ∙ ap (λ (l : List Bool). l ++ highs_in (wishes version)) none

open_counted : (settings : Settings) (s new : SessionState) (sent messages : List Message) → is_closed s.state ≡ false → new.settings ≡ settings → IsTimely new → Counted settings s sent → Plays s new messages → Counted settings new (sent ++ messages)
open_counted settings s new sent messages going same timely c (plain is made asked ready) =
    let nonces = more_nonces sent messages (no_nonces messages is.shorts) in
    let highs = more_highs sent messages (no_highs messages is.relays) in
    record {
      count = c.count;
      nonces = nonces ∙ c.nonces;
      turns = subst AreAlternating (sym highs) c.turns;
      same = same;
      timely = timely;
      made = λ _. made ∙ c.made going;
      last = λ _. asked ∙ c.last going ∙ ap last_of (sym highs);
      early = λ _ early. highs ∙ c.early going (not_before (is_ready s.state) (is_ready new.state) ready early);
    }
open_counted settings s new sent messages going same timely c (tells count nonces made turns early ready) =
    let start = settings.salt % 2 ^ 64 in
    let next = next_is settings.salt s.settings.salt s.compact.made c.count (ap (λ (x : Settings). x.salt) c.same) (c.made going) in
    let turned_now = turned (highs_in sent) (highs_in messages) s.compact.asked_high new.compact.asked_high (c.last going) turns c.turns in
    let highs = filter_map-append high_in sent messages in
    record {
      count = c.count + count;
      nonces =
          filter_map-append nonce_in sent messages
          ∙ ap (λ (l : List ℕ). l ++ nonces_in messages) c.nonces
          ∙ ap (λ (l : List ℕ). nonces_from start c.count ++ l) (nonces ∙ ap (λ (n : ℕ). nonces_from n count) next)
          ∙ run_append start c.count count (small settings.salt);
      turns = subst AreAlternating (sym highs) turned_now.0;
      same = same;
      timely = timely;
      made = λ _. made_more s.compact.made c.count count new.compact.made (c.made going) made;
      last = λ _. turned_now.1 ∙ ap last_of (sym highs);
      early = λ _ e. more_highs sent messages (early e) ∙ c.early going (not_before (is_ready s.state) (is_ready new.state) ready e);
    }
open_counted settings s new sent messages going same timely c (greets at to is made asked) =
    let none = c.early going (ap is_ready at) in
    let highs : highs_in (sent ++ messages) ≡ highs_in (wishes s.peer.version) = ap (λ (l : List Message). highs_in (sent ++ l)) is ∙ greeted_highs sent s.peer.version none in
    let old = int_lt s.peer.version (pos 70012) in
    let older = int_lt s.peer.version (pos 70014) in
    record {
      count = c.count;
      nonces = more_nonces sent messages (ap nonces_in is ∙ greeting_nonces old older _) ∙ c.nonces;
      turns = subst AreAlternating (sym highs) (first_wish old older).0;
      same = same;
      timely = timely;
      made = λ _. made ∙ c.made going;
      last = λ _. asked ∙ c.last going ∙ ap last_of none ∙ sym (first_wish old older).1 ∙ ap last_of (sym highs);
      early = λ _ e. absurd (let clash : true ≡ false = ap is_ready (sym to) ∙ e in cc);
    }
open_counted settings s new sent messages going same timely c (over none closed) =
    let nonces = more_nonces sent messages (ap nonces_in none) in
    let highs = more_highs sent messages (ap highs_in none) in
    record {
      count = c.count;
      nonces = nonces ∙ c.nonces;
      turns = subst AreAlternating (sym highs) c.turns;
      same = same;
      timely = timely;
      made = λ e. absurd (let clash : true ≡ false = sym closed ∙ e in cc);
      last = λ e. absurd (let clash : true ≡ false = sym closed ∙ e in cc);
      early = λ e _. absurd (let clash : true ≡ false = sym closed ∙ e in cc);
    }

-- an entry finds a session that is over, or one that goes on
stays_counted : (settings : Settings) (s : SessionState) (sent : List Message) → Counted settings s sent → Counted settings s (sent ++ [])
stays_counted settings s sent c = subst (Counted settings s) (sym (append-nil sent)) c

entry_counted : (settings : Settings) (account : Account) (entry : TraceEntry) → Counted settings account.session account.sent → Counted settings (account_step account entry).session (account_step account entry).sent
entry_counted settings account entry c =
    let s = account.session in
    let same : (entry_step account.count s entry).session.settings ≡ settings = entry_settings account.count s entry ∙ c.same in
    step_cases (λ made. made.session.settings ≡ settings → Counted settings made.session (account.sent ++ made.messages)) account.count s entry (λ _ _. stays_counted settings s account.sent c)
    (λ why going kept_same. let p = closes_plays s why in open_counted settings s (closes why s).session account.sent [] going kept_same p.timely c p.plays)
    (λ going kept_same. let p = open_plays s entry.event c.timely in open_counted settings s (open_step s entry.event).session account.sent (open_step s entry.event).messages going kept_same p.timely c p.plays) same

opening_nonces : (settings : Settings) → nonces_in (openings settings) ≡ []
opening_nonces settings = elim (cases_Bool settings.inbound) [ inl inbound ↦ rw inbound refl | inr outbound ↦ rw outbound refl ]

opening_highs : (settings : Settings) → highs_in (openings settings) ≡ []
opening_highs settings = elim (cases_Bool settings.inbound) [ inl inbound ↦ rw inbound refl | inr outbound ↦ rw outbound refl ]

first_counted : (settings : Settings) → Counted settings (first_account settings).session (openings settings)
first_counted settings =
    let highs = opening_highs settings in
    record {
      count = 0;
      nonces = opening_nonces settings;
      turns = subst AreAlternating (sym highs) tt;
      same = refl;
      timely = λ late. absurd (let clash : false ≡ true = late in cc);
      made = λ _. refl;
      last = λ _. ap last_of (sym highs);
      early = λ _ _. highs;
    }

all_counted : (settings : Settings) (entries : List TraceEntry) → Counted settings (account_of settings entries).session (account_of settings entries).sent
all_counted settings entries = kept (λ (account : Account). Counted settings account.session account.sent) (entry_counted settings) settings entries (first_counted settings)

pub each_nonce : (settings : Settings) (entries : List TraceEntry) → nonces_in (sends settings entries) ≡ nonces_from (settings.salt % 2 ^ 64) (length (nonces_in (sends settings entries)))
each_nonce settings entries =
    let c = all_counted settings entries in
    c.nonces ∙ ap (nonces_from (settings.salt % 2 ^ 64)) (sym (ap length c.nonces ∙ run_length (settings.salt % 2 ^ 64) c.count))

pub nonce_once : (settings : Settings) (entries : List TraceEntry) (i j : ℕ) → i < j → j < length (nonces_in (sends settings entries)) → j < 2 ^ 64 → get_or (nonces_in (sends settings entries)) i 0 ≢ get_or (nonces_in (sends settings entries)) j 0
nonce_once settings entries i j before within few = run_once (settings.salt % 2 ^ 64) i j (nonces_in (sends settings entries)) (each_nonce settings entries) (small settings.salt) before within few

pub wishes_alternate : (settings : Settings) (entries : List TraceEntry) → AreAlternating (highs_in (sends settings entries))
wishes_alternate settings entries = (all_counted settings entries).turns
