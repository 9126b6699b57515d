-- Over a whole trace: each probe that finds the session ready is a `ping` with the next nonce.
use Rattle.std.proofs.Common.{◌≡◌, ℕ, ◌+◌, ◌^◌, Bool, true, false, cond, List, [], ◌∷◌, ◌++◌, Option, Some, None, length, refl, sym, ap, subst, ◌∙◌, append-nil, arith, inl, inr}
use Rattle.std.specs.Prelude.{◌%◌, ◌&&◌, not}
use Rattle.std.specs.List.{fold}
use Rattle.std.proofs.lemmas.Bool.{cases_Bool}
use Rattle.std.proofs.lemmas.List.Elements.{filter_map-append}
use Rattle.cb_base.specs.declared.hash.Hash256.{Hash256}
use Rattle.cb_block.specs.declared.block.Block.{Block}
use Rattle.cb_block.specs.declared.header.Header.{Header}
use Rattle.cb_hall.specs.declared.answer.Answer.{Answer}
use Rattle.cb_wire.specs.declared.inventory.Inventory.{Inventory}
use Rattle.cb_state.specs.declared.news.News.{News}
use Rattle.cb_peer_state.specs.Announcing.{announcing}
use Rattle.cb_peer_state.specs.Inventory.{asking_for}
use Rattle.cb_peer_state.specs.Serving.{nonces_from}
use Rattle.cb_wire.specs.declared.item.Item.{Item}
use Rattle.cb_wire.specs.declared.message.Message.{Message}
use Rattle.cb_wire.specs.declared.message.Message.TheVariants as messages
use Rattle.cb_peer_state.specs.declared.stage.Stage.{Stage}
use Rattle.cb_peer_state.specs.declared.event.Event.{Event}
use Rattle.cb_peer_state.specs.declared.event.Event.TheVariants as events
use Rattle.cb_peer_state.specs.declared.settings.Settings.{Settings}
use Rattle.cb_peer_state.specs.declared.pending.Pending.{Pending}
use Rattle.cb_peer_state.specs.declared.state.State.{State}
use Rattle.cb_peer_state.specs.declared.state.State.TheVariants.{Start, Greeted, Ready, Closed}
use Rattle.cb_peer_state.specs.declared.state.CloseReason.{CloseReason}
use Rattle.cb_peer_state.specs.declared.session_state.SessionState.{SessionState}
use Rattle.cb_peer_state.specs.Pings.{ping_nonce}
use Rattle.cb_peer_state.specs.Questions.{fits, question_left, question_of}
use Rattle.cb_peer_state.specs.Receiving.{Outcome}
use Rattle.cb_peer_state.specs.Replying.{answered, is_untold, tip_by, tip_told}
use Rattle.cb_peer_state.specs.Session.{Stepped, arrives, closes, for_item, open_step, openings, pinged, stays, told}
use Rattle.cb_peer_state.specs.State.{freed, is_closed, is_ready}
use Rattle.cb_peer_state.proofs.Cases.{by_test}
use Rattle.cb_peer_state.proofs.Sending.{IsCalm, IsMild, None_of, answered_none, txs_none_by}
use Rattle.cb_peer_state.proofs.Steps.{Comes, Fixed, answered_comes, fixed_of, goes, owed_at, stops}
use Rattle.cb_trace.specs.declared.trace.TraceEntry.{TraceEntry}
use Rattle.cb_trace.specs.Fold.{Account, account_of, account_step, first_account, sends}
use Rattle.cb_trace.specs.Whole.{is_heeded, is_probe, pings_in, probes_heeded}
use Rattle.cb_trace.proofs.Counted.{made_more, next_is, small}
use Rattle.cb_trace.proofs.Entries.{entry_settings}
use Rattle.cb_trace.proofs.Reached.{step_cases}
use Rattle.cb_trace.proofs.Runs.{run_append, run_length}

-- ---- answers and items send no `ping`

abbrev is_ping : Message → Bool
is_ping (messages.Ping nonce) = true
is_ping other = false

ping_mild : IsMild is_ping
ping_mild =
    record {
      version = λ _. refl;
      verack = refl;
      pong = λ _. refl;
      send_headers = refl;
      send_compact = λ _. refl;
      not_found = λ _. refl;
      get_headers = λ _. refl;
      tx = λ _. refl;
      block = λ _. refl;
      short = λ _. refl;
      get_txs = λ _. refl;
      txs = λ _. refl;
    }

none_asked : (entries : List Inventory) → None_of is_ping (asking_for entries)
none_asked [] = refl
none_asked (first ∷ others) = refl

none_announced : (by_headers : Bool) (tip : Hash256) (path : List Header) → None_of is_ping (announcing by_headers tip path)
none_announced true tip [] = refl
none_announced true tip (first ∷ others) = refl
none_announced false tip [] = refl
none_announced false tip (first ∷ others) = refl

none_by : (s : SessionState) (news : News) (block : Option Block) → None_of is_ping (tip_by s news block)
none_by s news (Some block) = refl
none_by s news None = none_announced (s.peer.by_headers && not news.long) news.tip news.path

none_of_tip : (s : SessionState) (news : News) → None_of is_ping (tip_told s news)
none_of_tip s news = by_test (None_of is_ping) (is_untold s news) [] (tip_by s news news.block) (λ _. refl) (λ _. none_by s news news.block)

ping_calm : (s : SessionState) (item : Option Item) (stage : Stage) (answer : Answer) → IsCalm is_ping s item stage answer
ping_calm s item stage answer =
    record {
      need = λ need. none_asked _;
      wanted = λ need _. none_asked _;
      tip = λ news. none_of_tip s news;
      txs = λ news. txs_none_by is_ping s item news.txids (λ _. refl);
      following = λ headers _. refl;
      whole = λ _ _. refl;
    }

none_in : (sent : List Message) → None_of is_ping sent → pings_in sent ≡ []
none_in [] none = refl
none_in (messages.Ping nonce ∷ sent) none = absurd (let clash : true ≡ false = none in cc)
none_in (message ∷ sent) none = none_in sent none

-- ---- steps

-- A step sends no `ping` and counts none.
record IsQuiet (s : SessionState) (made : Stepped) : Type 0 where
  none : pings_in made.messages ≡ []
  same : is_closed made.session.state ≡ false → made.session.probes ≡ s.probes

-- What a step of a session that went on is: it heeds no probe and is quiet, or it heeds one and pings.
data Probes (s : SessionState) (event : Event) (made : Stepped) : Type 0 where
  quiet : is_heeded s event made.session ≡ false → IsQuiet s made → Probes s event made
  pings : is_heeded s event made.session ≡ true → made ≡ pinged s → Probes s event made

stays_quiet : (s : SessionState) → IsQuiet s (stays s)
stays_quiet s = record { none = refl; same = λ _. refl }

closes_quiet : (s : SessionState) (why : CloseReason) → IsQuiet s (closes why s)
closes_quiet s why = record { none = refl; same = λ going. absurd (let clash : true ≡ false = going in cc) }

arrives_quiet : (pending : Option Pending) (s : SessionState) (item : Option Item) → IsQuiet s (arrives pending s item)
arrives_quiet None s item = record { none = refl; same = λ _. refl }
arrives_quiet (Some other) s item = stays_quiet s

comes_same : (s : SessionState) (item : Option Item) (left : ℕ) (nonces : List ℕ) (outcome : Outcome) → Comes (fixed_of s) left nonces outcome → is_closed outcome.session.state ≡ false → outcome.session.probes ≡ s.probes
comes_same s item left nonces outcome (goes going same next sent) after = ap (λ (fixed : Fixed). fixed.1) same
comes_same s item left nonces outcome (stops why other e) after =
    absurd (let clash : true ≡ false = sym (ap (λ (o : Outcome). is_closed o.session.state) e) ∙ after in cc)

told_quiet : (pending : Option Pending) (s : SessionState) (answer : Answer) → is_closed s.state ≡ false → IsQuiet s (told pending s answer)
told_quiet None s answer going = stays_quiet s
told_quiet (Some pending) s answer going =
    let outcome = answered (freed s) pending.item pending.stage answer in
    by_test (IsQuiet s) (fits (question_of s pending.item pending.stage) answer) (for_item pending.item outcome) (stays s)
    (λ fit.
    record {
      none = none_in outcome.messages (answered_none is_ping (freed s) pending.item pending.stage answer ping_mild (ping_calm (freed s) pending.item pending.stage answer));
      same = comes_same s pending.item (question_left pending.stage) (owed_at pending.stage pending.item) outcome (answered_comes s (freed s) pending.item pending.stage answer fit going);
    }) (λ _. stays_quiet s)

-- a session that isn't ready heeds no probe, and one that isn't ready afterwards has heeded none
unready : (probe before after : Bool) → before ≡ false → (probe && (before && after)) ≡ false
unready true true after e = absurd cc
unready true false after e = refl
unready false before after e = refl

unready_after : (probe before after : Bool) → after ≡ false → (probe && (before && after)) ≡ false
unready_after true true after e = e
unready_after true false after e = refl
unready_after false before after e = refl

both_ready : (ready : Bool) → ready ≡ true → (ready && ready) ≡ true
both_ready true e = refl
both_ready false e = absurd cc

open_probes : (s : SessionState) (event : Event) → is_closed s.state ≡ false → Probes s event (open_step s event)
unfolding open_step
open_probes s (events.Said item) going = quiet refl (arrives_quiet s.pending s (Some item))
open_probes s (events.Broken fault) going = quiet refl (closes_quiet s _)
open_probes s events.Tick going = quiet refl (arrives_quiet s.pending s None)
open_probes s events.Probe going =
    by_test (Probes s events.Probe) (is_ready s.state) (pinged s) (stays s) (λ ready. pings (both_ready (is_ready s.state) ready) refl)
    (λ other. quiet (unready true (is_ready s.state) (is_ready s.state) other) (stays_quiet s))
open_probes s (events.Told answer) going = quiet refl (told_quiet s.pending s answer going)
open_probes s events.ReaderEnd going = quiet refl (closes_quiet s _)
open_probes s events.NoMemory going = quiet refl (closes_quiet s _)
open_probes s events.HallFull going = quiet refl (closes_quiet s _)
open_probes s events.WriteFault going = quiet refl (closes_quiet s _)

-- ---- over all entries

-- So many pings were sent, with the nonces from the first one on. While the session goes on it knows
-- their number.
record Pinged (settings : Settings) (session : SessionState) (sent : List Message) (count : ℕ) : Type 0 where
  nonces : pings_in sent ≡ nonces_from (settings.nonce % 2 ^ 64) count
  same : session.settings ≡ settings
  known : is_closed session.state ≡ false → session.probes ≡ count % 2 ^ 64

none_more : (sent more : List Message) → pings_in more ≡ [] → pings_in (sent ++ more) ≡ pings_in sent
none_more sent more none = filter_map-append ping_nonce sent more ∙ ap (λ (l : List ℕ). pings_in sent ++ l) none ∙ append-nil (pings_in sent)

-- with this much more
abbrev heeded : Bool → ℕ
heeded b = cond b 1 0

quiet_pinged : (settings : Settings) (s : SessionState) (made : Stepped) (sent : List Message) (count : ℕ) (b : Bool) → b ≡ false → (is_closed made.session.state ≡ false → is_closed s.state ≡ false) → IsQuiet s made → made.session.settings ≡ settings
    → Pinged settings s sent count → Pinged settings made.session (sent ++ made.messages) (count + heeded b)
quiet_pinged settings s made sent count true e going q same p = absurd cc
quiet_pinged settings s made sent count false e going q same p =
    let more : count ≡ count + 0 = omega arith in
    subst (λ (n : ℕ). Pinged settings made.session (sent ++ made.messages) n) more
    (record { nonces = none_more sent made.messages q.none ∙ p.nonces; same = same; known = λ lasts. q.same lasts ∙ p.known (going lasts) })

pings_pinged : (settings : Settings) (s : SessionState) (sent : List Message) (count : ℕ) (b : Bool) → b ≡ true → is_closed s.state ≡ false → Pinged settings s sent count → Pinged settings (pinged s).session (sent ++ (pinged s).messages) (count + heeded b)
pings_pinged settings s sent count false e going p = absurd cc
pings_pinged settings s sent count true e going p =
    let start = settings.nonce % 2 ^ 64 in
    let next = next_is settings.nonce s.settings.nonce s.probes count (ap (λ (x : Settings). x.nonce) p.same) (p.known going) in
    record {
      nonces =
          filter_map-append ping_nonce sent (pinged s).messages
          ∙ ap (λ (l : List ℕ). l ++ pings_in (pinged s).messages) p.nonces
          ∙ ap (λ (n : ℕ). nonces_from start count ++ nonces_from n 1) next
          ∙ run_append start count 1 (small settings.nonce);
      same = p.same;
      known = λ _. made_more s.probes count 1 (pinged s).session.probes (p.known going) refl;
    }

probes_pinged : (settings : Settings) (s : SessionState) (event : Event) (made : Stepped) (sent : List Message) (count : ℕ) → is_closed s.state ≡ false → made.session.settings ≡ settings → Probes s event made
    → Pinged settings s sent count → Pinged settings made.session (sent ++ made.messages) (count + heeded (is_heeded s event made.session))
probes_pinged settings s event made sent count going same (quiet none q) p = quiet_pinged settings s made sent count (is_heeded s event made.session) none (λ _. going) q same p
probes_pinged settings s event made sent count going same (pings heard is) p =
    subst (λ (m : Stepped). Pinged settings m.session (sent ++ m.messages) (count + heeded (is_heeded s event made.session))) (sym is)
    (pings_pinged settings s sent count (is_heeded s event made.session) heard going p)

not_ready : (state : State) → is_closed state ≡ true → is_ready state ≡ false
not_ready Start e = absurd cc
not_ready Greeted e = absurd cc
not_ready Ready e = absurd cc
not_ready (Closed why) e = refl

entry_pinged : (settings : Settings) (account : Account) (entry : TraceEntry) (count : ℕ) → Pinged settings account.session account.sent count
    → Pinged settings (account_step account entry).session (account_step account entry).sent (count + heeded (is_heeded account.session entry.event (account_step account entry).session))
entry_pinged settings account entry count p =
    let s = account.session in
    let probe = is_probe entry.event in
    step_cases (λ made. made.session.settings ≡ settings → Pinged settings made.session (account.sent ++ made.messages) (count + heeded (is_heeded s entry.event made.session))) account.count s entry
    (λ closed same. quiet_pinged settings s (stays s) account.sent count (is_heeded s entry.event s) (unready probe (is_ready s.state) (is_ready s.state) (not_ready s.state closed)) (λ going. going) (stays_quiet s) same p)
    (λ why going same. quiet_pinged settings s (closes why s) account.sent count (is_heeded s entry.event (closes why s).session) (unready_after probe (is_ready s.state) false refl) (λ _. going) (closes_quiet s why) same p)
    (λ going same. probes_pinged settings s entry.event (open_step s entry.event) account.sent count going same (open_probes s entry.event going) p)
    (entry_settings account.count s entry ∙ p.same)

fold_pinged : (settings : Settings) (account : Account) (entries : List TraceEntry) (count : ℕ) → Pinged settings account.session account.sent count
    → Pinged settings (fold account_step account entries).session (fold account_step account entries).sent (count + probes_heeded account entries)
fold_pinged settings account [] count p =
    let more : count ≡ count + 0 = omega arith in
    subst (λ (n : ℕ). Pinged settings account.session account.sent n) more p
fold_pinged settings account (entry ∷ entries) count p =
    let next = account_step account entry in
    let one = heeded (is_heeded account.session entry.event next.session) in
    let rest = probes_heeded next entries in
    let sum : (count + one) + rest ≡ count + (one + rest) = omega arith in
    subst (λ (n : ℕ). Pinged settings (fold account_step next entries).session (fold account_step next entries).sent n) sum
    (fold_pinged settings next entries (count + one) (entry_pinged settings account entry count p))

opening_pings : (settings : Settings) → pings_in (openings settings) ≡ []
opening_pings settings = elim (cases_Bool settings.inbound) [ inl inbound ↦ rw inbound refl | inr outbound ↦ rw outbound refl ]

all_pinged : (settings : Settings) (entries : List TraceEntry) → Pinged settings (account_of settings entries).session (account_of settings entries).sent (0 + probes_heeded (first_account settings) entries)
unfolding account_of
all_pinged settings entries =
    fold_pinged settings (first_account settings) entries 0 (record { nonces = opening_pings settings; same = refl; known = λ _. refl })

pub pings_are : (settings : Settings) (entries : List TraceEntry) → pings_in (sends settings entries) ≡ nonces_from (settings.nonce % 2 ^ 64) (probes_heeded (first_account settings) entries)
pings_are settings entries =
    let none : 0 + probes_heeded (first_account settings) entries ≡ probes_heeded (first_account settings) entries = omega arith in
    (all_pinged settings entries).nonces ∙ ap (nonces_from (settings.nonce % 2 ^ 64)) none

pub many_pings : (settings : Settings) (entries : List TraceEntry) → length (pings_in (sends settings entries)) ≡ probes_heeded (first_account settings) entries
many_pings settings entries = ap length (pings_are settings entries) ∙ run_length (settings.nonce % 2 ^ 64) (probes_heeded (first_account settings) entries)
