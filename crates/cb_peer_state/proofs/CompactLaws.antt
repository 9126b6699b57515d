-- The laws that the table leads to.
use Rattle.std.proofs.Common.{◌≡◌, ◌≢◌, ◌∙◌, ℕ, zero, suc, ◌+◌, ◌^◌, ◌<◌, ◌≤◌, Bool, true, false, List, [], ◌∷◌, ◌++◌, Option, Some, None, length, refl, sym, ap, subst, arith, length-append}
use Rattle.std.specs.Prelude.{◌%◌, ◌==◌}
use Rattle.std.proofs.lemmas.Bool.{ne_eqb}
use Rattle.std.proofs.lemmas.List.Elements.{filter_map-append}
use Rattle.std.proofs.Math.Nat.{mod-add-div, mod-add-mod}
use Rattle.cb_chain.specs.Entries.{block_hash}
use Rattle.cb_compact.specs.Slots.{AreDifferent, Unfilled, is_among}
use Rattle.cb_hall.specs.declared.answer.Answer.{Answer}
use Rattle.cb_peer_state.specs.Serving.{nonce_in, nonces_from, nonces_in}
use Rattle.cb_wire.specs.declared.item.Item.{Item}
use Rattle.cb_peer_state.specs.Compact.{Fate, Requests, Wishes, brings, sent_at}
use Rattle.cb_peer_state.specs.Compact.Fate.{stays as still, ends as over_now, makes_way, comes}
use Rattle.cb_peer_state.specs.Compact.Requests.{none as unasked, one as asked_one}
use Rattle.cb_peer_state.specs.Compact.Wishes.{none as untold, one as told_one}
use Rattle.cb_peer_state.specs.Laws.{IsReached}
use Rattle.cb_peer_state.specs.Laws.IsReached.{opens, steps, stops}
use Rattle.cb_peer_state.specs.declared.event.Event.{Event}
use Rattle.cb_peer_state.specs.declared.pending.Pending.{Pending}
use Rattle.cb_peer_state.specs.declared.session_state.SessionState.{SessionState}
use Rattle.cb_peer_state.specs.declared.stage.Stage.{Stage}
use Rattle.cb_peer_state.specs.Questions.{short_in}
use Rattle.cb_peer_state.specs.Receiving.{Outcome}
use Rattle.cb_peer_state.specs.Replying.{answered}
use Rattle.cb_peer_state.specs.Session.{Stepped, for_item, pending_item, pending_of, stays, step_of}
use Rattle.cb_peer_state.specs.State.{freed, is_closed, is_ready, next_nonce}
use Rattle.cb_peer_state.proofs.CompactHonest.{LackExact, LackUnder}
use Rattle.cb_peer_state.proofs.CompactSteps.{step_by}
use Rattle.cb_peer_state.proofs.CompactTable.{Asks, Counts, Keeps, Tells, Turns, answered_turns, next_stays, next_suits, suits}
use Rattle.cb_peer_state.proofs.CompactTable.Asks.{no_asking, asking}
use Rattle.cb_peer_state.proofs.CompactTable.Keeps.{same_one, is_over, newer, came}
use Rattle.cb_peer_state.proofs.CompactTable.Counts.{stopped, used}
use Rattle.cb_peer_state.proofs.CompactTable.Tells.{no_wish, one_wish}

any_turns : (s : SessionState) (pending : Pending) (answer : Answer) → Turns false (freed s) pending.item (answered (freed s) pending.item pending.stage answer)
any_turns s pending answer = answered_turns false (freed s) pending.item pending.stage answer (λ e. absurd cc)

-- ---- which question is open

abbrev pub pending_suits : Option Pending → Bool
pending_suits None = true
pending_suits (Some pending) = suits pending.stage pending.item

next_pending : (item : Option Item) (next : Option Stage) → next_suits next item ≡ true → pending_suits (pending_of item next) ≡ true
next_pending item None e = refl
next_pending item (Some stage) e = e

pub reached_suits : (s : SessionState) → IsReached s → pending_suits s.pending ≡ true
reached_suits s (opens settings) = refl
reached_suits s (steps before event reached) =
    let there = reached_suits before reached in
    step_by (λ (step : Stepped). pending_suits step.session.pending ≡ true) before event there there (λ why. refl) (λ item. refl)
    (λ answer pending e fit going.
    let suited : suits pending.stage pending.item ≡ true = sym (ap pending_suits e) ∙ there in
    let outcome = answered (freed before) pending.item pending.stage answer in
    next_pending pending.item outcome.next ((answered_turns true (freed before) pending.item pending.stage answer (λ _. suited)).suited refl))
reached_suits s (stops before why reached) = refl

-- ---- the block that is being rebuilt

fate_by : (s : SessionState) (partial : Unfilled) (pending : Pending) (outcome : Outcome) → s.compact.partial ≡ Some partial → s.pending ≡ Some pending → Keeps (freed s) pending.item outcome → Fate partial s (for_item pending.item outcome)
fate_by s partial pending outcome at e (same_one kept) = still (kept ∙ at)
fate_by s partial pending outcome at e (is_over closed) = over_now closed
fate_by s partial pending outcome at e (newer other request kept sent) = makes_way other request kept sent
fate_by s partial pending outcome at e (came brought) = comes (ap (λ (waits : Option Pending). brings (block_hash partial.header) (pending_item waits)) e ∙ brought partial at)

pub fate_of : (s : SessionState) (event : Event) (partial : Unfilled) → s.compact.partial ≡ Some partial → Fate partial s (step_of s event)
fate_of s event partial at =
    step_by (Fate partial s) s event (still at) (still at) (λ why. over_now refl) (λ item. still at)
    (λ answer pending e fit going. fate_by s partial pending (answered (freed s) pending.item pending.stage answer) at e (any_turns s pending answer).keeps)

-- ---- what is requested

requests_by : LackUnder → LackExact → (s : SessionState) (pending : Pending) (outcome : Outcome) → s.pending ≡ Some pending → Asks pending.item outcome → Requests s (for_item pending.item outcome)
requests_by under exact s pending outcome e (no_asking silent) = unasked silent
requests_by under exact s pending outcome e (asking short pairs partial request is lacks sent kept) =
    let both = under short pairs partial request lacks in
    let there : short_in (pending_item s.pending) ≡ Some short = ap (λ (waits : Option Pending). short_in (pending_item waits)) e ∙ is in
    asked_one request sent (short, partial, there, kept, both.0, both.1, exact short pairs partial request lacks)

pub requests_of : LackUnder → LackExact → (s : SessionState) (event : Event) → Requests s (step_of s event)
requests_of under exact s event =
    step_by (Requests s) s event (unasked refl) (unasked refl) (λ why. unasked refl) (λ item. unasked refl)
    (λ answer pending e fit going. requests_by under exact s pending (answered (freed s) pending.item pending.stage answer) e (any_turns s pending answer).requested)

-- ---- nonces

long_nonces : (nonce count : ℕ) → length (nonces_from nonce count) ≡ count
long_nonces nonce zero = refl
long_nonces nonce (suc count) = ap (λ n. suc n) (long_nonces ((nonce + 1) % 2 ^ 64) count)

-- what the nonces of a step are, and that of the next
abbrev pub IsCounted : SessionState → Stepped → Type 0
IsCounted s step = (nonces_in step.messages ≡ nonces_from (next_nonce s) (length (nonces_in step.messages))) × (is_closed step.session.state ≡ false → next_nonce step.session ≡ (next_nonce s + length (nonces_in step.messages)) % 2 ^ 64)

counted_by : (s : SessionState) (item : Option Item) (outcome : Outcome) → Counts (freed s) outcome → IsCounted s (for_item item outcome)
counted_by s item outcome (stopped closed silent none) =
    (rw silent refl, λ going. absurd (let clash : true ≡ false = sym closed ∙ going in cc))
counted_by s item outcome (used count sent next) =
    let many : length (nonces_in outcome.messages) ≡ count = ap (λ (ns : List ℕ). length ns) sent ∙ long_nonces (next_nonce s) count in
    (sent ∙ ap (nonces_from (next_nonce s)) (sym many), λ _. next ∙ ap (λ (n : ℕ). (next_nonce s + n) % 2 ^ 64) (sym many))

pub counted : (s : SessionState) (event : Event) → IsCounted s (step_of s event)
counted s event =
    step_by (IsCounted s) s event (refl, λ _. next_stays s.settings.salt s.compact.made) (refl, λ _. next_stays s.settings.salt s.compact.made) (λ why. (refl, λ going. absurd cc)) (λ item. (refl, λ _. next_stays s.settings.salt s.compact.made))
    (λ answer pending e fit going. counted_by s pending.item (answered (freed s) pending.item pending.stage answer) (any_turns s pending answer).counts)

small_nonce : (n : ℕ) → (n % 2 ^ 64) % 2 ^ 64 ≡ n % 2 ^ 64
small_nonce n = ap (λ (k : ℕ). k % 2 ^ 64) (let same : n % 2 ^ 64 ≡ n % 2 ^ 64 + 0 = omega arith in same) ∙ mod-add-mod n (2 ^ 64) 0 ∙ ap (λ (k : ℕ). k % 2 ^ 64) (let same : n + 0 ≡ n = omega arith in same)

-- one behind another, over two parts
both_nonces : (nonce first others : ℕ) → nonce % 2 ^ 64 ≡ nonce → nonces_from nonce (first + others) ≡ nonces_from nonce first ++ nonces_from ((nonce + first) % 2 ^ 64) others
both_nonces nonce zero others small = ap (nonces_from nonce) (let none : zero + others ≡ others = omega arith in none) ∙ ap (λ n. nonces_from n others) (sym (ap (λ n. n % 2 ^ 64) (let same : nonce + 0 ≡ nonce = omega arith in same) ∙ small))
both_nonces nonce (suc first) others small =
    let next = (nonce + 1) % 2 ^ 64 in
    let within : next % 2 ^ 64 ≡ next = small_nonce (nonce + 1) in
    let there : (next + first) % 2 ^ 64 ≡ (nonce + suc first) % 2 ^ 64 = mod-add-mod (nonce + 1) (2 ^ 64) first ∙ ap (λ n. n % 2 ^ 64) (let same : nonce + 1 + first ≡ nonce + suc first = omega arith in same) in
    ap (nonces_from nonce) (let more : suc first + others ≡ suc (first + others) = omega arith in more) ∙ ap (λ (ns : List ℕ). nonce ∷ ns) (both_nonces next first others within ∙ ap (λ n. nonces_from next first ++ nonces_from n others) there)

-- a session that is over sends nothing
over_stays : (s : SessionState) (event : Event) → is_closed s.state ≡ true → step_of s event ≡ stays s
unfolding step_of
over_stays s event closed = rw closed refl

over_silent : (s : SessionState) (events : List Event) → is_closed s.state ≡ true → sent_at s events ≡ []
over_silent s [] closed = refl
over_silent s (event ∷ events) closed = ap (λ (step : Stepped). step.messages ++ sent_at step.session events) (over_stays s event closed) ∙ over_silent s events closed

run_from : (s : SessionState) (events : List Event) (count : ℕ) → ((t : SessionState) → nonces_in (sent_at t events) ≡ nonces_from (next_nonce t) (length (nonces_in (sent_at t events)))) → (step : Stepped) → IsCounted s step → next_nonce s % 2 ^ 64 ≡ next_nonce s → length (nonces_in (step.messages ++ sent_at step.session events)) ≡ count → nonces_in (step.messages ++ sent_at step.session events) ≡ nonces_from (next_nonce s) count
run_from s events count later step (sent, next) small many =
    let rest = sent_at step.session events in
    let parts : nonces_in (step.messages ++ rest) ≡ nonces_in step.messages ++ nonces_in rest = filter_map-append nonce_in step.messages rest in
    let first = length (nonces_in step.messages) in
    let others = length (nonces_in rest) in
    let sum : first + others ≡ count = sym (length-append (nonces_in step.messages) (nonces_in rest)) ∙ ap (λ (ns : List ℕ). length ns) (sym parts) ∙ many in
    let behind : nonces_in rest ≡ nonces_from ((next_nonce s + first) % 2 ^ 64) others =
    by_closed (is_closed step.session.state) refl in
    parts ∙ ap (λ (ns : List ℕ). ns ++ nonces_in rest) sent ∙ ap (λ (ns : List ℕ). nonces_from (next_nonce s) first ++ ns) behind ∙ sym (both_nonces (next_nonce s) first others small) ∙ ap (nonces_from (next_nonce s)) sum
  where
    by_closed : (closed : Bool) → is_closed step.session.state ≡ closed → nonces_in (sent_at step.session events) ≡ nonces_from ((next_nonce s + length (nonces_in step.messages)) % 2 ^ 64) (length (nonces_in (sent_at step.session events)))
    by_closed true is = rw (over_silent step.session events is) refl
    by_closed false is = later step.session ∙ ap (λ n. nonces_from n (length (nonces_in (sent_at step.session events)))) (next is)

pub run_counted : (s : SessionState) (events : List Event) → nonces_in (sent_at s events) ≡ nonces_from (next_nonce s) (length (nonces_in (sent_at s events)))
run_counted s [] = refl
run_counted s (event ∷ events) = run_from s events (length (nonces_in (sent_at s (event ∷ events)))) (λ t. run_counted t events) (step_of s event) (counted s event) (small_nonce (s.settings.salt + s.compact.made)) refl

pub apart : (nonce first second : ℕ) → first < second → second < first + 18446744073709551616 → (nonce + first) % 2 ^ 64 ≢ (nonce + second) % 2 ^ 64
apart nonce first second less close e =
    absurd (omega (arith, less, close, e, mod-add-div (nonce + first) (2 ^ 64), mod-add-div (nonce + second) (2 ^ 64)))

-- all that come behind one differ from it
not_behind : (nonce k count : ℕ) → 0 < k → k + count ≤ 18446744073709551616 → is_among (nonce % 2 ^ 64) (nonces_from ((nonce + k) % 2 ^ 64) count) ≡ false
not_behind nonce k zero later few = refl
not_behind nonce k (suc count) later few =
    let next : ((nonce + k) % 2 ^ 64 + 1) % 2 ^ 64 ≡ (nonce + (k + 1)) % 2 ^ 64 = mod-add-mod (nonce + k) (2 ^ 64) 1 ∙ ap (λ (n : ℕ). n % 2 ^ 64) (let same : nonce + k + 1 ≡ nonce + (k + 1) = omega arith in same) in
    let here : (nonce + 0) % 2 ^ 64 ≢ (nonce + k) % 2 ^ 64 = apart nonce 0 k later (omega (arith, few)) in
    let same : nonce + 0 ≡ nonce = omega arith in
    let differs : ((nonce + k) % 2 ^ 64 == nonce % 2 ^ 64) ≡ false = ne_eqb ((nonce + k) % 2 ^ 64) (nonce % 2 ^ 64) (λ e. here (ap (λ (n : ℕ). n % 2 ^ 64) same ∙ sym e)) in
    let others : is_among (nonce % 2 ^ 64) (nonces_from (((nonce + k) % 2 ^ 64 + 1) % 2 ^ 64) count) ≡ false =
    ap (λ (n : ℕ). is_among (nonce % 2 ^ 64) (nonces_from n count)) next ∙ not_behind nonce (k + 1) count (omega arith) (omega (arith, few)) in
    rw differs others

all_differ : (nonce count : ℕ) → nonce % 2 ^ 64 ≡ nonce → count ≤ 18446744073709551616 → AreDifferent (nonces_from nonce count)
all_differ nonce zero small few = tt
all_differ nonce (suc count) small few =
    (ap (λ (n : ℕ). is_among n (nonces_from ((nonce + 1) % 2 ^ 64) count)) (sym small) ∙ not_behind nonce 1 count (omega arith) (omega (arith, few)), all_differ ((nonce + 1) % 2 ^ 64) count (small_nonce (nonce + 1)) (omega (arith, few)))

pub run_differs : (s : SessionState) (events : List Event) → length (nonces_in (sent_at s events)) ≤ 2 ^ 64 → AreDifferent (nonces_in (sent_at s events))
run_differs s events few =
    subst AreDifferent (sym (run_counted s events)) (all_differ (next_nonce s) (length (nonces_in (sent_at s events))) (small_nonce (s.settings.salt + s.compact.made)) (omega (arith, few)))

-- ---- wishes

wishes_by : (s : SessionState) (item : Option Item) (outcome : Outcome) → Tells (freed s) outcome → Wishes s (for_item item outcome)
wishes_by s item outcome (no_wish silent) = untold silent
wishes_by s item outcome (one_wish high sent new) = told_one high sent (record { capable = new.capable; other = new.other; kept = new.kept })

pub wishes_of : (s : SessionState) (event : Event) → is_ready s.state ≡ true → Wishes s (step_of s event)
wishes_of s event ready =
    step_by (Wishes s) s event (untold refl) (untold refl) (λ why. untold refl) (λ item. untold refl)
    (λ answer pending e fit going. wishes_by s pending.item (answered (freed s) pending.item pending.stage answer) ((any_turns s pending answer).tells ready))
