-- What an entry makes of a session that goes on.
use Rattle.std.proofs.Common.{◌≡◌, ℕ, ◌+◌, ◌≢◌, ◌<◌, Bool, true, false, cond, eqb, Some, None, ◌∙◌, refl, sym, ap, subst, inl, inr, ◌⊎◌}
use Rattle.std.specs.Prelude.{◌^◌}
use Rattle.cb_peer_state.specs.Fetching.{idle}
use Rattle.cb_hall.specs.declared.answer.Answer.{Answer}
use Rattle.cb_hall.specs.declared.question.Question.{Question}
use Rattle.cb_peer_state.specs.declared.event.Event.{Event}
use Rattle.cb_peer_state.specs.declared.event.Event.TheVariants as events
use Rattle.cb_peer_state.specs.declared.state.State.TheVariants.{Closed}
use Rattle.cb_peer_state.specs.declared.state.CloseReason.{CloseReason}
use Rattle.cb_peer_state.specs.declared.state.CloseReason.TheVariants as reasons
use Rattle.cb_peer_state.specs.Questions.{fits, questions_left, pending_question}
use Rattle.cb_peer_state.specs.Event.{ends_at_once, is_reader_end}
use Rattle.cb_peer_state.specs.Session.{Stepped, closes, open_step, stays, step_of}
use Rattle.cb_peer_state.specs.declared.session_state.SessionState.{SessionState}
use Rattle.cb_peer_state.specs.State.{is_closed}
use Rattle.cb_peer_state.proofs.Steps.{AsksIt, IsOver, Steps, closes_over, ends_by, goes_on, open_asks, open_bye, open_ends, open_fewer, open_over, open_settings, open_steps, passes}
use Rattle.cb_trace.specs.declared.trace.TraceEntry.{TraceEntry}
use Rattle.cb_trace.specs.Fold.{entry_step}
use Rattle.cb_trace.proofs.Folds.{entry_cases}

-- one that ends the session is silent, and leaves nothing pending
pub entry_over : (count : ℕ) (s : SessionState) (entry : TraceEntry) → is_closed s.state ≡ false → is_closed (entry_step count s entry).session.state ≡ true → IsOver (entry_step count s entry)
entry_over count s entry going =
    entry_cases (λ made. is_closed made.session.state ≡ true → IsOver made) count s entry going (λ _ _. closes_over s reasons.TraceFull) (λ _ _ _. closes_over s reasons.Memory) (λ _ _. open_over s entry.event going)

-- an event that ends the session at once ends it
pub entry_ends : (count : ℕ) (s : SessionState) (entry : TraceEntry) → is_closed s.state ≡ false → ends_at_once entry.event ≡ true → is_closed (entry_step count s entry).session.state ≡ true
entry_ends count s entry going e =
    entry_cases (λ made. is_closed made.session.state ≡ true) count s entry going (λ _. refl) (λ _ _. refl) (λ _ _. open_ends s entry.event e)

-- the entry number 2^62 ends the session
pub entry_full : (count : ℕ) (s : SessionState) (entry : TraceEntry) → is_closed s.state ≡ false → is_closed (entry_step count s entry).session.state ≡ false → count + 1 ≢ 2 ^ 62
entry_full count s entry going =
    entry_cases (λ made. is_closed made.session.state ≡ false → count + 1 ≢ 2 ^ 62) count s entry going (λ _ closed. absurd cc) (λ more _ _. more) (λ more _ _. more)

-- a step that was fed is the session's own
pub fed_is : (before : ℕ) (s : SessionState) (event : Event) → is_closed s.state ≡ false → before + 1 ≢ 2 ^ 62 → entry_step before s (record { event = event; starved = false }) ≡ step_of s event
unfolding step_of
fed_is before s event going other =
    let same : step_of s event ≡ open_step s event = ap (λ b. cond b (stays s) (open_step s event)) going in
    entry_cases (λ made. made ≡ step_of s event) before s (record { event = event; starved = false }) going
    (λ full. absurd (other full)) (λ _ starved. absurd (let e : false ≡ true = starved in cc)) (λ _ _. sym same)

-- the question that it asks is open, or nothing changed
pub entry_asks : (count : ℕ) (s : SessionState) (entry : TraceEntry) → is_closed s.state ≡ false → AsksIt s (entry_step count s entry)
entry_asks count s entry going = entry_cases (AsksIt s) count s entry going (λ _. inl refl) (λ _ _. inl refl) (λ _ _. open_asks s entry.event)

-- an answer that fits the open question leaves fewer to be waited for
pub entry_fewer : (count : ℕ) (s : SessionState) (question : Question) (answer : Answer) (starved : Bool) → is_closed s.state ≡ false → pending_question s ≡ Some question → fits question answer ≡ true
    → is_closed (entry_step count s (record { event = events.Told answer; starved = starved })).session.state ≡ false
    → questions_left (entry_step count s (record { event = events.Told answer; starved = starved })).session.pending < questions_left s.pending
entry_fewer count s question answer starved going asked fit =
    entry_cases (λ made. is_closed made.session.state ≡ false → questions_left made.session.pending < questions_left s.pending) count s (record { event = events.Told answer; starved = starved }) going
    (λ _ x. absurd cc) (λ _ _ x. absurd cc) (λ _ _ x. open_fewer s question answer going asked fit x)

-- ---- of any session

-- an entry at a session that is over changes nothing
over_stays : (count : ℕ) (s : SessionState) (entry : TraceEntry) → is_closed s.state ≡ true → entry_step count s entry ≡ stays s
over_stays count s entry closed = ap (λ b. cond b (stays s) (cond (eqb (count + 1) (2 ^ 62)) (closes reasons.TraceFull s) (cond entry.starved (closes reasons.Memory s) (open_step s entry.event)))) closed

-- by cases on whether the session is over
entry_either : (P : Stepped → Type 0) (count : ℕ) (s : SessionState) (entry : TraceEntry) → (is_closed s.state ≡ true → P (stays s)) → (is_closed s.state ≡ false → P (entry_step count s entry)) → P (entry_step count s entry)
entry_either P count s entry over lasts =
    let by_state : (b : Bool) → is_closed s.state ≡ b → P (entry_step count s entry) =
    elim [ true ↦ λ closed. subst P (sym (over_stays count s entry closed)) (over closed) | false ↦ λ going. lasts going ] in
    by_state (is_closed s.state) refl

-- what a session was given stays
pub entry_settings : (count : ℕ) (s : SessionState) (entry : TraceEntry) → (entry_step count s entry).session.settings ≡ s.settings
entry_settings count s entry =
    entry_either (λ made. made.session.settings ≡ s.settings) count s entry (λ _. refl)
    (λ going. entry_cases (λ made. made.session.settings ≡ s.settings) count s entry going (λ _. refl) (λ _ _. refl) (λ _ _. open_settings s entry.event going))

clash_bye : {P : Type 0} (why : CloseReason) → why ≢ reasons.Bye → Closed why ≡ Closed reasons.Bye → P
clash_bye why other e = absurd (other (let same : why ≡ reasons.Bye = cc in same))

-- a session that the peer's end closed was closed by it before, or was given it
pub entry_bye : (count : ℕ) (s : SessionState) (entry : TraceEntry) → (entry_step count s entry).session.state ≡ Closed reasons.Bye → (s.state ≡ Closed reasons.Bye) ⊎ (is_reader_end entry.event ≡ true)
entry_bye count s entry =
    entry_either (λ made. made.session.state ≡ Closed reasons.Bye → (s.state ≡ Closed reasons.Bye) ⊎ (is_reader_end entry.event ≡ true)) count s entry (λ closed e. inl e)
    (λ going. entry_cases (λ made. made.session.state ≡ Closed reasons.Bye → (s.state ≡ Closed reasons.Bye) ⊎ (is_reader_end entry.event ≡ true)) count s entry going
    (λ _ e. clash_bye reasons.TraceFull (λ x. cc) e) (λ _ _ e. clash_bye reasons.Memory (λ x. cc) e) (λ _ _ e. inr (open_bye s entry.event going e)))

-- the question that an entry asks is open, or nothing changed
pub entry_asks_any : (count : ℕ) (s : SessionState) (entry : TraceEntry) → AsksIt s (entry_step count s entry)
entry_asks_any count s entry = entry_either (AsksIt s) count s entry (λ _. inr (refl, refl, refl)) (λ going. entry_asks count s entry going)

-- ---- what is left of a session that is over

-- No question is open, and no block is being downloaded or rebuilt.
pub record HasNothingLeft (s : SessionState) : Type 0 where
  pub pending : s.pending ≡ None
  pub fetch : s.fetch ≡ idle
  pub partial : s.compact.partial ≡ None

closes_left : (s : SessionState) (why : CloseReason) → HasNothingLeft (closes why s).session
closes_left s why = record { pending = refl; fetch = refl; partial = refl }

steps_left : (s : SessionState) (event : Event) (made : Stepped) → Steps s event made → is_closed s.state ≡ false → is_closed made.session.state ≡ true → HasNothingLeft made.session
steps_left s event made (passes e) going closed = absurd (let clash : false ≡ true = sym going ∙ ap (λ (m : Stepped). is_closed m.session.state) (sym e) ∙ closed in cc)
steps_left s event made (goes_on after same) going closed = absurd (let clash : false ≡ true = sym after ∙ closed in cc)
steps_left s event made (ends_by why bye e) going closed = subst (λ (m : Stepped). HasNothingLeft m.session) (sym e) (closes_left s why)

-- an entry that ends a session leaves nothing, and one behind that changes nothing
pub entry_left : (count : ℕ) (s : SessionState) (entry : TraceEntry) → (is_closed s.state ≡ true → HasNothingLeft s) → is_closed (entry_step count s entry).session.state ≡ true → HasNothingLeft (entry_step count s entry).session
entry_left count s entry left =
    entry_either (λ made. is_closed made.session.state ≡ true → HasNothingLeft made.session) count s entry (λ _. left)
    (λ going. entry_cases (λ made. is_closed made.session.state ≡ true → HasNothingLeft made.session) count s entry going
    (λ _ _. closes_left s reasons.TraceFull) (λ _ _ _. closes_left s reasons.Memory) (λ _ _. steps_left s entry.event (open_step s entry.event) (open_steps s entry.event going) going))
