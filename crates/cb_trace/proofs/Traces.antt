-- A trace, one entry at a time, and its checkpoints.
use Rattle.std.proofs.Common.{◌≡◌, ℕ, ◌+◌, ◌*◌, ◌-◌, ◌<◌, ◌≤◌, Bool, true, false, List, [], ◌∷◌, ◌++◌, Option, Some, None, Result, Err, refl, sym, ap, subst, ◌∙◌, append_assoc, arith, inl, inr}
use Rattle.std.specs.Prelude.{◌^◌, ◌||◌, IsOk, is_none, min, nat_lt, not, length}
use Rattle.std.specs.List.{fold}
use Rattle.std.proofs.lemmas.Bool.{and_parts}
use Rattle.std.proofs.lemmas.List.Sums.{sum_by_push}
use Rattle.std.proofs.lemmas.List.{append-nil}
use Rattle.cb_base.specs.declared.fault.Fault.{Fault}
use Rattle.cb_compact.specs.Slots.{Unfilled}
use Rattle.cb_peer_state.specs.Fetching.{idle}
use Rattle.cb_wire.specs.declared.message.Message.{Message}
use Rattle.cb_hall.specs.declared.question.Question.{Question}
use Rattle.cb_peer_state.specs.declared.settings.Settings.{Settings}
use Rattle.cb_peer_state.specs.declared.event.Event.{Event}
use Rattle.cb_peer_state.specs.declared.event.Event.TheVariants as events
use Rattle.cb_peer_state.specs.declared.pending.Pending.{Pending}
use Rattle.cb_trace.specs.declared.trace.TraceEntry.{TraceEntry}
use Rattle.cb_trace.specs.declared.trace.Counts.{Counts}
use Rattle.cb_peer_state.specs.Questions.{pending_question}
use Rattle.cb_peer_state.specs.Event.{ends_at_once, held_by}
use Rattle.cb_peer_state.specs.Outcomes.{Answers}
use Rattle.cb_peer_state.specs.Session.{Stepped, is_light, spares, takes_no_memory}
use Rattle.cb_peer_state.specs.declared.session_state.SessionState.{SessionState}
use Rattle.cb_peer_state.specs.State.{is_closed, opening}
use Rattle.cb_peer_state.proofs.Steps.{AsksIt}
use Rattle.cb_trace.specs.Fold.{Account, account_of, account_step, entry_step, first_account, session_of}
use Rattle.cb_trace.specs.Trace.{AreCounts, AsksPending, Grows, IsShed, IsTrace, LacksBase, NeedsBase, Rests, StandsFor, TraceSteps, TraceView, counts_with, held_of, is_due, next_step, weight_of}
use Rattle.cb_trace.proofs.Folds.{EachOpen_more, account_of_more, count_is, counts_more, items_few, told_few}
use Rattle.cb_trace.proofs.Entries.{HasNothingLeft, entry_asks, entry_ends, entry_full, entry_left}

abbrev pub view : Settings → SessionState → Counts → List TraceEntry → SessionState → Counts → ℕ → TraceView
view settings base before entries session total room =
    record { settings = settings; base = base; before = before; entries = entries; session = session; total = total; room = room }

-- ---- at the beginning

pub stands_first : (settings : Settings) (base session : SessionState) (none : Counts) (room : ℕ) → base ≡ opening settings → session ≡ opening settings → none ≡ record { entries = 0; items = 0; told = 0 }
    → StandsFor (view settings base none [] session none room) []
unfolding account_of
stands_first settings base session none room b s n = record { dropped = []; parts = refl; base = b; before = n; session = s; total = n; each = tt }

pub trace_first : (settings : Settings) (base session : SessionState) (none : Counts) (room : ℕ) → base ≡ opening settings → session ≡ opening settings → none ≡ record { entries = 0; items = 0; told = 0 } → 1 ≤ room
    → IsTrace (view settings base none [] session none room)
trace_first settings base session none room b s n r =
    record { history = []; stands = stands_first settings base session none room b s n; free = ap (λ (x : SessionState). x.pending) b; spare = λ _. r; limit = λ _. (let zero = ap (λ (c : Counts). c.entries) n in omega (arith, zero)) }

-- ---- one entry more

-- the step of the next entry is that of the history
pub next_is : (trace : TraceView) (history : List TraceEntry) (entry : TraceEntry) → StandsFor trace history
    → next_step trace entry ≡ entry_step (account_of trace.settings history).count (session_of trace.settings history) entry
next_is trace history entry h =
    let count : trace.total.entries ≡ (account_of trace.settings history).count = ap (λ (c : Counts). c.entries) h.total ∙ sym (count_is trace.settings history) in
    ap (λ (k : ℕ). entry_step k trace.session entry) count ∙ ap (λ (s : SessionState). entry_step (account_of trace.settings history).count s entry) h.session

-- the numbers of a history for which an open trace stands
pub are_counts : (trace : TraceView) (history : List TraceEntry) → StandsFor trace history → trace.total.entries < 2 ^ 62 → AreCounts trace.total
are_counts trace history h few =
    record {
      few = few;
      items = (let a = ap (λ (c : Counts). c.items) h.total in let b = ap (λ (c : Counts). c.entries) h.total in omega (arith, a, b, items_few history));
      told = (let a = ap (λ (c : Counts). c.told) h.total in let b = ap (λ (c : Counts). c.entries) h.total in omega (arith, a, b, told_few history));
    }

-- what changes in a trace with an entry
pub record Puts (base : SessionState) (settings : Settings) (before : Counts) (es es' : List TraceEntry) (x x' : SessionState) (t t' : Counts) (r r' : ℕ) (entry : TraceEntry) (sent : List Message) (asked : Option Question) : Type 0 where
  pub trace : IsTrace (view settings base before es x t r)
  pub going : is_closed x.state ≡ false
  pub answers : Answers (entry_step t.entries x entry) x' sent asked
  pub more : es' ≡ es ++ entry ∷ []
  pub counted : t' ≡ counts_with t entry.event
  pub less : r' + 1 ≡ r
  pub last : ends_at_once entry.event ≡ false → 2 ≤ r

pub stands_more : (base : SessionState) (settings : Settings) (before : Counts) (es es' : List TraceEntry) (x x' : SessionState) (t t' : Counts) (r r' : ℕ) (entry : TraceEntry) (sent : List Message) (asked : Option Question)
    → Puts base settings before es es' x x' t t' r r' entry sent asked
    → (history : List TraceEntry) → StandsFor (view settings base before es x t r) history → StandsFor (view settings base before es' x' t' r') (history ++ entry ∷ [])
stands_more base settings before es es' x x' t t' r r' entry sent asked p history h =
    record {
      dropped = h.dropped;
      parts = ap (λ (l : List TraceEntry). l ++ entry ∷ []) h.parts ∙ append_assoc h.dropped es (entry ∷ []) ∙ ap (λ (l : List TraceEntry). h.dropped ++ l) (sym p.more);
      base = h.base;
      before = h.before;
      session =
          p.answers.after
          ∙ ap (λ (made : Stepped). made.session) (next_is (view settings base before es x t r) history entry h)
          ∙ sym (ap (λ (a : Account). a.session) (account_of_more settings history entry));
      total = p.counted ∙ ap (λ (c : Counts). counts_with c entry.event) h.total ∙ counts_more history entry;
      each = EachOpen_more settings history entry h.each (ap (λ (s : SessionState). is_closed s.state) (sym h.session) ∙ p.going);
    }

pub trace_more : (base : SessionState) (settings : Settings) (before : Counts) (es es' : List TraceEntry) (x x' : SessionState) (t t' : Counts) (r r' : ℕ) (entry : TraceEntry) (sent : List Message) (asked : Option Question)
    → Puts base settings before es es' x x' t t' r r' entry sent asked → IsTrace (view settings base before es' x' t' r')
trace_more base settings before es es' x x' t t' r r' entry sent asked p =
    let stepped : is_closed x'.state ≡ false → is_closed (entry_step t.entries x entry).session.state ≡ false =
    λ h. subst (λ (s : SessionState). is_closed s.state ≡ false) p.answers.after h in
    let less = p.less in
    let few = p.trace.limit p.going in
    let counted : t'.entries ≡ t.entries + 1 = ap (λ (c : Counts). c.entries) p.counted in
    record {
      history = p.trace.history ++ entry ∷ [];
      stands = stands_more base settings before es es' x x' t t' r r' entry sent asked p p.trace.history p.trace.stands;
      free = p.trace.free;
      spare = λ h.
          let keeps : (b : Bool) → ends_at_once entry.event ≡ b → 1 ≤ r' =
          elim [
            | true ↦ λ e. absurd (let one = entry_ends t.entries x entry p.going e in let two = stepped h in let three = sym one ∙ two in cc)
            | false ↦ λ e. (let two = p.last e in omega (arith, two, less))
          ] in
          keeps (ends_at_once entry.event) refl;
      limit = λ h. (let more = entry_full t.entries x entry p.going (stepped h) in omega (arith, more, few, counted));
    }

-- the question that was asked is open, or none was asked
asks_pending : (s s' : SessionState) (made : Stepped) (asked : Option Question) → s' ≡ made.session → asked ≡ made.question → AsksIt s made → AsksPending s s' asked
asks_pending s s' made asked same question (inl stands) = inl (question ∙ stands ∙ ap pending_question (sym same))
asks_pending s s' made asked same question (inr e) = inr (question ∙ e.0, ap (λ (x : SessionState). x.pending) same ∙ e.1, ap pending_question same ∙ e.2)

pub trace_steps : (base : SessionState) (settings : Settings) (before : Counts) (es es' : List TraceEntry) (x x' : SessionState) (t t' : Counts) (r r' : ℕ) (event : Event) (starved : Bool) (sent : List Message) (asked : Option Question)
    → Puts base settings before es es' x x' t t' r r' (record { event = event; starved = starved }) sent asked → (takes_no_memory event ≡ true → starved ≡ false)
    → (spares x event ≡ true → (entry_step t.entries x (record { event = event; starved = false })).messages ≡ [] → is_light (entry_step t.entries x (record { event = event; starved = false })).question ≡ true → starved ≡ false)
    → TraceSteps (view settings base before es x t r) (view settings base before es' x' t' r') event sent asked
trace_steps base settings before es es' x x' t t' r r' event starved sent asked p calm silent =
    record {
      starved = starved;
      grows = record {
        settings = refl;
        base = refl;
        before = refl;
        entries = p.more;
        session = p.answers.after;
        room = p.less;
        history = stands_more base settings before es es' x x' t t' r r' (record { event = event; starved = starved }) sent asked p;
      };
      messages = p.answers.messages;
      question = p.answers.question;
      stands = asks_pending x x' (entry_step t.entries x (record { event = event; starved = starved })) asked p.answers.after p.answers.question (entry_asks t.entries x (record { event = event; starved = starved }) p.going);
      calm = calm;
      silent = silent;
    }

-- the bytes held with one entry more
pub held_more : (es es' : List TraceEntry) (entry : TraceEntry) (held held' one : ℕ) → es' ≡ es ++ entry ∷ [] → held ≡ min (held_of es) (2 ^ 64 - 1) → one ≡ min (held_by entry.event) (2 ^ 64 - 1) → held' ≡ min (held + one) (2 ^ 64 - 1) → held' ≡ min (held_of es') (2 ^ 64 - 1)
held_more es es' entry held held' one more a h b =
    let sum : held_of es' ≡ held_of es + held_by entry.event = ap held_of more ∙ sum_by_push (λ (e : TraceEntry). held_by e.event) es entry in
    omega (arith, sum, a, h, b)

-- an event that ends a session at once was put without want of memory, and ended it
pub ended_at_once : (old new : TraceView) (event : Event) (sent : List Message) (asked : Option Question) → is_closed old.session.state ≡ false → takes_no_memory event ≡ true → ends_at_once event ≡ true → TraceSteps old new event sent asked
    → Grows old new (record { event = event; starved = false }) × (is_closed new.session.state ≡ true)
ended_at_once old new event sent asked going free ends t =
    let grows = subst (λ (b : Bool). Grows old new (record { event = event; starved = b })) (t.calm free) t.grows in
    (grows, ap (λ (s : SessionState). is_closed s.state) grows.session ∙ entry_ends old.total.entries old.session (record { event = event; starved = false }) going ends)

-- ---- checkpoints

taken_stands : (settings : Settings) (base base' : SessionState) (before : Counts) (es es' : List TraceEntry) (x : SessionState) (t : Counts) (r r' : ℕ) → base' ≡ x → es' ≡ []
    → (history : List TraceEntry) → StandsFor (view settings base before es x t r) history → StandsFor (view settings base' t es' x t r') history
taken_stands settings base base' before es es' x t r r' b e history h =
    record {
      dropped = history;
      parts = sym (append-nil history) ∙ ap (λ (l : List TraceEntry). history ++ l) (sym e);
      base = b ∙ h.session;
      before = h.total;
      session = h.session;
      total = h.total;
      each = h.each;
    }

-- the trace without its entries, its base the session as it is
pub rests_taken : (settings : Settings) (base base' : SessionState) (before : Counts) (es es' : List TraceEntry) (x : SessionState) (t : Counts) (r r' : ℕ) → base' ≡ x → es' ≡ [] → is_due (view settings base before es x t r) ≡ true
    → Rests (view settings base before es x t r) (view settings base' t es' x t r')
rests_taken settings base base' before es es' x t r r' b e due =
    record {
      same = record { settings = refl; session = refl; total = refl; history = λ history h. taken_stands settings base base' before es es' x t r r' b e history h };
      taken = λ _. (b, refl, e);
      kept = λ no_due. absurd (let clash = sym due ∙ no_due in cc);
    }

-- nothing was due
pub rests_kept : (trace : TraceView) → is_due trace ≡ false → Rests trace trace
rests_kept trace due =
    record {
      same = record { settings = refl; session = refl; total = refl; history = λ history h. h };
      taken = λ yes_due. absurd (let clash = sym due ∙ yes_due in cc);
      kept = λ _. (refl, refl, refl);
    }

-- ---- a checkpoint without memory

none_from : (pending : Option Pending) → is_none pending ≡ true → pending ≡ None
none_from None e = refl
none_from (Some pending) e = absurd (let clash : false ≡ true = e in cc)

due_free : (trace : TraceView) → is_due trace ≡ true → trace.session.pending ≡ None
due_free trace due = none_from trace.session.pending (and_parts (is_none trace.session.pending) (not (nat_lt (length trace.entries) 65000) || nat_lt 8000000 (held_of trace.entries)) due).0

failed : {X F : Type 0} (r : Result X F) (fault : F) → r ≡ Err fault → IsOk r → ⊥
failed r fault is ok = absurd (let clash : false ≡ true = subst IsOk is ok in cc)

-- a copy that failed takes memory
copy_needs : (s : SessionState) (copied : Result SessionState Fault) (fault : Fault) (partial : Option Unfilled) → s.compact.partial ≡ partial → copied ≡ Err fault → s.pending ≡ None
    → (s.pending ≡ None → s.fetch ≡ idle → s.compact.partial ≡ None → IsOk copied) → NeedsBase s
copy_needs s copied fault None same is free unpaid = inl (λ idles. failed copied fault is (unpaid free idles same))
copy_needs s copied fault (Some partial) same is free unpaid = inr (λ none. absurd (let clash : Some partial ≡ None = sym same ∙ none in cc))

pub needs_base : (trace : TraceView) (s : SessionState) (copied : Result SessionState Fault) (fault : Fault) → s ≡ trace.session → is_due trace ≡ true → copied ≡ Err fault
    → (s.pending ≡ None → s.fetch ≡ idle → s.compact.partial ≡ None → IsOk copied) → NeedsBase trace.session
needs_base trace s copied fault same due is unpaid =
    subst NeedsBase same (copy_needs s copied fault s.compact.partial refl is (ap (λ (session : SessionState). session.pending) same ∙ due_free trace due) unpaid)

pub lacks_base : (old between new : TraceView) → between ≡ old → is_due old ≡ true → NeedsBase old.session → Grows between new (record { event = events.NoMemory; starved = false }) → is_closed new.session.state ≡ true → LacksBase old new
lacks_base old between new same due needs grows closed =
    record { due = due; needs = needs; grows = subst (λ (trace : TraceView). Grows trace new (record { event = events.NoMemory; starved = false })) same grows; closed = closed }

-- ---- the trace of a session that is over

fold_left : (account : Account) (entries : List TraceEntry) → (is_closed account.session.state ≡ true → HasNothingLeft account.session) → is_closed (fold account_step account entries).session.state ≡ true → HasNothingLeft (fold account_step account entries).session
fold_left account [] left = left
fold_left account (entry ∷ entries) left = fold_left (account_step account entry) entries (entry_left account.count account.session entry left)

session_left : (settings : Settings) (history : List TraceEntry) → is_closed (session_of settings history).state ≡ true → HasNothingLeft (session_of settings history)
unfolding account_of
session_left settings history = fold_left (first_account settings) history (λ closed. absurd (let clash : false ≡ true = closed in cc))

pub trace_left : (trace : TraceView) → IsTrace trace → is_closed trace.session.state ≡ true → HasNothingLeft trace.session
trace_left trace t closed =
    subst HasNothingLeft (sym t.stands.session) (session_left trace.settings t.history (ap (λ (s : SessionState). is_closed s.state) (sym t.stands.session) ∙ closed))

-- its session's copy takes no memory
pub copies : (trace : TraceView) (s : SessionState) (copied : Result SessionState Fault) (fault : Fault) → s ≡ trace.session → IsTrace trace → is_closed trace.session.state ≡ true → copied ≡ Err fault
    → (s.pending ≡ None → s.fetch ≡ idle → s.compact.partial ≡ None → IsOk copied) → ⊥
copies trace s copied fault same t closed is unpaid =
    let left = subst HasNothingLeft (sym same) (trace_left trace t closed) in
    failed copied fault is (unpaid left.pending left.fetch left.partial)

-- it is shed
pub is_shed : (settings : Settings) (base base' : SessionState) (before : Counts) (es es' : List TraceEntry) (x : SessionState) (t : Counts) (r r' : ℕ) → base' ≡ x → es' ≡ [] → r' ≡ 0
    → IsShed (view settings base before es x t r) (view settings base' t es' x t r')
is_shed settings base base' before es es' x t r r' b e none =
    record {
      same = record { settings = refl; session = refl; total = refl; history = λ history h. taken_stands settings base base' before es es' x t r r' b e history h };
      base = b;
      before = refl;
      entries = e;
      room = none;
    }

pub trace_shed : (settings : Settings) (base base' : SessionState) (before : Counts) (es es' : List TraceEntry) (x : SessionState) (t : Counts) (r r' : ℕ) → base' ≡ x → es' ≡ [] → is_closed x.state ≡ true
    → IsTrace (view settings base before es x t r) → IsTrace (view settings base' t es' x t r')
trace_shed settings base base' before es es' x t r r' b e closed trace =
    record {
      history = trace.history;
      stands = taken_stands settings base base' before es es' x t r r' b e trace.history trace.stands;
      free = ap (λ (s : SessionState). s.pending) b ∙ (trace_left (view settings base before es x t r) trace closed).pending;
      spare = λ going. absurd (let clash : false ≡ true = sym going ∙ closed in cc);
      limit = λ going. absurd (let clash : false ≡ true = sym going ∙ closed in cc);
    }

-- without entries it takes no bytes
pub shed_weighs : (old new : TraceView) → IsShed old new → weight_of new ≡ 0
shed_weighs old new shed = ap (λ (entries : List TraceEntry). held_of entries + 256 * length entries) shed.entries
