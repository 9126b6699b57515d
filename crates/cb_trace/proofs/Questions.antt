-- The questions that stood before the answers of a trace.
use Rattle.std.proofs.Common.{◌≡◌, ℕ, ◌+◌, ◌<◌, ◌≤◌, ◌≢◌, Bool, true, false, cond, List, [], ◌∷◌, ◌++◌, length, get_or, drop, refl, sym, ap, ◌∙◌, append_assoc, arith, inl, inr, ◌⊎◌}
use Rattle.std.specs.Prelude.{◌^◌, Option, None, filter}
use Rattle.std.specs.List.{fold}
use Rattle.std.proofs.lemmas.List.{drop_more, length-append}
use Rattle.cb_hall.specs.declared.question.Question.{Question}
use Rattle.cb_trace.specs.declared.trace.TraceEntry.{TraceEntry}
use Rattle.cb_trace.specs.declared.trace.Counts.{Counts}
use Rattle.cb_peer_state.specs.Event.{is_told, kind_of}
use Rattle.cb_peer_state.specs.Questions.{pending_question}
use Rattle.cb_peer_state.specs.Session.{Stepped, step_of}
use Rattle.cb_peer_state.specs.declared.session_state.SessionState.{SessionState}
use Rattle.cb_peer_state.specs.State.{is_closed}
use Rattle.cb_trace.specs.Fold.{Account, EachOpen, account_of, account_step, entry_step, first_account, number_of}
use Rattle.cb_trace.specs.Trace.{AskedLast, StandsFor, TraceView, asked_at, asked_from, base_account}
use Rattle.cb_trace.proofs.Folds.{count_is}
use Rattle.cb_trace.proofs.Entries.{entry_asks_any, entry_full, fed_is}

-- an entry that wasn't starved steps as its event does
pub steps_again : (before : ℕ) (s : SessionState) (entry : TraceEntry) → is_closed s.state ≡ false → before + 1 ≢ 2 ^ 62 → entry.starved ≡ false → step_of s entry.event ≡ entry_step before s entry
steps_again before s entry going more fed =
    sym (fed_is before s entry.event going more) ∙ ap (λ (b : Bool). entry_step before s (record { event = entry.event; starved = b })) (sym fed)

-- an account of which only the session and the number of entries are known
abbrev pub account_at : SessionState → ℕ → Account
account_at session count = record { session = session; count = count; sent = []; replies = [] }

-- the question before an answer, and none before another entry
pub asked_told : (account : Account) (entry : TraceEntry) → is_told (kind_of entry.event) ≡ true → pending_question account.session ∷ [] ≡ asked_at account entry
asked_told account entry told = sym (ap (λ (b : Bool). cond b (pending_question account.session ∷ []) []) told)

pub asked_not : (account : Account) (entry : TraceEntry) → is_told (kind_of entry.event) ≡ false → [] ≡ asked_at account entry
asked_not account entry other = sym (ap (λ (b : Bool). cond b (pending_question account.session ∷ []) []) other)

-- what was sent and told before makes no difference
pub asked_same : (a b : Account) (entries : List TraceEntry) → a.session ≡ b.session → a.count ≡ b.count → asked_from a entries ≡ asked_from b entries
asked_same a b [] session count = refl
asked_same a b (entry ∷ entries) session count =
    let stepped = ap (λ (k : ℕ). entry_step k a.session entry) count ∙ ap (λ (s : SessionState). entry_step b.count s entry) session in
    ap (λ (s : SessionState). asked_at (account_at s 0) entry ++ asked_from (account_step a entry) entries) session
    ∙ ap (λ (l : List (Option Question)). asked_at b entry ++ l)
    (asked_same (account_step a entry) (account_step b entry) entries (ap (λ (made : Stepped). made.session) stepped) (ap (λ (k : ℕ). k + 1) count))

-- one entry more of those that are played again
pub asked_turn : (asked asked' : List (Option Question)) (s s' : SessionState) (count : ℕ) (entries : List TraceEntry) (i : ℕ) (entry : TraceEntry) (all : List (Option Question)) → i < length entries → entry ≡ get_or entries i entry
    → asked' ≡ asked ++ asked_at (account_at s count) entry → s' ≡ (entry_step count s entry).session → asked ++ asked_from (account_at s count) (drop i entries) ≡ all
    → asked' ++ asked_from (account_at s' (count + 1)) (drop (i + 1) entries) ≡ all
asked_turn asked asked' s s' count entries i entry all within is more stepped parts =
    let first : drop i entries ≡ entry ∷ drop (i + 1) entries = drop_more entries i entry within ∙ ap (λ (e : TraceEntry). e ∷ drop (i + 1) entries) (sym is) in
    let rest = asked_same (account_at s' (count + 1)) (account_step (account_at s count) entry) (drop (i + 1) entries) stepped refl in
    ap (λ (l : List (Option Question)). l ++ asked_from (account_at s' (count + 1)) (drop (i + 1) entries)) more
    ∙ append_assoc asked (asked_at (account_at s count) entry) (asked_from (account_at s' (count + 1)) (drop (i + 1) entries))
    ∙ ap (λ (l : List (Option Question)). asked ++ (asked_at (account_at s count) entry ++ l)) rest
    ∙ ap (λ (l : List TraceEntry). asked ++ asked_from (account_at s count) l) (sym first)
    ∙ parts

-- ---- the questions of a history

-- no entry comes behind the one number 2^62
each_few : (account : Account) (entries : List TraceEntry) → EachOpen account entries → account.count + 1 ≤ 2 ^ 62 → account.count + length entries ≤ 2 ^ 62
each_few account [] each few = omega arith
each_few account (entry ∷ []) each few = omega arith
each_few account (entry ∷ (next ∷ entries)) each few =
    let more = entry_full account.count account.session entry each.0 each.1.0 in
    let rest = each_few (account_step account entry) (next ∷ entries) each.1 (omega (arith, few, more)) in
    omega (arith, rest)

-- the entries of a trace are few enough to be counted on from those before the base
pub entries_few : (trace : TraceView) (history : List TraceEntry) → StandsFor trace history → trace.before.entries + length trace.entries ≤ 2 ^ 62
entries_few trace history h =
    let all = each_few (first_account trace.settings) history h.each (omega arith) in
    let sum = ap length h.parts ∙ length-append h.dropped trace.entries in
    let before = ap (λ (c : Counts). c.entries) h.before in
    omega (arith, all, sum, before)

asked_append : (account : Account) (xs ys : List TraceEntry) → asked_from account (xs ++ ys) ≡ asked_from account xs ++ asked_from (fold account_step account xs) ys
asked_append account [] ys = refl
asked_append account (x ∷ xs) ys =
    ap (λ (l : List (Option Question)). asked_at account x ++ l) (asked_append (account_step account x) xs ys)
    ∙ sym (append_assoc (asked_at account x) (asked_from (account_step account x) xs) (asked_from (fold account_step (account_step account x) xs) ys))

-- one question for each answer
one_asked : (told : Bool) (question : Option Question) (rest : List (Option Question)) (x : TraceEntry) (xs : List TraceEntry) → length rest ≡ length xs → length (cond told (question ∷ []) [] ++ rest) ≡ length (cond told (x ∷ xs) xs)
one_asked true question rest x xs e = omega (arith, e)
one_asked false question rest x xs e = e

asked_number : (account : Account) (xs : List TraceEntry) → length (asked_from account xs) ≡ number_of is_told xs
asked_number account [] = refl
asked_number account (x ∷ xs) =
    one_asked (is_told (kind_of x.event)) (pending_question account.session) (asked_from (account_step account x) xs) x (filter (λ (e : TraceEntry). is_told (kind_of e.event)) xs)
    (asked_number (account_step account x) xs)

-- of the questions of the whole history, those since the base are the last
pub asked_last : (trace : TraceView) (history : List TraceEntry) (asked : List (Option Question)) → asked ≡ asked_from (base_account trace) trace.entries → StandsFor trace history → AskedLast trace.settings history trace.before.told asked
unfolding account_of
asked_last trace history asked is h =
    let first = first_account trace.settings in
    let count = ap (λ (c : Counts). c.entries) h.before ∙ sym (count_is trace.settings h.dropped) in
    record {
      earlier = asked_from first h.dropped;
      parts =
          ap (asked_from first) h.parts
          ∙ asked_append first h.dropped trace.entries
          ∙ ap (λ (l : List (Option Question)). asked_from first h.dropped ++ l) (sym (asked_same (base_account trace) (fold account_step first h.dropped) trace.entries h.base count) ∙ sym is);
      number = asked_number first h.dropped ∙ sym (ap (λ (c : Counts). c.told) h.before);
    }

-- what is played again from a trace's base
pub asked_from_base : (trace : TraceView) (session : SessionState) (count : ℕ) (entries : List TraceEntry) → session ≡ trace.base → count ≡ trace.before.entries → entries ≡ trace.entries
    → asked_from (account_at session count) entries ≡ asked_from (base_account trace) trace.entries
asked_from_base trace session count entries s k es = asked_same (account_at session count) (base_account trace) entries s k ∙ ap (asked_from (base_account trace)) es

-- the question that a played entry asked is open, or the one that was open before goes on
pub pending_is_after : (count : ℕ) (s s' : SessionState) (entry : TraceEntry) (waiting asked : Option Question) → waiting ≡ pending_question s → s' ≡ (entry_step count s entry).session → asked ≡ (entry_step count s entry).question
    → (asked ≡ pending_question s') ⊎ ((asked ≡ None) × (waiting ≡ pending_question s'))
pending_is_after count s s' entry waiting asked before same question =
    elim (entry_asks_any count s entry) [
      | inl stands ↦ inl (question ∙ stands ∙ ap pending_question (sym same))
      | inr e ↦ inr (question ∙ e.0, before ∙ sym (ap pending_question same ∙ e.2))
    ]
