-- The fold over a history, one entry at a time.
use Rattle.std.proofs.Common.{◌≡◌, ℕ, ◌+◌, ◌≤◌, ◌≢◌, Bool, true, false, cond, eqb, List, [], ◌∷◌, ◌++◌, length, None, refl, sym, ap, subst, ◌∙◌, arith}
use Rattle.std.specs.Prelude.{◌^◌, filter}
use Rattle.std.specs.List.{fold}
use Rattle.std.proofs.lemmas.List.{length-append}
use Rattle.std.proofs.lemmas.List.Elements.{filter-append}
use Rattle.std.proofs.lemmas.List.Sums.{fold-append}
use Rattle.std.proofs.lemmas.Bool.Decides.{nat_tests}
use Rattle.cb_peer_state.specs.declared.settings.Settings.{Settings}
use Rattle.cb_peer_state.specs.declared.state.CloseReason.TheVariants as reasons
use Rattle.cb_trace.specs.declared.trace.TraceEntry.{TraceEntry}
use Rattle.cb_trace.specs.declared.trace.Counts.{Counts}
use Rattle.cb_peer_state.specs.Event.{Kind, begins, is_input, is_told, kind_of}
use Rattle.cb_peer_state.specs.Session.{Stepped, stays, closes, open_step}
use Rattle.cb_peer_state.specs.declared.session_state.SessionState.{SessionState}
use Rattle.cb_peer_state.specs.State.{is_closed}
use Rattle.cb_trace.specs.Fold.{Account, EachOpen, account_of, account_step, entry_step, first_account, number_of, session_of}
use Rattle.cb_trace.specs.Prompt.{EachPrompt}
use Rattle.cb_trace.specs.Trace.{counts_of, counts_with}

pub account_of_more : (settings : Settings) (entries : List TraceEntry) (entry : TraceEntry) → account_of settings (entries ++ entry ∷ []) ≡ account_step (account_of settings entries) entry
unfolding account_of
account_of_more settings entries entry = fold-append account_step (first_account settings) entries (entry ∷ [])

count_fold : (account : Account) (entries : List TraceEntry) → (fold account_step account entries).count ≡ account.count + length entries
count_fold account [] = omega arith
count_fold account (entry ∷ entries) = count_fold (account_step account entry) entries ∙ omega arith

pub count_is : (settings : Settings) (entries : List TraceEntry) → (account_of settings entries).count ≡ length entries
unfolding account_of
count_is settings entries = count_fold (first_account settings) entries ∙ omega arith

EachOpen_fold : (account : Account) (entries : List TraceEntry) (entry : TraceEntry) → EachOpen account entries → is_closed (fold account_step account entries).session.state ≡ false → EachOpen account (entries ++ entry ∷ [])
EachOpen_fold account [] entry each going = (going, tt)
EachOpen_fold account (other ∷ entries) entry each going = (each.0, EachOpen_fold (account_step account other) entries entry each.1 going)

pub EachOpen_more : (settings : Settings) (entries : List TraceEntry) (entry : TraceEntry) → EachOpen (first_account settings) entries → is_closed (session_of settings entries).state ≡ false → EachOpen (first_account settings) (entries ++ entry ∷ [])
unfolding account_of
EachOpen_more settings entries entry each going = EachOpen_fold (first_account settings) entries entry each going

EachPrompt_fold : (account : Account) (entries : List TraceEntry) (entry : TraceEntry) → EachPrompt account entries → (begins (kind_of entry.event) ≡ true → (fold account_step account entries).session.pending ≡ None) → EachPrompt account (entries ++ entry ∷ [])
EachPrompt_fold account [] entry each free = (free, tt)
EachPrompt_fold account (other ∷ entries) entry each free = (each.0, EachPrompt_fold (account_step account other) entries entry each.1 free)

pub EachPrompt_more : (settings : Settings) (entries : List TraceEntry) (entry : TraceEntry) → EachPrompt (first_account settings) entries → (begins (kind_of entry.event) ≡ true → (session_of settings entries).pending ≡ None) → EachPrompt (first_account settings) (entries ++ entry ∷ [])
unfolding account_of
EachPrompt_more settings entries entry each free = EachPrompt_fold (first_account settings) entries entry each free

-- ---- numbers of entries

one_if : (b : Bool) (entry : TraceEntry) → length (cond b (entry ∷ []) []) ≡ cond b 1 0
one_if true entry = refl
one_if false entry = refl

pub number_more : (test : Kind → Bool) (entries : List TraceEntry) (entry : TraceEntry) → number_of test entries + cond (test (kind_of entry.event)) 1 0 ≡ number_of test (entries ++ entry ∷ [])
number_more test entries entry =
    let parts = ap length (filter-append (λ (e : TraceEntry). test (kind_of e.event)) entries (entry ∷ [])) in
    let sum = length-append (filter (λ (e : TraceEntry). test (kind_of e.event)) entries) (filter (λ (e : TraceEntry). test (kind_of e.event)) (entry ∷ [])) in
    let last = one_if (test (kind_of entry.event)) entry in
    omega (arith, parts, sum, last)

abbrev pub counts : ℕ → ℕ → ℕ → Counts
counts a b c = record { entries = a; items = b; told = c }

same_counts : (a b c a' b' c' : ℕ) → a ≡ a' → b ≡ b' → c ≡ c' → counts a b c ≡ counts a' b' c'
same_counts a b c a' b' c' x y z = ap (λ (k : ℕ). counts k b c) x ∙ ap (λ (k : ℕ). counts a' k c) y ∙ ap (λ (k : ℕ). counts a' b' k) z

pub counts_more : (entries : List TraceEntry) (entry : TraceEntry) → counts_with (counts_of entries) entry.event ≡ counts_of (entries ++ entry ∷ [])
counts_more entries entry = same_counts _ _ _ _ _ _ (sym (length-append entries (entry ∷ []))) (number_more is_input entries entry) (number_more is_told entries entry)

number_le : (test : Kind → Bool) (entries : List TraceEntry) → number_of test entries ≤ length entries
number_le test [] = omega arith
number_le test (entry ∷ entries) =
    let rest = number_le test entries in
    let first : (b : Bool) → test (kind_of entry.event) ≡ b → length (cond b (entry ∷ filter (λ (e : TraceEntry). test (kind_of e.event)) entries) (filter (λ (e : TraceEntry). test (kind_of e.event)) entries)) ≤ length (entry ∷ entries) =
    elim [ true ↦ λ e. omega (arith, rest) | false ↦ λ e. omega (arith, rest) ] in
    first (test (kind_of entry.event)) refl

pub items_few : (entries : List TraceEntry) → number_of is_input entries ≤ length entries
items_few entries = number_le is_input entries

pub told_few : (entries : List TraceEntry) → number_of is_told entries ≤ length entries
told_few entries = number_le is_told entries

-- ---- an entry at a session that goes on, case by case

pub entry_cases : (P : Stepped → Type 0) (count : ℕ) (s : SessionState) (entry : TraceEntry) → is_closed s.state ≡ false
    → (count + 1 ≡ 2 ^ 62 → P (closes reasons.TraceFull s)) → (count + 1 ≢ 2 ^ 62 → entry.starved ≡ true → P (closes reasons.Memory s)) → (count + 1 ≢ 2 ^ 62 → entry.starved ≡ false → P (open_step s entry.event))
    → P (entry_step count s entry)
entry_cases P count s entry going full starved fed =
    let last : (b : Bool) → eqb (count + 1) (2 ^ 62) ≡ b → P (cond b (closes reasons.TraceFull s) (cond entry.starved (closes reasons.Memory s) (open_step s entry.event))) =
    elim [
      | true ↦ λ e. full (grind (arith, nat_tests))
      | false ↦ λ e.
          let more : count + 1 ≢ 2 ^ 62 = grind (arith, nat_tests) in
          let hungry : (c : Bool) → entry.starved ≡ c → P (cond c (closes reasons.Memory s) (open_step s entry.event)) =
          elim [ true ↦ λ h. starved more h | false ↦ λ h. fed more h ] in
          hungry entry.starved refl
    ] in
    subst (λ b. P (cond b (stays s) (cond (eqb (count + 1) (2 ^ 62)) (closes reasons.TraceFull s) (cond entry.starved (closes reasons.Memory s) (open_step s entry.event))))) (sym going) (last (eqb (count + 1) (2 ^ 62)) refl)
