-- What each entry keeps, all of them keep; and each trace's session is one that events lead to.
use Rattle.std.proofs.Common.{◌≡◌, ℕ, ◌+◌, true, false, cond, eqb, List, [], ◌∷◌, sym, ap, subst, inl, inr}
use Rattle.std.specs.Prelude.{◌^◌}
use Rattle.std.specs.List.{fold}
use Rattle.std.proofs.lemmas.Bool.{cases_Bool}
use Rattle.cb_peer_state.specs.declared.settings.Settings.{Settings}
use Rattle.cb_peer_state.specs.declared.event.Event.{Event}
use Rattle.cb_peer_state.specs.declared.state.CloseReason.{CloseReason}
use Rattle.cb_peer_state.specs.declared.state.CloseReason.TheVariants as reasons
use Rattle.cb_peer_state.specs.Laws.{IsReached}
use Rattle.cb_peer_state.specs.Laws.IsReached.{opens, steps, stops}
use Rattle.cb_peer_state.specs.Session.{Stepped, closes, open_step, stays, step_of}
use Rattle.cb_peer_state.specs.declared.session_state.SessionState.{SessionState}
use Rattle.cb_peer_state.specs.State.{is_closed}
use Rattle.cb_trace.specs.declared.trace.TraceEntry.{TraceEntry}
use Rattle.cb_trace.specs.Fold.{Account, account_of, account_step, entry_step, first_account, session_of}
use Rattle.cb_trace.proofs.Folds.{entry_cases}

-- an entry at a session that is over changes nothing
over_stays : (count : ℕ) (s : SessionState) (entry : TraceEntry) → is_closed s.state ≡ true → entry_step count s entry ≡ stays s
over_stays count s entry closed = ap (λ b. cond b (stays s) (cond (eqb (count + 1) (2 ^ 62)) (closes reasons.TraceFull s) (cond entry.starved (closes reasons.Memory s) (open_step s entry.event)))) closed

-- an entry finds a session that is over, ends one that goes on, or is its step
pub step_cases : (P : Stepped → Type 0) (count : ℕ) (s : SessionState) (entry : TraceEntry) → (is_closed s.state ≡ true → P (stays s)) → ((why : CloseReason) → is_closed s.state ≡ false → P (closes why s))
    → (is_closed s.state ≡ false → P (open_step s entry.event)) → P (entry_step count s entry)
step_cases P count s entry over ended fed =
    elim (cases_Bool (is_closed s.state)) [
      | inl closed ↦ subst P (sym (over_stays count s entry closed)) (over closed)
      | inr going ↦ entry_cases P count s entry going (λ _. ended reasons.TraceFull going) (λ _ _. ended reasons.Memory going) (λ _ _. fed going)
    ]

-- the step of a session that goes on
pub open_is : (s : SessionState) (event : Event) → is_closed s.state ≡ false → step_of s event ≡ open_step s event
unfolding step_of
open_is s event going = ap (λ b. cond b (stays s) (open_step s event)) going

kept_fold : (P : Account → Type 0) → ((account : Account) (entry : TraceEntry) → P account → P (account_step account entry)) → (account : Account) (entries : List TraceEntry) → P account → P (fold account_step account entries)
kept_fold P keeps account [] p = p
kept_fold P keeps account (entry ∷ entries) p = kept_fold P keeps (account_step account entry) entries (keeps account entry p)

-- what holds at the beginning and is kept by each entry holds of each trace
pub kept : (P : Account → Type 0) → ((account : Account) (entry : TraceEntry) → P account → P (account_step account entry)) → (settings : Settings) (entries : List TraceEntry) → P (first_account settings) → P (account_of settings entries)
unfolding account_of
kept P keeps settings entries p = kept_fold P keeps (first_account settings) entries p

pub entry_reached : (count : ℕ) (s : SessionState) (entry : TraceEntry) → IsReached s → IsReached (entry_step count s entry).session
entry_reached count s entry reached =
    step_cases (λ made. IsReached made.session) count s entry (λ _. reached) (λ why _. stops s why reached)
    (λ going. subst (λ (made : Stepped). IsReached made.session) (open_is s entry.event going) (steps s entry.event reached))

pub is_reached : (settings : Settings) (entries : List TraceEntry) → IsReached (session_of settings entries)
is_reached settings entries = kept (λ account. IsReached account.session) (λ account entry r. entry_reached account.count account.session entry r) settings entries (opens settings)
