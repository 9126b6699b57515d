-- Promptness: each item had its answers before the next one came, and none was left waiting.
use Rattle.std.specs.Prelude.{◌≡◌, true, false, List, [], ◌∷◌, None}
use Rattle.cb_peer_state.specs.declared.settings.Settings.{Settings}
use Rattle.cb_peer_state.specs.Event.{begins, kind_of}
use Rattle.cb_peer_state.specs.State.{is_closed}
use Rattle.cb_trace.specs.declared.trace.TraceEntry.{TraceEntry}
use Rattle.cb_trace.specs.Fold.{Account, account_step, first_account, session_of}

-- No question was open before an entry that begins something new.
abbrev pub EachPrompt : Account → List TraceEntry → Type 0
EachPrompt account [] = Unit {0}
EachPrompt account (entry ∷ entries) =
    (begins (kind_of entry.event) ≡ true → account.session.pending ≡ None)
    × EachPrompt (account_step account entry) entries

-- No question is open, unless the session is over.
abbrev pub NonePending : Settings → List TraceEntry → Type 0
NonePending settings entries =
    is_closed (session_of settings entries).state ≡ false
    → (session_of settings entries).pending ≡ None

-- Every item had its answers before the next event came, and none was left waiting.
pub record IsPrompt (settings : Settings) (entries : List TraceEntry) : Type 0 where
  pub each : EachPrompt (first_account settings) entries
  pub done : NonePending settings entries
