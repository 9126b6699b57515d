-- The terms of the laws for prompt traces that the peer's own end closed, in the protocol's words.
use Rattle.std.specs.Prelude.{◌≡◌, List}
use Rattle.cb_peer_state.specs.declared.settings.Settings.{Settings}
use Rattle.cb_peer_state.specs.declared.state.State.TheVariants.{Closed}
use Rattle.cb_peer_state.specs.declared.state.CloseReason.TheVariants.{Bye}
use Rattle.cb_peer_state.specs.Pings.{pings, pongs}
use Rattle.cb_trace.specs.declared.trace.TraceEntry.{TraceEntry}
use Rattle.cb_trace.specs.Fold.{EachOpen, first_account, inputs_of, sends, session_of}
use Rattle.cb_trace.specs.Prompt.{EachPrompt}

-- No entry after the session's end, each item answered before the next, and the session closed by
-- the peer's own end.
pub record EndsPromptly (settings : Settings) (entries : List TraceEntry) : Type 0 where
  pub each_open : EachOpen (first_account settings) entries
  pub each_prompt : EachPrompt (first_account settings) entries
  pub bye : (session_of settings entries).state ≡ Closed Bye

-- The pongs sent are those of the pings received, in order (BIP 31).
abbrev pub AnswersPings : Settings → List TraceEntry → Type 0
AnswersPings settings entries = pongs (sends settings entries) ≡ pings (inputs_of entries)
