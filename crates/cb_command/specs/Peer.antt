-- The outcome of `serve` for its peer.
use Rattle.std.specs.Prelude.{◌≡◌, ℕ, pos, Bool, true, false, ◌⊎◌, List, [], ◌∷◌, ◌++◌, codes, Option, Result, Ok, Err}
use Rattle.std.specs.Io.KnownBytes.{Appends}
use Rattle.cb_hall.specs.Journal.{JournalState, new_journal}
use Rattle.cb_hall.specs.Badge.{BadgeState, first_of, fresh_badge}
use Rattle.cb_hall.specs.Histories.{Asks, IsRefused}
use Rattle.cb_peer_state.specs.declared.state.State.TheVariants.{Closed}
use Rattle.cb_peer_state.specs.declared.state.CloseReason.{CloseReason}
use Rattle.cb_peer_state.specs.declared.state.CloseReason.TheVariants as reasons
use Rattle.cb_peer_state.specs.State.{reason_name}
use Rattle.cb_trace.specs.Trace.{TraceView}
use Rattle.cb_base.specs.declared.read_end.ReadEnd.{ReadEnd}
use Rattle.cb_session.specs.Conversation.{Origin, origin_of, progress}
use Rattle.cb_session.specs.Serving.{Serves}
use Rattle.cb_control.specs.declared.ending.Status.{Status}
use Rattle.cb_control.specs.declared.ending.Status.TheVariants.{Success, RunFailed, NoMemory}
use Rattle.cb_control.specs.declared.ending.Halt.{Halt}
use Rattle.cb_control.specs.declared.ending.Halt.TheVariants.{ReadFailed, WriteFailed}

-- Where serving begins: the peer's settings, a new hall that nobody has asked anything, and the
-- badge of the first connection of peer 0.
abbrev pub peer_origin : Option (List ℕ) → Bool → Origin JournalState
peer_origin held failed =
    origin_of (record { inbound = true; nonce = 1; time = pos 0; height = pos 0; salt = 0 })
    new_journal (fresh_badge (first_of 0)) held failed

-- The connection was served to its end: from its source before (`input`) to its source after
-- (`remaining`), and from what the writer held to what it holds. `had_failed` says whether the
-- writer had failed before. The session is closed for this reason.
pub record WasServed (input remaining : Option (List ℕ)) (read_failed : Bool)
    (held holds : Option (List ℕ)) (had_failed write_failed : Bool) (reason : CloseReason)
    : Type 0 where
  pub trace : TraceView
  pub hall : JournalState
  pub badge : BadgeState
  pub written : ℕ
  pub end : ReadEnd
  pub serves : Serves (λ old had replies new has. Asks old new had has replies) IsRefused
      (peer_origin held had_failed) input remaining read_failed
      (progress trace hall badge holds write_failed written) end
  pub closed : trace.session.state ≡ Closed reason

-- The line on standard error.
abbrev pub closed_text : CloseReason → List ℕ
closed_text reason = codes "closed " ++ reason_name reason ++ 10 ∷ []

-- The exit status of `serve` when its session closed for this reason.
abbrev pub reason_status : CloseReason → Status
reason_status reasons.Bye = Success
reason_status reasons.Memory = NoMemory
reason_status reasons.BadStream = RunFailed
reason_status reasons.BadMessage = RunFailed
reason_status reasons.BadBlock = RunFailed
reason_status reasons.BadRequest = RunFailed
reason_status reasons.OldPeer = RunFailed
reason_status reasons.SelfPeer = RunFailed
reason_status reasons.Kicked = RunFailed
reason_status reasons.TraceFull = RunFailed
reason_status reasons.HallFull = RunFailed
reason_status reasons.WriteFault = RunFailed

-- How a run ends when its session closed for this reason, by whether a read and a write failed.
abbrev pub peer_end : Bool → Bool → CloseReason → Result Status Halt
peer_end true write_failed reason = Err ReadFailed
peer_end false true reason = Err WriteFailed
peer_end false false reason = Ok (reason_status reason)

-- Standard error was told the reason, and the run ended by what failed. Or standard error itself
-- failed.
abbrev pub PeerEnds : Bool → Bool → Option (List ℕ) → Option (List ℕ) → Bool → CloseReason
    → Result Status Halt → Type 0
PeerEnds read_failed write_failed told tells errors_failed reason result =
    (Appends told tells (closed_text reason) × (result ≡ peer_end read_failed write_failed reason))
    ⊎ ((errors_failed ≡ true) × (result ≡ Err WriteFailed))
