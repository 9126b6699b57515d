-- What standard error is told at the end of `serve`.
use Rattle.std.proofs.Common.{◌≡◌, ℕ, Bool, true, false, List, [], ◌++◌, ◌⊎◌, Option, Result, MatchResult, sym, subst, inl, inr}
use Rattle.std.proofs.lemmas.List.{append-nil}
use Rattle.std.specs.Io.KnownBytes.{Appends}
use Rattle.cb_base.proofs.Known.{Appends-then}
use Rattle.cb_peer_state.specs.declared.state.CloseReason.{CloseReason}
use Rattle.cb_control.specs.declared.ending.Status.{Status}
use Rattle.cb_control.specs.declared.ending.Status.TheVariants.{RunFailed}
use Rattle.cb_control.specs.declared.ending.Halt.{Halt}
use Rattle.cb_control.specs.declared.ending.Halt.TheVariants.{ReadFailed, WriteFailed}
use Rattle.cb_control.specs.Ending.{status_code}
use Rattle.cb_command.specs.Command.{EndsEarly, TellsPeer, code_of, end_line}
use Rattle.cb_command.specs.Peer.{PeerEnds, closed_text, peer_end}

-- how `settle` ends a run: nothing more was told, or why it ended early
abbrev pub Settles : Type 0 → Option (List ℕ) → Option (List ℕ) → Bool → ℕ → Result ℕ Halt → Type 0
Settles Same mid tells failed code ended = MatchResult ended (λ c. (code ≡ c) × Same) (EndsEarly mid tells failed code)

-- an early end's line, behind the reason's
told_early : (told mid tells : Option (List ℕ)) (failed : Bool) (reason : CloseReason) (halt : Halt) (code : ℕ)
    → Appends told mid (closed_text reason) → EndsEarly mid tells failed code halt → code ≡ status_code RunFailed
    → (Appends told tells (closed_text reason ++ end_line halt) × (code ≡ status_code RunFailed)) ⊎ ((failed ≡ true) × (code ≡ status_code RunFailed))
told_early told mid tells failed reason halt code a ends c =
    elim ends.0 [
      | inl line ↦ inl (Appends-then told mid tells (closed_text reason) (end_line halt) a line, c)
      | inr marked ↦ inr (marked, c)
    ]

-- nothing behind the reason's line
told_no_more : (told mid tells : Option (List ℕ)) (text : List ℕ) → Appends told mid text → tells ≡ mid → Appends told tells (text ++ [])
told_no_more told mid tells text a same = subst (λ (x : List ℕ). Appends told tells x) (sym (append-nil text)) (subst (λ (x : Option (List ℕ)). Appends told x text) (sym same) a)

told_by : (Same : Type 0) (read_failed write_failed : Bool) (told mid tells : Option (List ℕ)) (failed : Bool) (reason : CloseReason) (code : ℕ)
    → Appends told mid (closed_text reason) → Settles Same mid tells failed code (code_of (peer_end read_failed write_failed reason)) → (Same → tells ≡ mid)
    → TellsPeer read_failed write_failed told tells failed code reason
told_by Same true write_failed told mid tells failed reason code a s same = told_early told mid tells failed reason ReadFailed code a s s.1
told_by Same false true told mid tells failed reason code a s same = told_early told mid tells failed reason WriteFailed code a s s.1
told_by Same false false told mid tells failed reason code a s same = inl (told_no_more told mid tells (closed_text reason) a (same s.1), s.0)

-- what `serve_peer` told, and then how its run was settled
pub tells_peer : (Same : Type 0) (read_failed write_failed : Bool) (told mid tells : Option (List ℕ)) (marked failed : Bool) (reason : CloseReason) (ended : Result Status Halt) (code : ℕ)
    → PeerEnds read_failed write_failed told mid marked reason ended → Settles Same mid tells failed code (code_of ended) → (Same → tells ≡ mid) → (marked ≡ true → failed ≡ true)
    → TellsPeer read_failed write_failed told tells failed code reason
tells_peer Same read_failed write_failed told mid tells marked failed reason ended code p s same stays =
    elim p [
      | inl a ↦ told_by Same read_failed write_failed told mid tells failed reason code a.0 (subst (λ (e : Result Status Halt). Settles Same mid tells failed code (code_of e)) a.1 s) same
      | inr b ↦ let early : EndsEarly mid tells failed code WriteFailed = subst (λ (e : Result Status Halt). Settles Same mid tells failed code (code_of e)) b.1 s in inr (stays b.0, early.1)
    ]
