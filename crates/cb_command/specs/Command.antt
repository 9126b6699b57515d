-- The outcome of a run of the program: its exit status, and what standard error was told.
use Rattle.std.specs.Prelude.{◌≡◌, ℕ, Bool, true, false, ◌⊎◌, ⊤, List, [], ◌++◌, codes, Option, Result, Ok, Err}
use Rattle.std.specs.Io.KnownBytes.{Appends}
use Rattle.cb_peer_state.specs.declared.state.CloseReason.{CloseReason}
use Rattle.cb_control.specs.declared.ending.Status.{Status}
use Rattle.cb_control.specs.declared.ending.Status.TheVariants.{Usage, RunFailed}
use Rattle.cb_control.specs.declared.ending.Halt.{Halt}
use Rattle.cb_control.specs.declared.ending.Halt.TheVariants.{Memory, TooManyLines, ReadFailed, WriteFailed}
use Rattle.cb_control.specs.Ending.{HasCause, status_code, halt_status, halt_line}
use Rattle.cb_commands.specs.Report.{ReportsKnown}
use Rattle.cb_net.specs.Playing.{EndsShort}
use Rattle.cb_control.specs.declared.verdict.Verdict.{Verdict}
use Rattle.cb_command.specs.declared.node_words.BadWords.{BadWords}
use Rattle.cb_command.specs.NodeWords.{bad_words_text}
use Rattle.cb_command.specs.Peer.{closed_text, reason_status}
use Rattle.cb_process.specs.Starting.{IsDeaf}
use Rattle.cb_process.specs.declared.orders.NodeOrders.{NodeOrders}
use Rattle.cb_node_process.specs.Telling.{TellsAll}

-- The exit status as a number.
abbrev pub code_of : Result Status Halt → Result ℕ Halt
code_of (Ok status) = Ok (status_code status)
code_of (Err halt) = Err halt

-- the line on standard error about an early end
abbrev pub end_line : Halt → List ℕ
end_line Memory = codes "memory ran out\n"
end_line TooManyLines = halt_line TooManyLines
end_line ReadFailed = halt_line ReadFailed
end_line WriteFailed = halt_line WriteFailed

-- The run ended early. Standard error was told why, or failed itself. The status is the halt's.
abbrev pub EndsEarly : Option (List ℕ) → Option (List ℕ) → Bool → ℕ → Halt → Type 0
EndsEarly told tells errors_failed code halt =
    (Appends told tells (end_line halt) ⊎ (errors_failed ≡ true))
    × (code ≡ status_code (halt_status halt))

-- The same for some halt that has a cause: in the input as it was, or in a failed read or write.
abbrev pub Halts : Option (List ℕ) → Bool → Bool → Option (List ℕ) → Option (List ℕ) → Bool → ℕ
    → Type 0
Halts input read_failed write_failed told tells errors_failed code =
    (halt : Halt) × HasCause input read_failed write_failed halt
    × EndsEarly told tells errors_failed code halt

-- The status of refused words. Or standard error failed, and the status says that.
abbrev pub Refuses : Bool → ℕ → Type 0
Refuses errors_failed code =
    (code ≡ status_code Usage) ⊎ ((errors_failed ≡ true) × (code ≡ status_code RunFailed))

-- `decode` printed its report, and the status is the report's.
abbrev pub PrintsReport : Option (List ℕ) → Option (List ℕ) → Option (List ℕ) → ℕ → Type 0
PrintsReport input held holds code =
    (status : Status) × ReportsKnown input held holds status × (code ≡ status_code status)

-- The line after the one of a closed session, by whether a read and a write failed.
abbrev pub failure_line : Bool → Bool → List ℕ
failure_line true write_failed = halt_line ReadFailed
failure_line false true = halt_line WriteFailed
failure_line false false = []

-- The status of `serve`, by whether a read and a write failed.
abbrev pub peer_status : Bool → Bool → CloseReason → Status
peer_status true write_failed reason = RunFailed
peer_status false true reason = RunFailed
peer_status false false reason = reason_status reason

-- Standard error was told the reason and what failed, and the status is theirs. Or standard error
-- itself failed.
abbrev pub TellsPeer : Bool → Bool → Option (List ℕ) → Option (List ℕ) → Bool → ℕ → CloseReason
    → Type 0
TellsPeer read_failed write_failed told tells errors_failed code reason =
    (Appends told tells (closed_text reason ++ failure_line read_failed write_failed)
    × (code ≡ status_code (peer_status read_failed write_failed reason)))
    ⊎ ((errors_failed ≡ true) × (code ≡ status_code RunFailed))

-- Why `node` ends early: memory ran out, standard input can't be read, or a write failed, to
-- standard output or to standard error.
abbrev pub HasNodeCause : Bool → Bool → Halt → Type 0
HasNodeCause write_failed errors_failed Memory = ⊤
HasNodeCause write_failed errors_failed TooManyLines = ⊥
HasNodeCause write_failed errors_failed ReadFailed = ⊤
HasNodeCause write_failed errors_failed WriteFailed = (write_failed ≡ true) ⊎ (errors_failed ≡ true)

-- It ended early. Standard error was told why, or failed itself.
abbrev pub EndsNode : Bool → Option (List ℕ) → Option (List ℕ) → Bool → ℕ → Type 0
EndsNode write_failed told tells errors_failed code =
    (halt : Halt) × HasNodeCause write_failed errors_failed halt
    × EndsEarly told tells errors_failed code halt

-- `node` printed all that a run prints, its last audit too (`IsAudit`), and told standard error
-- nothing (`Same`); or it told why it didn't begin, with status 3; or it ended early.
abbrev pub RunsNode : (Verdict → Type 0) → Type 0 → Option (List ℕ) → Option (List ℕ) → Bool
    → Option (List ℕ) → Option (List ℕ) → Bool → Result NodeOrders BadWords → ℕ → Type 0
RunsNode IsAudit Same held holds write_failed told tells errors_failed (Ok orders) code =
    (TellsAll IsAudit held holds code × Same)
    ⊎ ((IsDeaf orders told tells × (code ≡ 3))
    ⊎ EndsNode write_failed told tells errors_failed code)
RunsNode IsAudit Same held holds write_failed told tells errors_failed (Err bad) code =
    (Appends told tells (bad_words_text bad) × (code ≡ 3))
    ⊎ EndsNode write_failed told tells errors_failed code

-- `net` ended early. Standard error was told why, or failed itself.
abbrev pub EndsNet : Bool → Option (List ℕ) → Option (List ℕ) → Bool → ℕ → Type 0
EndsNet write_failed told tells errors_failed code =
    (halt : Halt) × EndsShort write_failed errors_failed halt
    × EndsEarly told tells errors_failed code halt
