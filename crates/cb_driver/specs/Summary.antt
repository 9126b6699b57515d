-- What is printed at the end of a run.
use Rattle.std.specs.Prelude.{◌≡◌, ℕ, Bool, false, ◌⊎◌, ⊤, List, [], ◌++◌, map, reverse, codes, Option, Some, None, Ok}
use Rattle.std.specs.Fmt.{decimal}
use Rattle.std.specs.List.{AllZip, flat_map, list_all, range_with_len}
use Rattle.std.specs.Str.Lines.{lines}
use Rattle.cb_crew.specs.Crew.{CrewState}
use Rattle.cb_crew.specs.Desk.{DeskState}
use Rattle.cb_session.specs.declared.input.Input.{Input}
use Rattle.cb_work.specs.PeerWork.{WorkState}
use Rattle.cb_node.specs.declared.node.NodeEnd.{NodeEnd}
use Rattle.cb_node.specs.Node.{HasFinished}
use Rattle.cb_control.specs.declared.verdict.Verdict.{Verdict}
use Rattle.cb_driver.specs.Auditing.{TellsEnd}
use Rattle.hex.specs.Hex.{encode_lower}
use Rattle.cb_control.specs.declared.script_text.Tally.{Tally}
use Rattle.cb_driver.specs.declared.report.NodeReport.{NodeReport}
use Rattle.cb_driver.specs.Playing.{PlaysLines, PlaysUpTo}
use Rattle.cb_control.specs.Outcomes.{agreement, good, status_of, tally_audited}
use Rattle.cb_control.specs.ReplyText.{yes_no}

-- a node's line; the tip's hash is shown with its bytes reversed
abbrev pub report_text : NodeReport → List ℕ
report_text report =
    codes "node "
    ++ (decimal report.node
    ++ (codes " height "
    ++ (decimal report.look.height
    ++ (codes " tip "
    ++ (encode_lower (reverse report.look.tip.0)
    ++ (codes " pool "
    ++ (decimal report.look.pool
    ++ (codes " audit " ++ (yes_no report.agrees ++ codes "\n")))))))))

abbrev pub reports_text : List NodeReport → List ℕ
reports_text reports = flat_map report_text reports

-- A report tells of these desks: its look and its yes or no are those of one hall, audited over
-- their traces.
pub record TellsReport {S H F M : Type 0} (desks : List (DeskState (WorkState S H F) M))
    (report : NodeReport) : Type 0 where
  pub verdict : Verdict
  pub told : TellsEnd desks report.look verdict
  pub agrees : agreement verdict ≡ Ok report.agrees

-- A node of some crew handed out these desks as it ended, whose sockets gave these bytes, and the
-- report tells of them.
abbrev pub IsReported : {S H F : Type 0} → List (List (List ℕ))
    → List (DeskState (WorkState S H F) Input) → NodeReport → Type 0
IsReported read desks report =
    (crew : CrewState) × HasFinished crew read desks × TellsReport desks report

-- Each report tells of what a node handed out as it ended.
abbrev pub AreReported : (N : Type 0) → List NodeReport → Type 0
AreReported N reports =
    (ends : List (NodeEnd N))
    × AllZip (λ end report. IsReported end.read end.desks.items report) ends reports

-- there is one for each of so many nodes, in their order
abbrev pub AreOfAll : ℕ → List NodeReport → Type 0
AreOfAll nodes reports = map (λ report. report.node) reports ≡ range_with_len 0 nodes

-- after the audits of all nodes
abbrev pub tally_reported : Tally → List NodeReport → Tally
tally_reported tally reports = tally_audited tally (list_all (λ report. report.agrees) reports)

-- All lines were played, and each node is reported, as its audit tells. What each connection moved
-- follows only if it is asked for.
pub record RunsToTheEnd (AreTold : List NodeReport → Type 0) (nodes : ℕ) (stats : Bool)
    (input out : List ℕ) (status : ℕ) : Type 0 where
  pub text : List ℕ
  pub tally : Tally
  pub reports : List NodeReport
  pub rest : List ℕ
  pub plays : PlaysLines nodes 1 (lines input) good text tally
  pub of_all : AreOfAll nodes reports
  pub told : AreTold reports
  pub plain : stats ≡ false → rest ≡ []
  pub out_is : out ≡ text ++ (reports_text reports ++ rest)
  pub status_is : status ≡ status_of (tally_reported tally reports)

-- what is printed if the nodes couldn't be started
abbrev pub not_started_text : List ℕ
not_started_text = codes "0 io\n"

-- What a run prints for its whole input, and its status. A line that can't be read ends it without
-- a report, and so do nodes that can't be started.
abbrev pub Runs : (List NodeReport → Type 0) → ℕ → Bool → List ℕ → List ℕ → ℕ → Type 0
Runs AreTold nodes stats input out status =
    RunsToTheEnd AreTold nodes stats input out status
    ⊎ ((PlaysUpTo nodes input out ⊎ (out ≡ not_started_text)) × (status ≡ 3))

-- the same, if the bytes of the reader and the writer are known
abbrev pub RunsKnown : (List NodeReport → Type 0) → ℕ → Bool → Option (List ℕ) → Option (List ℕ)
    → Option (List ℕ) → ℕ → Type 0
RunsKnown AreTold nodes stats None old new status = ⊤
RunsKnown AreTold nodes stats (Some input) None new status = ⊤
RunsKnown AreTold nodes stats (Some input) (Some held) None status = ⊥
RunsKnown AreTold nodes stats (Some input) (Some held) (Some holds) status =
    (out : List ℕ) × (holds ≡ held ++ out) × Runs AreTold nodes stats input out status
