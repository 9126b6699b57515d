-- What is told of the audit of a node's hall and its desks.
use Rattle.std.specs.Prelude.{◌≡◌, ℕ, ◌+◌, ⊤, List, Ok, Err}
use Rattle.cb_hall.specs.Journal.{JournalState}
use Rattle.cb_hall.specs.declared.summary.Look.{Look}
use Rattle.cb_hall.specs.Hall.{look_of}
use Rattle.cb_session.specs.declared.input.Input.{Input}
use Rattle.cb_crew.specs.Crew.{CrewState}
use Rattle.cb_crew.specs.Desk.{DeskState}
use Rattle.cb_work.specs.PeerWork.{WorkState}
use Rattle.cb_audit.specs.Audit.{Audits}
use Rattle.cb_audit.specs.declared.auditing.Split.TheVariants.{Count, Differs}
use Rattle.cb_audit.specs.Desks.{badge_count, traces_of}
use Rattle.cb_audit.specs.Order.{AreInOrder, AuditedTrace}
use Rattle.cb_control.specs.declared.verdict.Verdict.{Verdict}
use Rattle.cb_control.specs.declared.verdict.Verdict.TheVariants as verdicts
use Rattle.cb_node.specs.declared.node.NodeEnd.{NodeEnd}
use Rattle.cb_node.specs.Node.{HasFinished}

-- What each answer says of a journal and traces. Nothing is said of want of memory.
abbrev pub TellsVerdict : JournalState → List AuditedTrace → Verdict → Type 0
TellsVerdict hall audited (verdicts.Yes answers dropped) =
    AreInOrder audited
    × Audits hall audited (Ok (record { answers = answers; dropped = dropped }))
TellsVerdict hall audited (verdicts.Count slot generation) =
    AreInOrder audited
    × Audits hall audited (Err (Count (record { peer = slot; generation = generation })))
TellsVerdict hall audited (verdicts.Differs slot generation place) =
    AreInOrder audited
    × Audits hall audited
    (Err (Differs (record { peer = slot; generation = generation }) place))
TellsVerdict hall audited verdicts.OutOfOrder = AreInOrder audited → ⊥
TellsVerdict hall audited verdicts.Memory = Unit {0}

-- A yes leaves no answer out of all: each was compared, or dropped before.
abbrev pub CountsAll : ℕ → Verdict → Type 0
CountsAll all (verdicts.Yes answers dropped) = answers + dropped ≡ all
CountsAll all other = ⊤

-- The look and the verdict are those of one hall, audited over the traces of these desks.
pub record TellsEnd {S H F M : Type 0} (desks : List (DeskState (WorkState S H F) M)) (look : Look)
    (verdict : Verdict) : Type 0 where
  pub hall : JournalState
  pub look_is : look ≡ look_of hall.latest.relay
  pub told : TellsVerdict hall (traces_of desks) verdict
  pub counted : CountsAll (badge_count desks) verdict

-- A node of this crew handed out these desks as it ended, whose sockets gave these bytes, and the
-- verdict is that of their audit.
pub record IsAudited {S H F : Type 0} (crew : CrewState) (read : List (List (List ℕ)))
    (desks : List (DeskState (WorkState S H F) Input)) (verdict : Verdict) : Type 0 where
  pub finished : HasFinished crew read desks
  pub look : Look
  pub told : TellsEnd desks look verdict

-- The verdict is that of the audit of what some node handed out as it ended.
abbrev pub IsOfAnEnd : (N : Type 0) → Verdict → Type 0
IsOfAnEnd N verdict =
    (crew : CrewState) × (end : NodeEnd N) × IsAudited crew end.read end.desks.items verdict
