-- The audit of each honest node: its hall's journal is compared with the traces of all its
-- connections.
use Rattle.std.specs.Prelude.{◌≡◌, ◌⊎◌, ℕ, ◌+◌, ◌-◌, ◌/◌, ◌%◌, ◌^◌, ◌==◌, Bool, true, false, List, [], ◌∷◌, ◌++◌, Option, Some, None, Ok, Err, drop, if◌then◌else◌, min, option_to_list, slice_get, ⊤}
use Rattle.std.specs.List.{flat_map}
use Rattle.cb_hall.specs.Journal.{JournalState}
use Rattle.cb_audit.specs.Audit.{Audits}
use Rattle.cb_audit.specs.Order.{AreInOrder, AuditedTrace}
use Rattle.cb_audit.specs.declared.covering.Compared.{Compared}
use Rattle.cb_audit.specs.declared.auditing.Split.{Split}
use Rattle.cb_audit.specs.declared.auditing.Split.TheVariants.{Memory}
use Rattle.cb_net_node.specs.declared.side.Side.{Side}
use Rattle.cb_net_node.specs.declared.side.Side.TheVariants.{First, Second}
use Rattle.cb_net_node.specs.Joined.{audited_at}
use Rattle.cb_net_node.specs.Links.{end_of}
use Rattle.cb_net_node.specs.Nodes.{is_honest}
use Rattle.cb_net_node.specs.declared.joined.Joined.{Joined}
use Rattle.cb_net_node.specs.declared.link.SimulatedLink.{SimulatedLink}
use Rattle.cb_net_node.specs.declared.node.SimulatedNode.{SimulatedNode}
use Rattle.cb_net.specs.declared.audits.AuditVerdict.{AuditVerdict}
use Rattle.cb_net.specs.declared.audits.AuditVerdict.TheVariants.{Nothing, Yes, No}

-- ---- the traces of a node's hall

-- the side of its link on which an end lies, by the end's number
abbrev pub side_at : ℕ → Side
side_at end = if end % 2 == 0 then First else Second

-- what a link was joined by since the node of a side began anew, in order
abbrev pub joined_since : Side → SimulatedLink → List Joined
joined_since side link =
    drop (end_of link side).forgotten link.past.items ++ option_to_list link.joined

-- the traces of a side's sessions among these
abbrev pub traces_among : Side → List Joined → List AuditedTrace
traces_among side joined = flat_map (λ one. option_to_list (audited_at one side)) joined

-- the traces of a node's connections at one of its ends
abbrev pub traces_on : Side → Option SimulatedLink → List AuditedTrace
traces_on side None = []
traces_on side (Some link) = traces_among side (joined_since side link)

unfoldable pub traces_at : List SimulatedLink → ℕ → List AuditedTrace
traces_at links end = traces_on (side_at end) (slice_get links (end / 2))

-- the traces of all connections of a node's hall: those of each end, in the order of its ends
unfoldable pub traces_of : List SimulatedLink → SimulatedNode → List AuditedTrace
traces_of links node = flat_map (traces_at links) node.ends.items

-- ---- verdicts

-- the audit of a hall and these traces says yes
abbrev pub SaysYes : JournalState → List AuditedTrace → Type 0
SaysYes hall traces = AreInOrder traces × (compared : Compared) × Audits hall traces (Ok compared)

-- It doesn't, for this reason. Traces that aren't in order can't be audited.
abbrev pub SaysNo : JournalState → List AuditedTrace → Split → Type 0
SaysNo hall traces split =
    (AreInOrder traces × Audits hall traces (Err split))
    ⊎ ((AreInOrder traces → ⊥) × (split ≡ Memory))

-- what an audit of a hall and these traces says
abbrev pub IsSaid : JournalState → List AuditedTrace → AuditVerdict → Type 0
IsSaid hall traces Nothing = ⊥
IsSaid hall traces Yes = SaysYes hall traces
IsSaid hall traces (No split) = SaysNo hall traces split

-- what that of an honest node says. Without a hall it can't be made.
abbrev pub IsSaidOf : List AuditedTrace → Option JournalState → AuditVerdict → Type 0
IsSaidOf traces None verdict = verdict ≡ No Memory
IsSaidOf traces (Some hall) verdict = IsSaid hall traces verdict

-- The verdict on a node. Only the audits of honest nodes are made.
unfoldable pub IsVerdict : List SimulatedLink → SimulatedNode → AuditVerdict → Type 0
IsVerdict links node verdict =
    ((is_honest node ≡ true) × IsSaidOf (traces_of links node) node.hall verdict)
    ⊎ ((is_honest node ≡ false) × (verdict ≡ Nothing))

-- one for each node, in order
abbrev pub AreVerdicts : List SimulatedLink → List SimulatedNode → List AuditVerdict → Type 0
AreVerdicts links [] [] = ⊤
AreVerdicts links [] (verdict ∷ verdicts) = ⊥
AreVerdicts links (node ∷ nodes) [] = ⊥
AreVerdicts links (node ∷ nodes) (verdict ∷ verdicts) =
    IsVerdict links node verdict × AreVerdicts links nodes verdicts

-- ---- what they come to

abbrev pub is_yes : AuditVerdict → Bool
is_yes Nothing = false
is_yes Yes = true
is_yes (No split) = false

abbrev pub is_no : AuditVerdict → Bool
is_no Nothing = false
is_no Yes = false
is_no (No split) = true

-- The first no among the verdicts on nodes from this number on, with its node's number, as far as
-- 32 bits count.
abbrev pub refusal_in : ℕ → List AuditVerdict → Option (ℕ × Split)
refusal_in number [] = None
refusal_in number (Nothing ∷ verdicts) = refusal_in (number + 1) verdicts
refusal_in number (Yes ∷ verdicts) = refusal_in (number + 1) verdicts
refusal_in number ((No split) ∷ verdicts) = Some (min number (2 ^ 32 - 1), split)
