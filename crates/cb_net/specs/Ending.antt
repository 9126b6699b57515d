-- How a network ended.
use Rattle.std.specs.Prelude.{◌≡◌, ℕ, ◌+◌, ◌-◌, ◌^◌, Bool, true, false, ◌==◌, ◌&&◌, List, [], ◌∷◌, Option, Some, None, IfNone, IfSome, count_by, min, nat_eq, replicate, slice_get}
use Rattle.std.specs.Cmp.Lexicographic.{pointwise}
use Rattle.cb_base.specs.declared.hash.Hash256.{Hash256}
use Rattle.cb_hall.specs.declared.summary.Look.{Look}
use Rattle.cb_net_node.specs.Nodes.{is_honest, look_at}
use Rattle.cb_net_node.specs.declared.node.SimulatedNode.{SimulatedNode}
use Rattle.cb_net_node.specs.declared.results.Ending.{Ending}
use Rattle.cb_net.specs.Audits.{AreVerdicts, IsVerdict, is_no, is_yes, refusal_in}
use Rattle.cb_net.specs.declared.audits.AuditVerdict.{AuditVerdict}
use Rattle.cb_net.specs.declared.audits.AuditVerdict.TheVariants.{Nothing}
use Rattle.cb_net.specs.declared.net.Net.{Net}
use Rattle.cb_net.specs.declared.world.World.{World}

-- ---- tips

-- the height and the hash of a tip; 0 and zeros if there is none
abbrev pub tip_in : Option Look → ℕ × Hash256
tip_in None = (0, record { 0 = replicate 32 0 })
tip_in (Some look) = (look.height, look.tip)

-- that of the first node
abbrev pub first_tip : List SimulatedNode → ℕ × Hash256
first_tip [] = tip_in None
first_tip (node ∷ nodes) = tip_in (look_at node)

abbrev pub same : Hash256 → Hash256 → Bool
same a b = pointwise nat_eq a.0 b.0

abbrev pub has_tip : Hash256 → Option Look → Bool
has_tip tip None = false
has_tip tip (Some look) = same look.tip tip

-- a node is honest, and its hall has this tip
abbrev pub agrees : Hash256 → SimulatedNode → Bool
agrees tip node = is_honest node && has_tip tip (look_at node)

-- ---- the end

-- there is a verdict on each node if audits are asked for, and none if they aren't
abbrev pub AreAsked : Bool → World → List AuditVerdict → Type 0
AreAsked true world verdicts = AreVerdicts world.links.items world.nodes.items verdicts
AreAsked false world verdicts = verdicts ≡ []

abbrev pub AreMade : Net → List AuditVerdict → Type 0
AreMade net verdicts = AreAsked net.settings.audit net.world verdicts

-- so many and so many more, as far as 64 bits count
abbrev pub and_more : ℕ → ℕ → ℕ
and_more some more = min (some + more) (2 ^ 64 - 1)

-- the verdict on the node of a number; there is nothing to audit where there is no such node
abbrev pub IsVerdictOn : World → ℕ → AuditVerdict → Type 0
IsVerdictOn world number verdict =
    IfNone (slice_get world.nodes.items number) (verdict ≡ Nothing)
    × IfSome (slice_get world.nodes.items number)
    (λ node. IsVerdict world.links.items node verdict)

-- a node was audited, and the verdict is counted
pub record Judged (world : World) (number : ℕ) (old new : Net) : Type 0 where
  pub verdict : AuditVerdict
  pub is : IsVerdictOn world number verdict
  pub yes : new.yes ≡ and_more old.yes (count_by is_yes (verdict ∷ []))
  pub no : new.no ≡ and_more old.no (count_by is_no (verdict ∷ []))

-- what a network tells of its end, with these verdicts
unfoldable pub ending_of : Net → List AuditVerdict → Ending
ending_of net verdicts =
    let tip = first_tip net.world.nodes.items in
    record {
      height = tip.0;
      tip = tip.1;
      agreeing = count_by (agrees tip.1) net.world.nodes.items;
      honest = count_by is_honest net.world.nodes.items;
      yes = and_more net.yes (count_by is_yes verdicts);
      no = and_more net.no (count_by is_no verdicts);
      refused = refusal_in 0 verdicts;
      closed_on_liars = net.world.closed.on_liars;
      closed_on_honest = net.world.closed.on_honest;
      traffic = net.total;
      is_cut = net.left == 0;
    }
