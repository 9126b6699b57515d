-- What a good end comes to.
use Rattle.std.proofs.Common.{◌≡◌, ◌∙◌, ℕ, ◌+◌, ◌≤◌, Bool, true, false, cond, ◌&&◌, List, [], ◌∷◌, Option, Some, None, count_by, refl, sym, inl, inr, arith}
use Rattle.std.specs.List.{AllByRecursion}
use Rattle.std.proofs.lemmas.List.Sums.{sum_by-cons}
use Rattle.cb_base.specs.declared.hash.Hash256.{Hash256}
use Rattle.cb_hall.specs.Journal.{JournalState}
use Rattle.cb_audit.specs.Order.{AuditedTrace}
use Rattle.cb_net_node.specs.Arrivals.{IsWell}
use Rattle.cb_net_node.specs.Nodes.{is_honest, look_at}
use Rattle.cb_net_node.specs.declared.link.SimulatedLink.{SimulatedLink}
use Rattle.cb_net_node.specs.declared.node.SimulatedNode.{SimulatedNode}
use Rattle.cb_net.specs.Audits.{AreVerdicts, IsSaidOf, IsVerdict, is_no}
use Rattle.cb_net.specs.Ending.{AreAsked, AreMade, agrees, ending_of, first_tip, has_tip}
use Rattle.cb_net.specs.GoodEnd.{IsGood}
use Rattle.cb_net.specs.declared.audits.AuditVerdict.{AuditVerdict}
use Rattle.cb_net.specs.declared.audits.AuditVerdict.TheVariants.{No, Nothing, Yes}
use Rattle.cb_net.specs.declared.net.Net.{Net}
use Rattle.cb_net.specs.declared.world.World.{World}

-- ---- tips

-- 1 for true
abbrev bit : Bool → ℕ
bit b = cond b 1 0

one_more : {A : Type 0} (p : A → Bool) (one : A) (list : List A) → count_by p (one ∷ list) ≡ bit (p one) + count_by p list
one_more p one list = sum_by-cons (λ x. cond (p x) 1 0) one list

one_le : (a b : Bool) → bit (a && b) ≤ bit a
one_le true true = omega arith
one_le true false = omega arith
one_le false b = omega arith

one_same : (a b : Bool) → bit (a && b) ≡ bit a → a ≡ true → (a && b) ≡ true
one_same true true same is = refl
one_same true false same is = absurd (omega (arith, same))
one_same false b same is = cc

count_le : (tip : Hash256) (nodes : List SimulatedNode) → count_by (agrees tip) nodes ≤ count_by is_honest nodes
count_le tip [] = omega arith
count_le tip (node ∷ nodes) = omega (arith, one_more (agrees tip) node nodes, one_more is_honest node nodes, one_le (is_honest node) (has_tip tip (look_at node)), count_le tip nodes)

-- two sums that are alike are so part by part, if each part is no more than the other's
sums_alike : (a b x y : ℕ) → a ≤ b → x ≤ y → a + x ≡ b + y → (a ≡ b) × (x ≡ y)
sums_alike a b x y low less same = (omega arith, omega arith)

all_agree : (tip : Hash256) (nodes : List SimulatedNode) → count_by (agrees tip) nodes ≡ count_by is_honest nodes → AllByRecursion (λ node. is_honest node ≡ true → agrees tip node ≡ true) nodes
all_agree tip [] same = tt
all_agree tip (node ∷ nodes) same =
    let sums : bit (agrees tip node) + count_by (agrees tip) nodes ≡ bit (is_honest node) + count_by is_honest nodes = sym (one_more (agrees tip) node nodes) ∙ same ∙ one_more is_honest node nodes in
    let parts = sums_alike (bit (agrees tip node)) (bit (is_honest node)) (count_by (agrees tip) nodes) (count_by is_honest nodes) (one_le (is_honest node) (has_tip tip (look_at node))) (count_le tip nodes) sums in
    (λ honest. one_same (is_honest node) (has_tip tip (look_at node)) parts.0 honest, all_agree tip nodes parts.1)

-- ---- verdicts

not_nothing : (traces : List AuditedTrace) (hall : Option JournalState) → IsSaidOf traces hall Nothing → ⊥
not_nothing traces None said = cc
not_nothing traces (Some hall) said = said

yes_of : (links : List SimulatedLink) (node : SimulatedNode) (verdict : AuditVerdict) → bit (is_no verdict) ≡ 0 → IsVerdict links node verdict → is_honest node ≡ true → IsVerdict links node Yes
unfolding IsVerdict
yes_of links node Nothing none (inl said) honest = absurd (not_nothing _ node.hall said.1)
yes_of links node Nothing none (inr other) honest = let no : true ≡ false = sym honest ∙ other.0 in cc
yes_of links node Yes none is honest = is
yes_of links node (No split) none is honest = absurd (omega (arith, none))

all_yes : (links : List SimulatedLink) (nodes : List SimulatedNode) (verdicts : List AuditVerdict) → AreVerdicts links nodes verdicts → count_by is_no verdicts ≡ 0 → AllByRecursion (λ node. is_honest node ≡ true → IsVerdict links node Yes) nodes
all_yes links [] [] are none = tt
all_yes links [] (verdict ∷ verdicts) are none = tt
all_yes links (node ∷ nodes) [] are none = absurd are
all_yes links (node ∷ nodes) (verdict ∷ verdicts) are none =
    (yes_of links node verdict (omega (arith, none, one_more is_no verdict verdicts)) are.0, all_yes links nodes verdicts are.1 (omega (arith, none, one_more is_no verdict verdicts)))

asked : (audit : Bool) (world : World) (verdicts : List AuditVerdict) → AreAsked audit world verdicts → audit ≡ true → AreVerdicts world.links.items world.nodes.items verdicts
asked true world verdicts are is = are
asked false world verdicts are is = cc

pub good : (net : Net) (verdicts : List AuditVerdict) → AreMade net verdicts → IsWell (ending_of net verdicts) → IsGood net
unfolding ending_of
good net verdicts made well = record {
  tips = all_agree (first_tip net.world.nodes.items).1 net.world.nodes.items well.one_tip;
  audits = λ audit. all_yes net.world.links.items net.world.nodes.items verdicts (asked net.settings.audit net.world verdicts made audit) (omega (arith, well.audits));
}
