-- Nodes that keep their slots.
use Rattle.std.proofs.Common.{◌≡◌, ◌<◌, ◌+◌, ℕ, Bool, true, false, List, length, All, Result, Ok, Err, IfOk, OnErr, Some, get_or, set, sym, ap, subst, ◌∙◌, arith}
use Rattle.std.proofs.lemmas.List.{length-replicate, length-set}
use Rattle.std.proofs.lemmas.List.Elements.{All-get_or, All-set}
use Rattle.std.specs.declared.net.socket_addr.SocketAddr.{SocketAddr}
use Rattle.cb_node.specs.declared.fault.NodeFault.{NodeFault}
use Rattle.cb_node.specs.declared.settings.NodeSettings.{NodeSettings}
use Rattle.cb_node.specs.Node.{IsNewNode, IsServed, NodeState, with_listens, with_used}
use Rattle.cb_driver.specs.Playing.{HasSlots}

pub starts : (settings : NodeSettings) (node : NodeState) → (settings.inbound ≡ 32) × (settings.outbound ≡ 32) → IsNewNode settings node → HasSlots node
starts settings node are new = ap length new.unused ∙ length-replicate (settings.inbound + settings.outbound) false ∙ (omega (arith, are.0, are.1))

pub stays : (nodes : List NodeState) (n : ℕ) (d new : NodeState) → All HasSlots nodes → n < length nodes → new ≡ get_or nodes n d → All HasSlots (set nodes n new)
stays nodes n d new all there is = All-set HasSlots nodes n new (subst HasSlots (sym is) (All-get_or HasSlots nodes n d there all)) all

pub uses : (nodes : List NodeState) (n : ℕ) (d new : NodeState) (slot : ℕ) → All HasSlots nodes → n < length nodes → new ≡ with_used (get_or nodes n d) slot → All HasSlots (set nodes n new)
uses nodes n d new slot all there is =
    let old : NodeState = get_or nodes n d in
    All-set HasSlots nodes n new (subst HasSlots (sym is) (length-set old.used slot true ∙ All-get_or HasSlots nodes n d there all)) all

pub listens : (nodes : List NodeState) (n : ℕ) (d new : NodeState) (result : Result SocketAddr NodeFault) → All HasSlots nodes → n < length nodes → IfOk result (λ at. new ≡ with_listens (get_or nodes n d) (Some at))
    → OnErr result (new ≡ get_or nodes n d) → All HasSlots (set nodes n new)
listens nodes n d new (Ok at) all there listening kept = All-set HasSlots nodes n new (subst HasSlots (sym listening) (All-get_or HasSlots nodes n d there all)) all
listens nodes n d new (Err fault) all there listening kept = stays nodes n d new all there kept

pub served : (inbound : Bool) (nodes : List NodeState) (n : ℕ) (d new : NodeState) (result : Result ℕ NodeFault) → All HasSlots nodes → n < length nodes → IsServed inbound (get_or nodes n d) new result → All HasSlots (set nodes n new)
served inbound nodes n d new (Ok slot) all there is = uses nodes n d new slot all there is.ok
served inbound nodes n d new (Err fault) all there is = stays nodes n d new all there is.err

pub within : (nodes : List NodeState) (n k : ℕ) (new : NodeState) → k < length nodes → k < length (set nodes n new)
within nodes n k new there = subst (λ (m : ℕ). k < m) (sym (length-set nodes n new)) there
