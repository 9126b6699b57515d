-- What a node answers that is to do something.
use Rattle.std.specs.Prelude.{◌≡◌, ◌↔◌, ℕ, ◌≤◌, ⊤, Result, Err}
use Rattle.cb_node.specs.declared.fault.NodeFault.{NodeFault}
use Rattle.cb_node.specs.declared.fault.NodeFault.TheVariants as node
use Rattle.cb_control.specs.declared.order.Deed.{Deed}
use Rattle.cb_control.specs.declared.order.Deed.TheVariants.{Kick}
use Rattle.cb_control.specs.declared.refusal.Refusal.{Refusal}
use Rattle.cb_control.specs.declared.refusal.Refusal.TheVariants as refusals
use Rattle.cb_control.specs.declared.reply.Reply.{Reply}

-- why an order is refused, by why a node refuses a call
abbrev pub refusal_of : NodeFault → Refusal
refusal_of (node.Io kind) = refusals.Io
refusal_of node.NoSlot = refusals.NoSlot
refusal_of node.Memory = refusals.Memory
refusal_of (node.Hall fault) = refusals.Fault fault

-- A kick of a slot that a node of so many slots doesn't have is told so, and no other kick is.
abbrev pub TellsSlot : ℕ → Deed → Result Reply NodeFault → Type 0
TellsSlot slots (Kick slot) result = (result ≡ Err node.NoSlot) ↔ (slots ≤ slot)
TellsSlot slots other result = ⊤
