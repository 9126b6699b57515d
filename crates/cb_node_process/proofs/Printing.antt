-- What answers an order.
use Rattle.std.proofs.Common.{◌≡◌, ◌≢◌, true, inl, inr, refl}
use Rattle.std.specs.Prelude.{⊤}
use Rattle.cb_node.specs.declared.fault.NodeFault.{NodeFault}
use Rattle.cb_node.specs.declared.fault.NodeFault.TheVariants as node
use Rattle.cb_control.specs.declared.order.Deed.{Deed}
use Rattle.cb_control.specs.declared.order.Order.{Order}
use Rattle.cb_control.specs.declared.order.Order.TheVariants as orders
use Rattle.cb_control.specs.declared.refusal.Refusal.{Refusal}
use Rattle.cb_control.specs.declared.refusal.Refusal.TheVariants as refusals
use Rattle.cb_control.specs.declared.reply.Reply.{Reply}
use Rattle.cb_control.specs.declared.reply.Reply.TheVariants as replies
use Rattle.cb_control.specs.declared.report.Tip.{Tip}
use Rattle.cb_control.specs.declared.verdict.Verdict.{Verdict}
use Rattle.cb_control.specs.Answering.{CanTell, IsRefused}
use Rattle.cb_control.specs.Outcomes.{says_yes}
use Rattle.cb_driver.specs.Deeds.{refusal_of}
use Rattle.cb_node_process.specs.Telling.{Suits}

-- this refusal tells that the line could be read
pub unknown_is_known : refusals.UnknownBlock ≢ refusals.Unreadable
unknown_is_known e = absurd cc

-- a node refuses no line as unreadable
pub node_refuses : (fault : NodeFault) → refusal_of fault ≢ refusals.Unreadable
node_refuses (node.Io kind) e = absurd cc
node_refuses node.NoSlot e = absurd cc
node_refuses node.Memory e = absurd cc
node_refuses (node.Hall fault) e = absurd cc

-- the order can be refused
abbrev pub CanRefuse : Order → Type 0
CanRefuse orders.Tip = ⊥
CanRefuse orders.Stats = ⊥
CanRefuse orders.Quit = ⊥
CanRefuse other = ⊤

-- the order was refused
refused : (refusal : Refusal) → refusal ≢ refusals.Unreadable → IsRefused (replies.Refused refusal)
refused refusal known = (refusal, known, refl)

pub refuses : (order : Order) (refusal : Refusal) → CanRefuse order → refusal ≢ refusals.Unreadable → Suits ⊤ order (replies.Refused refusal)
refuses (orders.Do deed) refusal can known = record { can = inr (refused refusal known); well = λ well restarts. absurd cc }
refuses orders.Tip refusal can known = absurd can
refuses (orders.Block hash) refusal can known = record { can = inr (refused refusal known); well = λ well restarts. absurd cc }
refuses orders.Pool refusal can known = record { can = inr (refused refusal known); well = λ well restarts. absurd cc }
refuses orders.Peers refusal can known = record { can = inr (refused refusal known); well = λ well restarts. absurd cc }
refuses (orders.Connect address) refusal can known = record { can = inr (refused refusal known); well = λ well restarts. absurd cc }
refuses (orders.Disconnect address) refusal can known = record { can = inr (refused refusal known); well = λ well restarts. absurd cc }
refuses (orders.Network on) refusal can known = record { can = inr (refused refusal known); well = λ well restarts. absurd cc }
refuses orders.Stats refusal can known = absurd can
refuses orders.Restart refusal can known = record { can = inr (refused refusal known); well = λ well restarts. inr (refused refusal known) }
refuses orders.Quit refusal can known = absurd can

-- a deed was done
pub can_do : (deed : Deed) (reply : Reply) → CanTell deed reply → Suits ⊤ (orders.Do deed) reply
can_do deed reply tells = record { can = inl tells; well = λ well restarts. absurd cc }

-- ---- `restart`

pub restarts_well : (verdict : Verdict) (tip : Tip) → says_yes verdict ≡ true → Suits ⊤ orders.Restart (replies.Restarted verdict tip)
restarts_well verdict tip says = record { can = inl (verdict, tip, refl); well = λ well restarts. inl (verdict, tip, refl, says) }

pub restarts_ill : (verdict : Verdict) (tip : Tip) → Suits ⊥ orders.Restart (replies.Restarted verdict tip)
restarts_ill verdict tip = record { can = inl (verdict, tip, refl); well = λ well restarts. absurd well }
