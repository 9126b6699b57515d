-- What a process answers, and what it prints.
use Rattle.std.specs.Prelude.{◌≡◌, ℕ, ◌⊎◌, ⊤, Bool, true, List, ◌++◌, Option, None, Result, IfErr, IfOk}
use Rattle.std.specs.Io.KnownBytes.{Appends}
use Rattle.std.specs.List.{All, flat_map}
use Rattle.std.specs.declared.net.socket_addr.SocketAddr.{SocketAddr}
use Rattle.cb_control.specs.declared.ending.Halt.{Halt}
use Rattle.cb_control.specs.declared.ending.Halt.TheVariants as halts
use Rattle.cb_control.specs.declared.order.Order.{Order}
use Rattle.cb_control.specs.declared.order.Order.TheVariants as orders
use Rattle.cb_control.specs.declared.refusal.Refusal.{Refusal}
use Rattle.cb_control.specs.declared.refusal.Refusal.TheVariants as refusals
use Rattle.cb_control.specs.declared.reply.Reply.{Reply}
use Rattle.cb_control.specs.declared.reply.Reply.TheVariants as replies
use Rattle.cb_control.specs.declared.report.Tip.{Tip}
use Rattle.cb_control.specs.declared.verdict.Verdict.{Verdict}
use Rattle.cb_control.specs.Answering.{CanAnswer, IsRefused}
use Rattle.cb_control.specs.Outcomes.{says_yes}
use Rattle.cb_control.specs.ReplyText.{IsOr, reply_text}
use Rattle.cb_crew.specs.Crew.{CrewState}
use Rattle.cb_node.specs.declared.node.NodeEnd.{NodeEnd}
use Rattle.cb_driver.specs.Auditing.{IsAudited}
use Rattle.cb_node_process.specs.declared.order_answering.LineOutcome.{LineOutcome}
use Rattle.cb_node_process.specs.declared.order_answering.LineOutcome.TheVariants as responses

-- ---- answers

-- `restart` was refused, or its audit says yes
abbrev pub RestartsWell : Reply → Type 0
RestartsWell reply =
    ((verdict : Verdict) × (tip : Tip) × (reply ≡ replies.Restarted verdict tip)
    × (says_yes verdict ≡ true))
    ⊎ IsRefused reply

-- an order is answered so; if all is well, the audit of a `restart` says yes
pub record Suits (Well : Type 0) (order : Order) (reply : Reply) : Type 0 where
  pub can : CanAnswer order reply
  pub well : Well → order ≡ orders.Restart → RestartsWell reply

-- What comes of an order: an answer, which is well unless it failed; `Connect` may be answered
-- later, and `Quit` is.
abbrev pub Responds : Order → LineOutcome → Type 0
Responds order (responses.Reply reply) = Suits ⊤ order reply
Responds order (responses.Failed reply) = Suits ⊥ order reply
Responds order responses.Silence = (address : SocketAddr) × (order ≡ orders.Connect address)
Responds order (responses.End broken) = (order ≡ orders.Quit) × (broken ≡ None)

-- What answers a `restart` tells the audit of what the node of this crew handed out as it ended.
abbrev pub TellsAudit : (N : Type 0) → CrewState → LineOutcome → Type 0
TellsAudit N crew response =
    (end : NodeEnd N) × (verdict : Verdict) × (tip : Tip)
    × IsAudited crew end.read end.desks.items verdict
    × ((response ≡ responses.Reply (replies.Restarted verdict tip))
    ⊎ (response ≡ responses.Failed (replies.Restarted verdict tip)))

-- what the dial of a `connect` came to
abbrev pub IsDialReply : Reply → Type 0
IsDialReply reply =
    ((address : SocketAddr) × (slot : ℕ) × (reply ≡ replies.Connected address slot))
    ⊎ ((refusal : Refusal) × (reply ≡ replies.Refused refusal))

-- the answer to an order, what a dial came to, or that a line gives no order or memory lacks for it
abbrev pub IsAnswer : Type 0 → Reply → Type 0
IsAnswer Well reply =
    ((order : Order) × Suits Well order reply)
    ⊎ (IsDialReply reply
    ⊎ ((reply ≡ replies.Refused refusals.Unreadable) ⊎ (reply ≡ replies.Refused refusals.Memory)))

-- what a moment brings: an answer, which is well unless it failed, nothing, or the end
abbrev pub Comes : LineOutcome → Type 0
Comes (responses.Reply reply) = IsAnswer ⊤ reply
Comes (responses.Failed reply) = IsAnswer ⊥ reply
Comes responses.Silence = ⊤
Comes (responses.End broken) = ⊤

-- ---- what is printed

-- a reply was printed, or `error memory` in its place
abbrev pub Tells : Option (List ℕ) → Option (List ℕ) → Reply → Type 0
Tells held holds reply = (told : Reply) × IsOr reply told × Appends held holds (reply_text told)

-- an answer, or `error memory` in its place
abbrev pub IsTold : Type 0 → Reply → Type 0
IsTold Well told = (reply : Reply) × IsAnswer Well reply × IsOr reply told

-- where it listens was printed first, and then answers
abbrev pub TellsOpening : Type 0 → Option (List ℕ) → Option (List ℕ) → Type 0
TellsOpening Well held holds =
    (address : SocketAddr) × (first : Reply) × (answers : List Reply)
    × IsOr (replies.Listening address) first × All (IsTold Well) answers
    × Appends held holds (reply_text first ++ flat_map reply_text answers)

-- Where it listens was printed first, then answers, and what the audit answers last, or `error
-- memory` in the place of an answer. The status 0 tells that each audit that was printed says yes,
-- that of a `restart` too. The last audit is one (`IsAudit`).
abbrev pub TellsAll : (Verdict → Type 0) → Option (List ℕ) → Option (List ℕ) → ℕ → Type 0
TellsAll IsAudit held holds status =
    (address : SocketAddr) × (verdict : Verdict) × (first last : Reply) × (answers : List Reply)
    × IsAudit verdict × IsOr (replies.Listening address) first × IsOr (replies.Audit verdict) last
    × All (IsTold (status ≡ 0)) answers
    × Appends held holds ((reply_text first ++ flat_map reply_text answers) ++ reply_text last)
    × ((status ≡ 0 → says_yes verdict ≡ true) × ((status ≡ 0) ⊎ (status ≡ 3)))

-- why a run ends early: memory, or a read or a write that failed
abbrev pub StopsEarly : Type 0 → Halt → Type 0
StopsEarly Failed halt =
    (halt ≡ halts.Memory) ⊎ ((halt ≡ halts.ReadFailed) ⊎ ((halt ≡ halts.WriteFailed) × Failed))

-- a node was started and has ended, with this status or early
pub record HasRun (IsAudit : Verdict → Type 0) (held holds : Option (List ℕ)) (failed : Bool)
    (ended : Result ℕ Halt) : Type 0 where
  pub told : IfOk ended (TellsAll IsAudit held holds)
  pub halts : IfErr ended (StopsEarly (failed ≡ true))
