-- What may be answered to each order.
use Rattle.std.specs.Prelude.{◌≡◌, ◌≢◌, ◌⊎◌, ℕ}
use Rattle.cb_base.specs.DoubleHash.{double_hash}
use Rattle.cb_block.specs.TxText.{tx_text}
use Rattle.cb_block.specs.BlockText.{header_text}
use Rattle.cb_control.specs.declared.order.Deed.{Deed}
use Rattle.cb_control.specs.declared.order.Deed.TheVariants as deeds
use Rattle.cb_control.specs.declared.order.Order.{Order}
use Rattle.cb_control.specs.declared.order.Order.TheVariants as orders
use Rattle.cb_control.specs.declared.refusal.Refusal.{Refusal}
use Rattle.cb_control.specs.declared.refusal.Refusal.TheVariants as refusals
use Rattle.cb_control.specs.declared.reply.Reply.{Reply}
use Rattle.cb_control.specs.declared.reply.Reply.TheVariants as replies
use Rattle.cb_control.specs.declared.report.BlockReport.{BlockReport}
use Rattle.cb_control.specs.declared.report.StatsReport.{StatsReport}
use Rattle.cb_control.specs.declared.report.Tip.{Tip}
use Rattle.cb_control.specs.declared.verdict.Verdict.{Verdict}

-- the order was refused, for another reason than that its text gives none
abbrev pub IsRefused : Reply → Type 0
IsRefused reply =
    (refusal : Refusal) × (refusal ≢ refusals.Unreadable) × (reply ≡ replies.Refused refusal)

-- the txids of a mempool are listed, or connections are
abbrev pub IsPool : Reply → Type 0
IsPool (replies.Pool txids) = Unit {0}
IsPool other = ⊥

abbrev pub IsPeers : Reply → Type 0
IsPeers (replies.Peers peers) = Unit {0}
IsPeers other = ⊥

-- What answers a deed that was done: the transaction's txid, the block's hash, as many blocks as
-- were asked for, or the slot.
abbrev pub CanTell : Deed → Reply → Type 0
CanTell (deeds.Tx tx) reply = reply ≡ replies.Tx (double_hash (tx_text tx))
CanTell (deeds.Submit block) reply =
    reply ≡ replies.Submitted (double_hash (header_text block.header))
CanTell (deeds.Mine count) reply = (tip : Tip) × (reply ≡ replies.Mined count tip)
CanTell (deeds.Kick slot) reply = reply ≡ replies.Kicked slot
CanTell deeds.Checkpoint reply = reply ≡ replies.Checkpoint

-- What may be answered to an order: its own reply, or a refusal. `Connect` is answered once its
-- dial has ended, and `Quit` at the end.
abbrev pub CanAnswer : Order → Reply → Type 0
CanAnswer (orders.Do deed) reply = CanTell deed reply ⊎ IsRefused reply
CanAnswer orders.Tip reply = (tip : Tip) × (reply ≡ replies.Tip tip)
CanAnswer (orders.Block hash) reply =
    ((block : BlockReport) × (block.hash ≡ hash) × (reply ≡ replies.Block block)) ⊎ IsRefused reply
CanAnswer orders.Pool reply = IsPool reply ⊎ IsRefused reply
CanAnswer orders.Peers reply = IsPeers reply ⊎ IsRefused reply
CanAnswer (orders.Connect address) reply =
    ((slot : ℕ) × (reply ≡ replies.Connected address slot)) ⊎ IsRefused reply
CanAnswer (orders.Disconnect address) reply =
    (reply ≡ replies.Disconnected address) ⊎ IsRefused reply
CanAnswer (orders.Network on) reply = (reply ≡ replies.Network on) ⊎ IsRefused reply
CanAnswer orders.Stats reply = (stats : StatsReport) × (reply ≡ replies.Stats stats)
CanAnswer orders.Restart reply =
    ((verdict : Verdict) × (tip : Tip) × (reply ≡ replies.Restarted verdict tip)) ⊎ IsRefused reply
CanAnswer orders.Quit reply = (verdict : Verdict) × (reply ≡ replies.Audit verdict)
