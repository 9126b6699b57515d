-- The lines by which an operator is told a reply.
use Rattle.std.specs.Prelude.{◌≡◌, ◌⊎◌, ℕ, Bool, if◌then◌else◌, List, [], ◌++◌, length, reverse, codes, Option, Some, None}
use Rattle.std.specs.Fmt.{decimal}
use Rattle.std.specs.List.{flat_map}
use Rattle.std.specs.Net.Text.{socket_text}
use Rattle.hex.specs.Hex.{encode_lower}
use Rattle.cb_base.specs.declared.hash.Hash256.{Hash256}
use Rattle.cb_control.specs.declared.refusal.Refusal.TheVariants as refusals
use Rattle.cb_control.specs.declared.reply.Reply.{Reply}
use Rattle.cb_control.specs.declared.reply.Reply.TheVariants as replies
use Rattle.cb_control.specs.declared.report.BlockReport.{BlockReport}
use Rattle.cb_control.specs.declared.report.PeerReport.{PeerReport}
use Rattle.cb_control.specs.declared.report.Phase.{Phase}
use Rattle.cb_control.specs.declared.report.Phase.TheVariants as phases
use Rattle.cb_control.specs.declared.report.StatsReport.{StatsReport}
use Rattle.cb_control.specs.declared.report.Tip.{Tip}
use Rattle.cb_control.specs.declared.verdict.Verdict.{Verdict}
use Rattle.cb_control.specs.declared.verdict.Verdict.TheVariants as verdicts
use Rattle.cb_control.specs.Counters.{moved_text}
use Rattle.cb_control.specs.OrderLine.{on_off}
use Rattle.cb_control.specs.PeerText.{peer_end}
use Rattle.cb_control.specs.Refusals.{refusal_words}

-- a hash as people write it: its bytes reversed, in hex
abbrev pub hash_text : Hash256 → List ℕ
hash_text hash = encode_lower (reverse hash.0)

-- a word and a hash
abbrev pub hash_line : List ℕ → Hash256 → List ℕ
hash_line word hash = word ++ (hash_text hash ++ codes "\n")

abbrev pub txid_line : Hash256 → List ℕ
txid_line txid = hash_line [] txid

-- a word, a height and a hash
abbrev pub tip_line : List ℕ → Tip → List ℕ
tip_line word tip =
    word ++ (decimal tip.height ++ (codes " " ++ (hash_text tip.hash ++ codes "\n")))

abbrev pub yes_no : Bool → List ℕ
yes_no b = if b then codes "yes" else codes "no"

-- how many transactions a block has, if it is kept
abbrev pub count_line : Option ℕ → List ℕ
count_line None = codes "none\n"
count_line (Some count) = decimal count ++ codes "\n"

abbrev pub block_text : BlockReport → List ℕ
block_text block =
    (codes "block " ++ (hash_text block.hash ++ (codes " height " ++ (decimal block.height
    ++ (codes " best " ++ (yes_no block.best ++ codes " transactions ")))))) ++ count_line block.txs

-- how long the node has run, and how many connections last and there were
abbrev pub counts_text : StatsReport → List ℕ
counts_text stats =
    codes "stats seconds " ++ (decimal stats.seconds ++ (codes " open " ++ (decimal stats.lasting
    ++ (codes " connections " ++ (decimal stats.all ++ codes " ")))))

abbrev pub stats_text : StatsReport → List ℕ
stats_text stats =
    counts_text stats ++ moved_text stats.moved
    ++ (codes " refused " ++ (decimal stats.refused ++ codes "\n"))

abbrev pub phase_name : Phase → List ℕ
phase_name phases.Start = codes "start"
phase_name phases.Greeted = codes "greeted"
phase_name phases.Ready = codes "ready"
phase_name phases.Over = codes "over"

-- `from` a peer that made the connection, or `to` a peer
abbrev pub way_name : Bool → List ℕ
way_name inbound = if inbound then codes "from" else codes "to"

-- a connection that lasts: its slot and its generation, where the peer is, how far the session is,
-- what it moved, when it was made, what came last, and what the peer's `version` told
abbrev pub peer_text : PeerReport → List ℕ
peer_text peer =
    (codes "slot "
    ++ (decimal peer.slot
    ++ (codes " connection "
    ++ (decimal peer.generation
    ++ (codes " "
    ++ (way_name peer.inbound
    ++ (codes " "
    ++ (socket_text peer.address ++ (codes " " ++ (phase_name peer.phase ++ codes " "))))))))))
    ++ moved_text peer.moved ++ peer_end peer

-- a word, how many there are, and a line of each
abbrev pub list_text : {A : Type 0} → List ℕ → (A → List ℕ) → List A → List ℕ
list_text word line all = (word ++ (decimal (length all) ++ codes "\n")) ++ flat_map line all

-- what an audit answers; a yes with how many answers were compared, and how many were dropped
abbrev pub verdict_text : Verdict → List ℕ
verdict_text (verdicts.Yes answers dropped) =
    codes "audit yes "
    ++ (decimal answers ++ (codes " answers, " ++ (decimal dropped ++ codes " dropped\n")))
verdict_text (verdicts.Count slot generation) =
    codes "audit no count slot "
    ++ (decimal slot ++ (codes " connection " ++ (decimal generation ++ codes "\n")))
verdict_text (verdicts.Differs slot generation place) =
    codes "audit no differs slot "
    ++ (decimal slot
    ++ (codes " connection "
    ++ (decimal generation ++ (codes " place " ++ (decimal place ++ codes "\n")))))
verdict_text verdicts.OutOfOrder = codes "audit no order\n"
verdict_text verdicts.Memory = codes "audit no memory\n"

-- ---- a reply

abbrev pub reply_text : Reply → List ℕ
reply_text (replies.Listening address) = codes "listening " ++ (socket_text address ++ codes "\n")
reply_text (replies.Tip tip) = tip_line (codes "tip ") tip
reply_text (replies.Block block) = block_text block
reply_text (replies.Tx txid) = hash_line (codes "tx ") txid
reply_text (replies.Submitted hash) = hash_line (codes "submitted ") hash
reply_text (replies.Mined count tip) =
    (codes "mined " ++ decimal count) ++ tip_line (codes " tip ") tip
reply_text (replies.Pool txids) = list_text (codes "pool ") txid_line txids.items
reply_text (replies.Peers peers) = list_text (codes "peers ") peer_text peers.items
reply_text (replies.Kicked slot) = codes "kicked " ++ (decimal slot ++ codes "\n")
reply_text (replies.Connected address slot) =
    codes "connected " ++ (socket_text address ++ (codes " slot " ++ (decimal slot ++ codes "\n")))
reply_text (replies.Disconnected address) =
    codes "disconnected " ++ (socket_text address ++ codes "\n")
reply_text (replies.Network on) = codes "network " ++ (on_off on ++ codes "\n")
reply_text replies.Checkpoint = codes "checkpoint\n"
reply_text (replies.Stats stats) = stats_text stats
reply_text (replies.Restarted verdict tip) =
    verdict_text verdict ++ tip_line (codes "restarted tip ") tip
reply_text (replies.Audit verdict) = verdict_text verdict
reply_text (replies.Refused refusal) = codes "error " ++ (refusal_words refusal ++ codes "\n")

-- A reply is told as it is, or that memory lacks in its place.
abbrev pub IsOr : Reply → Reply → Type 0
IsOr reply told = (told ≡ reply) ⊎ (told ≡ replies.Refused refusals.Memory)
