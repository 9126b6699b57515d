-- The bytes that a journal's entries count for (this node's own measure). They bound the journal
-- because peers choose the sizes of what they send.
use Rattle.std.specs.Prelude.{ℕ, ◌+◌, ◌*◌, List, [], ◌∷◌, length}
use Rattle.cb_block.specs.TxText.{tx_text}
use Rattle.cb_block.specs.BlockText.{block_text}
use Rattle.cb_hall.specs.declared.entry.Entry.{Entry}
use Rattle.cb_hall.specs.declared.entry.Entry.TheVariants.{Asked, Submitted}
use Rattle.cb_hall.specs.declared.entry.Local.{Local}
use Rattle.cb_hall.specs.declared.entry.Local.TheVariants as local
use Rattle.cb_hall.specs.declared.question.Question.{Question}
use Rattle.cb_hall.specs.declared.question.Question.TheVariants.{Headers, Want, GiveTx, GiveBlock, Serve, Match}
use Rattle.cb_hall.specs.declared.question.Request.{Request}
use Rattle.cb_hall.specs.declared.question.Request.TheVariants.{Items, After, Places}

-- 40 bytes for each entry of a list.
abbrev pub request_weight : Request → ℕ
request_weight (Items entries) = 40 * length entries
request_weight (After locator stop) = 40 * length locator
request_weight (Places hash differences) = 40 * length differences

-- The bytes of a serialised transaction or block, or 40 for each entry of a list.
abbrev pub question_weight : Question → ℕ
question_weight (Headers headers) = 40 * length headers
question_weight (Want entries) = 40 * length entries
question_weight (GiveTx tx) = length (tx_text tx)
question_weight (GiveBlock given) = length (block_text given.block)
question_weight (Serve request) = request_weight request
question_weight (Match sought) = 40 * length sought.ids
question_weight other = 0

abbrev pub local_weight : Local → ℕ
local_weight (local.Tx tx) = length (tx_text tx)
local_weight (local.Block block) = length (block_text block)
local_weight (local.Header header) = 80

-- 64 bytes for each entry of the journal, and its content.
abbrev pub entry_weight : Entry → ℕ
entry_weight (Asked connection question) = 64 + question_weight question
entry_weight (Submitted local) = 64 + local_weight local
entry_weight other = 64

-- All entries together.
abbrev pub journal_weight : List Entry → ℕ
journal_weight [] = 0
journal_weight (entry ∷ entries) = entry_weight entry + journal_weight entries
