-- What a session asks the hall (Bitcoin Core: ChainstateManager and CTxMemPool), by the item that
-- it processes and how far it is with it, and which answers fit a question.
use Rattle.std.specs.Prelude.{ℕ, pos, Bool, true, false, List, [], ◌∷◌, filter, replicate, Option, Some, None}
use Rattle.cb_base.specs.declared.hash.Hash256.{Hash256}
use Rattle.cb_block.specs.declared.block.Block.{Block}
use Rattle.cb_block.specs.declared.header.Header.{Header}
use Rattle.cb_block.specs.Genesis.{genesis_block}
use Rattle.cb_peer_state.specs.Fetching.{as_blocks}
use Rattle.cb_hall.specs.declared.answer.Answer.{Answer}
use Rattle.cb_hall.specs.declared.answer.Answer.TheVariants as answers
use Rattle.cb_hall.specs.declared.question.Question.{Question}
use Rattle.cb_hall.specs.declared.question.Sought.{Sought}
use Rattle.cb_wire.specs.declared.block_transactions.BlockTransactionsRequest.{BlockTransactionsRequest}
use Rattle.cb_wire.specs.declared.compact_block.HeaderAndShortIds.{HeaderAndShortIds}
use Rattle.cb_hall.specs.declared.question.Question.TheVariants as questions
use Rattle.cb_hall.specs.declared.question.Request.TheVariants.{Items, After, Places}
use Rattle.cb_wire.specs.declared.inventory.Inventory.{Inventory}
use Rattle.cb_wire.specs.declared.inventory.Inventory.TheVariants as entry
use Rattle.cb_block.specs.declared.tx.Tx.{Tx}
use Rattle.cb_wire.specs.declared.item.Item.{Item}
use Rattle.cb_wire.specs.declared.item.Item.TheVariants.{Good}
use Rattle.cb_wire.specs.declared.message.Message.TheVariants as messages
use Rattle.cb_peer_state.specs.declared.stage.Stage.{Stage}
use Rattle.cb_peer_state.specs.declared.stage.Stage.TheVariants as stages
use Rattle.cb_peer_state.specs.declared.stage.Subject.{Subject}
use Rattle.cb_peer_state.specs.declared.stage.Subject.TheVariants as subjects
use Rattle.cb_peer_state.specs.declared.pending.Pending.{Pending}
use Rattle.cb_peer_state.specs.declared.session_state.SessionState.{SessionState}

abbrev pub is_nil : {A : Type 0} → List A → Bool
is_nil [] = true
is_nil (first ∷ others) = false

-- Whether an entry names a transaction or a block: types 1 and 2.
abbrev pub is_known_type : Inventory → Bool
is_known_type (entry.Tx txid) = true
is_known_type (entry.Block hash) = true
is_known_type other = false

-- The entries that name a transaction or a block.
abbrev pub told_of : List Inventory → List Inventory
told_of entries = filter is_known_type entries

-- ---- what an item holds. A session asks about a part for an item of that kind alone, so the last
-- line of each definition doesn't come up.

abbrev pub item_headers : Option Item → List Header
item_headers (Some (Good (messages.Headers headers))) = headers
item_headers (Some (Good (messages.CmpctBlock short))) = short.header ∷ []
item_headers item = []

abbrev pub item_inventory : Option Item → List Inventory
item_inventory (Some (Good (messages.Inv entries))) = entries
item_inventory item = []

abbrev pub item_tx : Option Item → Tx
item_tx (Some (Good (messages.Tx tx))) = tx
item_tx item = record { version = pos 0; inputs = []; outputs = []; lock_time = 0 }

abbrev pub item_block : Option Item → Block
item_block (Some (Good (messages.Block block))) = block
item_block item = genesis_block

abbrev pub item_requests : Option Item → List Inventory
item_requests (Some (Good (messages.GetData entries))) = entries
item_requests item = []

abbrev pub item_locator : Option Item → List Hash256
item_locator (Some (Good (messages.GetHeaders request))) = request.locator
item_locator item = []

abbrev pub item_stop : Option Item → Hash256
item_stop (Some (Good (messages.GetHeaders request))) = request.stop
item_stop item = record { 0 = replicate 32 0 }

abbrev pub item_places : Option Item → BlockTransactionsRequest
item_places (Some (Good (messages.GetBlockTxn request))) = request
item_places item = record { block = record { 0 = replicate 32 0 }; differences = [] }

-- The compact block that an item brought, if it did.
abbrev pub short_in : Option Item → Option HeaderAndShortIds
short_in (Some (Good (messages.CmpctBlock short))) = Some short
short_in item = None

-- What is looked for in the mempool: the transactions with a compact block's short ids.
abbrev pub sought_for : Option HeaderAndShortIds → Sought
sought_for (Some short) = record { header = short.header; nonce = short.nonce; ids = short.txs.ids }
sought_for None = record { header = genesis_block.header; nonce = 0; ids = [] }

-- The question about an item, by its subject. The end of the handshake asks for the chain's
-- locator.
abbrev pub about : Subject → SessionState → Option Item → Question
about subjects.Headers s item = questions.Headers (item_headers item)
about subjects.Locator s item = questions.Locator
about subjects.Inventory s item = questions.Want (told_of (item_inventory item))
about subjects.Tx s item = questions.GiveTx (item_tx item)
about subjects.Block s item = questions.GiveBlock (record {
  block = item_block item;
  capable = s.peer.capable;
})
about subjects.Items s item = questions.Serve (Items (item_requests item))
about subjects.After s item = questions.Serve (After (item_locator item) (item_stop item))
about subjects.Places s item =
    questions.Serve (Places (item_places item).block (item_places item).differences)

-- The question for each step of an item or tick: whether it is admitted; what the item leads to;
-- which transactions of the mempool have a compact block's short ids; what the hall says of a
-- rebuilt block; which queued blocks are still needed; and what is new. News come with the tip's
-- block for a peer that wants compact blocks unasked (BIP 152).
abbrev pub question_of : SessionState → Option Item → Stage → Question
question_of s item stages.Admit = questions.Admit
question_of s item (stages.About subject) = about subject s item
question_of s item stages.Match = questions.Match (sought_for (short_in item))
question_of s item (stages.Give block) = questions.GiveBlock (record {
  block = block;
  capable = s.peer.capable;
})
question_of s item stages.Wanted = questions.Want (as_blocks s.fetch.wanted)
question_of s item stages.Fresh = questions.News (record {
  tip = s.marks.tip;
  from = s.marks.next;
  whole = s.peer.wants_high;
})

-- The open question, if there is one.
abbrev pub question_at : SessionState → Option Pending → Option Question
question_at s None = None
question_at s (Some pending) = Some (question_of s pending.item pending.stage)

abbrev pub pending_question : SessionState → Option Question
pending_question s = question_at s s.pending

-- The number of answers still to come, with the open question's own. Each answer that fits leaves
-- fewer.
abbrev pub question_left : Stage → ℕ
question_left stages.Admit = 6
question_left (stages.About subject) = 5
question_left stages.Match = 4
question_left (stages.Give block) = 3
question_left stages.Wanted = 2
question_left stages.Fresh = 1

abbrev pub questions_left : Option Pending → ℕ
questions_left None = 0
questions_left (Some pending) = question_left pending.stage

-- Whether an answer fits a question. `Kicked` fits every question.
abbrev pub fits : Question → Answer → Bool
fits question answers.Kicked = true
fits questions.Admit answers.Go = true
fits (questions.Headers headers) (answers.Heads heads) = true
fits questions.Locator (answers.Locator hashes) = true
fits (questions.Want entries) (answers.Need need) = true
fits (questions.GiveTx tx) (answers.TxTaken refused) = true
fits (questions.GiveBlock given) (answers.Taken taken) = true
fits (questions.Serve (Items entries)) (answers.Served pieces) = true
fits (questions.Serve (After locator stop)) (answers.Following headers) = true
fits (questions.Serve (Places hash differences)) (answers.Excerpt excerpt) = true
fits (questions.Match sought) (answers.Pairs pairs) = true
fits (questions.News since) (answers.News news) = true
fits question other = false

-- Whether an answer is of the kind that a session waits for. `Kicked` meets every stage.
abbrev pub is_met : Stage → Answer → Bool
is_met stage answers.Kicked = true
is_met stages.Admit answers.Go = true
is_met (stages.About subjects.Headers) (answers.Heads heads) = true
is_met (stages.About subjects.Locator) (answers.Locator hashes) = true
is_met (stages.About subjects.Inventory) (answers.Need need) = true
is_met (stages.About subjects.Tx) (answers.TxTaken refused) = true
is_met (stages.About subjects.Block) (answers.Taken taken) = true
is_met (stages.About subjects.Items) (answers.Served pieces) = true
is_met (stages.About subjects.After) (answers.Following headers) = true
is_met (stages.About subjects.Places) (answers.Excerpt excerpt) = true
is_met stages.Match (answers.Pairs pairs) = true
is_met (stages.Give block) (answers.Taken taken) = true
is_met stages.Wanted (answers.Need need) = true
is_met stages.Fresh (answers.News news) = true
is_met stage other = false
