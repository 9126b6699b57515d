-- The kinds of events, and how many bytes each counts for in a trace, the log of one connection's
-- events.
use Rattle.std.specs.Prelude.{ℕ, ◌+◌, ◌*◌, Bool, true, false, length}
use Rattle.cb_hall.specs.declared.answer.Answer.{Answer}
use Rattle.cb_hall.specs.declared.answer.Answer.TheVariants as answers
use Rattle.cb_state.specs.declared.serving_places.Excerpt.{Excerpt}
use Rattle.cb_state.specs.declared.serving_places.Excerpt.TheVariants as excerpts
use Rattle.cb_wire.specs.declared.item.Item.{Item}
use Rattle.cb_wire.specs.declared.item.Item.TheVariants.{Good}
use Rattle.cb_wire.specs.Grammar.{payload_text}
use Rattle.cb_peer_state.specs.declared.event.Event.{Event}
use Rattle.cb_peer_state.specs.declared.event.Event.TheVariants as events

-- An event without its content.
pub data Kind : Type 0 where
  -- Input from the peer: an item, a fault of its stream, or its end.
  Input : Kind
  -- A tick or a probe: a timer event.
  Beat : Kind
  -- The hall's answer to a question.
  Reply : Kind
  -- Memory ran out.
  Shortage : Kind
  -- The hall grants no more questions.
  Refusal : Kind
  -- A write failed.
  Loss : Kind

abbrev pub kind_of : Event → Kind
kind_of (events.Said item) = Input
kind_of (events.Broken fault) = Input
kind_of events.Tick = Beat
kind_of events.Probe = Beat
kind_of (events.Told answer) = Reply
kind_of events.ReaderEnd = Input
kind_of events.NoMemory = Shortage
kind_of events.HallFull = Refusal
kind_of events.WriteFault = Loss

abbrev pub is_input : Kind → Bool
is_input Input = true
is_input other = false

abbrev pub is_beat : Kind → Bool
is_beat Beat = true
is_beat other = false

abbrev pub is_told : Kind → Bool
is_told Reply = true
is_told other = false

abbrev pub is_hall_full : Kind → Bool
is_hall_full Refusal = true
is_hall_full other = false

abbrev pub is_no_memory : Kind → Bool
is_no_memory Shortage = true
is_no_memory other = false

abbrev pub is_write_fault : Kind → Bool
is_write_fault Loss = true
is_write_fault other = false

-- What begins a new item: input from the peer, a tick, or a probe.
abbrev pub begins : Kind → Bool
begins Input = true
begins Beat = true
begins other = false

-- What may leave messages unwritten.
abbrev pub loses : Kind → Bool
loses Shortage = true
loses Loss = true
loses other = false

-- What ends a session at once, in any state.
abbrev pub ends_at_once : Event → Bool
ends_at_once (events.Said item) = false
ends_at_once events.Tick = false
ends_at_once events.Probe = false
ends_at_once (events.Told answer) = false
ends_at_once other = true

abbrev pub is_reader_end : Event → Bool
is_reader_end events.ReaderEnd = true
is_reader_end other = false

-- ---- how many bytes an entry of a trace counts for

-- The number of payload bytes of an item.
abbrev pub payload_of : Item → ℕ
payload_of (Good message) = length (payload_text message)
payload_of other = 0

-- The number of transactions in the answer to `getblocktxn`.
abbrev pub excerpt_entries : Excerpt → ℕ
excerpt_entries (excerpts.Part part) = length part.txs
excerpt_entries other = 0

-- The number of entries in an answer's lists. `Pairs` share the list of the mempool, which has at
-- most 10,000 transactions.
abbrev pub answer_entries : Answer → ℕ
answer_entries answers.Go = 0
answer_entries answers.Kicked = 0
answer_entries (answers.Heads heads) = length heads.lack + length heads.locator
answer_entries (answers.Locator locator) = length locator
answer_entries (answers.Need need) = length need.entries + length need.locator
answer_entries (answers.TxTaken refused) = 0
answer_entries (answers.Taken taken) = length taken.locator
answer_entries (answers.Served pieces) = length pieces
answer_entries (answers.Following headers) = length headers
answer_entries (answers.News news) = length news.path + length news.txids
answer_entries (answers.Pairs pairs) = 10000
answer_entries (answers.Excerpt excerpt) = excerpt_entries excerpt

-- 64 bytes, plus the payload of an item, or plus 40 for each entry of an answer's lists.
abbrev pub held_by : Event → ℕ
held_by (events.Said item) = 64 + payload_of item
held_by (events.Told answer) = 64 + 40 * answer_entries answer
held_by other = 64
