-- The terms of the laws on compact blocks, in the words of BIP 152.
use Rattle.std.specs.Prelude.{◌≡◌, ◌↔◌, ℕ, Bool, true, false, not, ◌&&◌, ◌==◌, List, [], ◌∷◌, ◌++◌, ◌≤◌, Option, Some, None, Contains, filter_map, length, map, slice_get}
use Rattle.std.specs.List.{list_any}
use Rattle.cb_base.specs.declared.hash.Hash256.{Hash256}
use Rattle.cb_block.specs.declared.block.Block.{Block}
use Rattle.cb_chain.specs.Entries.{block_hash, same}
use Rattle.cb_compact.specs.Differences.{sums}
use Rattle.cb_compact.specs.Honest.{AreUnserved}
use Rattle.cb_compact.specs.Slots.{Unfilled, missing}
use Rattle.cb_compact.specs.declared.named_tx.Pair.{Pair}
use Rattle.cb_peer_state.specs.Fetching.{has}
use Rattle.cb_hall.specs.declared.answer.Answer.{Answer}
use Rattle.cb_hall.specs.declared.answer.Answer.TheVariants as answers
use Rattle.cb_hall.specs.declared.question.Question.{Question}
use Rattle.cb_hall.specs.declared.question.Question.TheVariants as questions
use Rattle.cb_wire.specs.declared.block_transactions.BlockTransactions.{BlockTransactions}
use Rattle.cb_wire.specs.declared.block_transactions.BlockTransactionsRequest.{BlockTransactionsRequest}
use Rattle.cb_wire.specs.declared.compact_block.HeaderAndShortIds.{HeaderAndShortIds}
use Rattle.cb_wire.specs.declared.inventory.Inventory.TheVariants as entry
use Rattle.cb_compact.specs.Places.{has_places}
use Rattle.cb_state.specs.declared.accepting.Heads.{Heads}
use Rattle.cb_wire.specs.declared.item.Item.{Item}
use Rattle.cb_wire.specs.declared.item.Item.TheVariants.{Good}
use Rattle.cb_wire.specs.declared.message.Message.{Message}
use Rattle.cb_wire.specs.declared.message.Message.TheVariants as messages
use Rattle.cb_peer_state.specs.Laws.{but_headers}
use Rattle.cb_peer_state.specs.declared.event.Event.{Event}
use Rattle.cb_peer_state.specs.declared.event.Event.TheVariants as events
use Rattle.cb_peer_state.specs.declared.session_state.SessionState.{SessionState}
use Rattle.cb_peer_state.specs.Questions.{short_in}
use Rattle.cb_peer_state.specs.Replying.{is_block, is_workless}
use Rattle.cb_peer_state.specs.Session.{Stepped, pending_item, step_of}
use Rattle.cb_peer_state.specs.State.{is_closed, is_ready}

-- ---- from a compact block to its block

-- The session after these events.
abbrev pub after : SessionState → List Event → SessionState
after s [] = s
after s (event ∷ events) = after (step_of s event).session events

-- A compact block comes and is let in, and the hall answers for its header.
abbrev pub short_comes : HeaderAndShortIds → Heads → List Event
short_comes message heads =
    events.Said (Good (messages.CmpctBlock message)) ∷ events.Told answers.Go
    ∷ events.Told (answers.Heads heads) ∷ []

-- The step in which the hall tells the transactions of its mempool that have the short ids.
abbrev pub matched : SessionState → HeaderAndShortIds → Heads → List Pair → Stepped
matched s message heads pairs =
    step_of (after s (short_comes message heads)) (events.Told (answers.Pairs pairs))

-- The step in which a `blocktxn` is let in.
abbrev pub txs_come : SessionState → BlockTransactions → Stepped
txs_come s given =
    step_of (step_of s (events.Said (Good (messages.BlockTxn given)))).session
    (events.Told answers.Go)

-- The block that a question gives the hall.
abbrev pub given_by : Option Question → Option Block
given_by (Some (questions.GiveBlock given)) = Some given.block
given_by other = None

-- The kept block is completed by the block's transactions at the requested places: a session that
-- keeps it, is ready and waits for no answer gives the hall the block once they come.
abbrev pub IsCompletedLater : Block → BlockTransactionsRequest → Unfilled → Type 0
IsCompletedLater block request partial =
    (s : SessionState) (given : BlockTransactions) → is_ready s.state ≡ true → s.pending ≡ None
    → s.compact.partial ≡ Some partial → given.block ≡ request.block
    → map (slice_get block.txs) (sums 0 request.differences) ≡ map Some given.txs
    → given_by (txs_come s given).question ≡ Some block

-- The hall is given the block, if nothing lacks. Otherwise exactly the places that nothing serves
-- are requested, in one message under the block's hash, and what is there is kept. A `getheaders`
-- may follow it at the end of the item.
pub data LeadsTo (block : Block) (nonce : ℕ) (places : List ℕ) (pairs : List Pair)
    (step : Stepped) : Type 0 where
  gives : AreUnserved block nonce places pairs [] → step.messages ≡ []
      → given_by step.question ≡ Some block → LeadsTo block nonce places pairs step
  requests : (partial : Unfilled) (request : BlockTransactionsRequest)
      → AreUnserved block nonce places pairs (sums 0 request.differences)
      → request.block ≡ block_hash block.header
      → but_headers step.messages ≡ messages.GetBlockTxn request ∷ []
      → step.session.compact.partial ≡ Some partial → IsCompletedLater block request partial
      → LeadsTo block nonce places pairs step

-- The request is for what a kept block lacks, and nothing else: it has the hash of the header that
-- the item brought, and its places are those at which nothing stands.
abbrev pub IsForLacking : Option Item → Option Unfilled → BlockTransactionsRequest → Type 0
IsForLacking item kept request =
    (short : HeaderAndShortIds) × (partial : Unfilled) × (short_in item ≡ Some short)
    × (kept ≡ Some partial) × (partial.header ≡ short.header)
    × (request.block ≡ block_hash short.header)
    × ((place : ℕ) → Contains (sums 0 request.differences) place
    ↔ (slice_get partial.slots place ≡ Some None))

-- The requests for missing transactions among messages.
abbrev pub request_in : Message → Option BlockTransactionsRequest
request_in (messages.GetBlockTxn request) = Some request
request_in other = None

abbrev pub requests_in : List Message → List BlockTransactionsRequest
requests_in sent = filter_map request_in sent

-- At most one is sent, and it is for what a kept block lacks.
pub data Requests (s : SessionState) (step : Stepped) : Type 0 where
  none : requests_in step.messages ≡ [] → Requests s step
  one : (request : BlockTransactionsRequest) → requests_in step.messages ≡ request ∷ []
      → IsForLacking (pending_item s.pending) step.session.compact.partial request
      → Requests s step

-- ---- what a session is ended for

-- An item that brings a compact block, or transactions that one lacked.
abbrev pub is_short : Option Item → Bool
is_short (Some (Good (messages.CmpctBlock short))) = true
is_short (Some (Good (messages.BlockTxn given))) = true
is_short item = false

-- Whether there are more or fewer transactions than the block that is being rebuilt lacks.
abbrev pub is_miscounted : Option Unfilled → BlockTransactions → Bool
is_miscounted None given = false
is_miscounted (Some partial) given =
    same (block_hash partial.header) given.block
    && not (length given.txs == length (missing 0 partial.slots))

-- Whether an item is malformed: a prefilled transaction has a place past the block's end, or there
-- are more or fewer transactions than were requested.
abbrev pub is_malformed : SessionState → Option Item → Bool
is_malformed s (Some (Good (messages.CmpctBlock short))) = not (has_places short.txs)
is_malformed s (Some (Good (messages.BlockTxn given))) = is_miscounted s.compact.partial given
is_malformed s item = false

-- Whether an answer to a question about an item is a reason to end the session: a kick, the leave
-- to process a malformed item, or a header without work.
abbrev pub is_reason : SessionState → Option Item → Answer → Bool
is_reason s item answers.Kicked = true
is_reason s item answers.Go = is_malformed s item
is_reason s item (answers.Heads heads) = is_workless heads.refused
is_reason s item other = false

-- ---- what becomes of a block that is being rebuilt

-- Whether an item brings the block with this hash, or transactions of it.
abbrev pub brings : Hash256 → Option Item → Bool
brings hash (Some (Good (messages.Block block))) = same hash (block_hash block.header)
brings hash (Some (Good (messages.BlockTxn given))) = same hash given.block
brings hash item = false

-- It is still kept; or the session is over; or it makes way for a newer one, whose transactions are
-- requested; or the block or its transactions have come.
pub data Fate (partial : Unfilled) (s : SessionState) (step : Stepped) : Type 0 where
  stays : step.session.compact.partial ≡ Some partial → Fate partial s step
  ends : is_closed step.session.state ≡ true → Fate partial s step
  makes_way : (newer : Unfilled) (request : BlockTransactionsRequest)
      → step.session.compact.partial ≡ Some newer
      → but_headers step.messages ≡ messages.GetBlockTxn request ∷ [] → Fate partial s step
  comes : brings (block_hash partial.header) (pending_item s.pending) ≡ true → Fate partial s step

-- ---- a block that is requested whole

-- One `getdata` entry for a block, if it is to be sent.
abbrev pub whole_if : Bool → Hash256 → List Message
whole_if true hash = messages.GetData (entry.Block hash ∷ []) ∷ []
whole_if false hash = []

-- It is requested whole exactly if it is in flight then, as one of at most 16. Nothing else is sent
-- but a `getheaders`.
pub record IsAskedWhole (hash : Hash256) (step : Stepped) : Type 0 where
  pub messages : but_headers step.messages ≡ whole_if (has step.session.fetch.flight hash) hash
  pub few : length step.session.fetch.flight ≤ 16

-- ---- announcements

-- What a session sends at these events, in order.
abbrev pub sent_at : SessionState → List Event → List Message
sent_at s [] = []
sent_at s (event ∷ events) = (step_of s event).messages ++ sent_at (step_of s event).session events

abbrev pub is_compact : Message → Bool
is_compact (messages.CmpctBlock short) = true
is_compact other = false

-- Whether a message announces a block: by its header, as a compact block, or by its hash.
abbrev pub announces_block : Message → Bool
announces_block (messages.Headers headers) = true
announces_block (messages.CmpctBlock short) = true
announces_block (messages.Inv entries) = list_any is_block entries
announces_block other = false

-- What each `sendcmpct` among messages asks for: compact blocks unasked, or not.
abbrev pub high_in : Message → Option Bool
high_in (messages.SendCmpct relay) = Some relay.high_bandwidth
high_in other = None

abbrev pub highs_in : List Message → List Bool
highs_in sent = filter_map high_in sent

-- A peer that knows compact blocks is told another wish than the last one, which is kept.
pub record IsNewWish (old new : SessionState) (high : Bool) : Type 0 where
  pub capable : old.peer.capable ≡ true
  pub other : old.compact.asked_high ≡ not high
  pub kept : new.compact.asked_high ≡ high

-- At most one wish is told.
pub data Wishes (old : SessionState) (step : Stepped) : Type 0 where
  none : highs_in step.messages ≡ [] → Wishes old step
  one : (high : Bool) → highs_in step.messages ≡ high ∷ []
      → IsNewWish old step.session high → Wishes old step
