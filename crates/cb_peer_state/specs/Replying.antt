-- How a session handles the hall's answers: one line for each kind of answer. Sources: Bitcoin's
-- peer-to-peer protocol; BIP 130 for announcing a tip. 'Own' marks a choice of this node.
use Rattle.std.specs.Prelude.{ℕ, Bool, true, false, not, ◌&&◌, ◌||◌, ◌==◌, if◌then◌else◌, List, [], ◌∷◌, ◌++◌, length, filter, filter_map, Option, Some, None}
use Rattle.std.specs.List.{list_any}
use Rattle.cb_base.specs.declared.fault.Fault.{Fault}
use Rattle.cb_base.specs.declared.fault.Fault.TheVariants as faults
use Rattle.cb_base.specs.declared.hash.Hash256.{Hash256}
use Rattle.cb_base.specs.DoubleHash.{double_hash}
use Rattle.cb_block.specs.declared.block.Block.{Block}
use Rattle.cb_block.specs.declared.header.Header.{Header}
use Rattle.cb_chain.specs.Entries.{block_hash, same}
use Rattle.cb_compact.specs.declared.named_tx.Pair.{Pair}
use Rattle.cb_peer_state.specs.Fetching.{blocks_in, requests_of, taken_on, wants_none}
use Rattle.cb_hall.specs.declared.answer.Answer.{Answer}
use Rattle.cb_hall.specs.declared.answer.Answer.TheVariants as answers
use Rattle.cb_wire.specs.declared.compact_block.HeaderAndShortIds.{HeaderAndShortIds}
use Rattle.cb_wire.specs.declared.inventory.Inventory.{Inventory}
use Rattle.cb_compact.specs.Places.{has_places}
use Rattle.cb_compact.specs.Rebuilding.{rebuilt_of}
use Rattle.cb_compact.specs.declared.rebuilding.Rebuilt.{Rebuilt}
use Rattle.cb_compact.specs.declared.rebuilding.Rebuilt.TheVariants as rebuilts
use Rattle.cb_state.specs.declared.accepting.Heads.{Heads}
use Rattle.cb_wire.specs.declared.inventory.Inventory.TheVariants as entry
use Rattle.cb_state.specs.declared.news.News.{News}
use Rattle.cb_state.specs.declared.serving.Piece.{Piece}
use Rattle.cb_state.specs.declared.serving_places.Excerpt.{Excerpt}
use Rattle.cb_state.specs.declared.serving_places.Excerpt.TheVariants as excerpts
use Rattle.cb_state.specs.declared.wanting.Need.{Need}
use Rattle.cb_peer_state.specs.Announcing.{announcing, announcing_block, telling}
use Rattle.cb_peer_state.specs.Greeting.{wish}
use Rattle.cb_peer_state.specs.Inventory.{asking_for, asking_headers, asking_txs}
use Rattle.cb_peer_state.specs.Serving.{excerpt_told, served, shorts}
use Rattle.cb_block.specs.TxText.{tx_text}
use Rattle.cb_wire.specs.declared.item.Item.{Item}
use Rattle.cb_wire.specs.declared.item.Item.TheVariants.{Good}
use Rattle.cb_wire.specs.declared.message.Message.{Message}
use Rattle.cb_wire.specs.declared.message.Message.TheVariants as messages
use Rattle.cb_peer_state.specs.declared.stage.Stage.{Stage}
use Rattle.cb_peer_state.specs.declared.stage.Stage.TheVariants.{Admit, About, Match, Give, Wanted, Fresh}
use Rattle.cb_peer_state.specs.declared.state.CloseReason.TheVariants as reasons
use Rattle.cb_peer_state.specs.Receiving.{Outcome, asks, ended, ends, falls_back, gives, last_hash, processed, sends}
use Rattle.cb_peer_state.specs.declared.session_state.SessionState.{SessionState}
use Rattle.cb_peer_state.specs.Questions.{is_nil, short_in}
use Rattle.cb_peer_state.specs.State.{awaits, landing, may_seek, next_nonce, seeking, unless_remembered, with_asked_high, with_child, with_fetch, with_lacking, with_made, with_marks, with_partial, with_resume_from, with_unknown}

-- After a full message of 2,000 headers, the headers after them are requested.
abbrev pub more_behind : List Header → List Message
more_behind [] = []
more_behind (first ∷ others) =
    if length (first ∷ others) == 2000
    then asking_headers (last_hash first others ∷ []) ∷ []
    else []

abbrev pub more_headers : Option Item → List Message
more_headers (Some (Good (messages.Headers headers))) = more_behind headers
more_headers item = []

-- The header before the first of a message.
abbrev pub before_first : Option Item → Option Hash256
before_first (Some (Good (messages.Headers (first ∷ others)))) = Some first.prev
before_first item = None

-- ---- what is unknown: the parent of a header or a block, or an announced block. One request for
-- headers at a time is sent for it (own), and none while a header is remembered.

-- Whether the parent is unknown, or its block isn't here.
abbrev pub is_orphan : Option Fault → Bool
is_orphan (Some faults.NoParent) = true
is_orphan refused = false

-- The request for headers after a locator, if something unknown was found and it may be sent.
abbrev pub search : Bool → SessionState → List Hash256 → List Message
search found s locator = if found && may_seek s then asking_headers locator ∷ [] else []

-- Something is unknown: headers are requested if they may be, and the item is done.
abbrev pub seeks : SessionState → List Hash256 → Outcome
seeks s locator = ends (seeking true s) (search true s locator)

-- A block came before its parent. If that is in flight or wanted, the block is queued behind it.
-- Else headers are requested.
abbrev pub orphaned : SessionState → Option Header → List Hash256 → Outcome
orphaned s None locator = seeks s locator
orphaned s (Some header) locator =
    if awaits s header.prev
    then ends (with_child (block_hash header) header.prev s) []
    else seeks s locator

-- The header of the block that an item brought, if it did.
abbrev pub header_in : Option Item → Option Header
header_in (Some (Good (messages.Block block))) = Some block.header
header_in item = None

-- The result of `headers`, once its missing blocks are noted (`with_lacking`). A header without
-- proof of work ends the session. For an unknown parent headers are requested. Any other result
-- answers such a request.
abbrev pub heads_by : SessionState → Option Item → Option Fault → List Hash256 → Outcome
heads_by s item (Some faults.BadWork) locator = ended reasons.BadBlock s
heads_by s item (Some faults.NoParent) locator = seeks s locator
heads_by s item (Some other) locator = ends (with_unknown false s) []
heads_by s item None locator =
    ends (with_unknown false s) (unless_remembered s (more_headers item))

-- The result of `block`. A block already known is ignored. One whose parent is unknown waits for
-- it, or headers are requested. Any other refusal ends the session.
unfoldable pub taken_told : SessionState → Option Header → Option Fault → List Hash256 → Outcome
taken_told s header None locator = ends s []
taken_told s header (Some faults.Known) locator = ends s []
taken_told s header (Some faults.NoParent) locator = orphaned s header locator
taken_told s header (Some other) locator = ended reasons.BadBlock s

-- A rebuilt block isn't held against its peer, whatever the hall says of it.
unfoldable pub given_told : SessionState → Header → Option Fault → List Hash256 → Outcome
given_told s header refused locator =
    if is_orphan refused then orphaned s (Some header) locator else ends s []

abbrev pub is_workless : Option Fault → Bool
is_workless (Some faults.BadWork) = true
is_workless refused = false

-- The header of a compact block. One without work ends the session. For an unknown parent headers
-- are requested. If its block isn't missing it is no longer in flight, and the item is done. Else
-- the mempool is searched for its transactions.
unfoldable pub short_told : SessionState → Hash256 → Heads → Outcome
short_told s hash heads =
    let found = is_orphan heads.refused in
    let sent = search found s heads.locator in
    if is_workless heads.refused then ended reasons.BadBlock s
    else if is_nil heads.lack then ends (landing hash (seeking found s)) sent
    else asks (seeking found s) sent Match

-- What comes of the transactions of the mempool that have a compact block's short ids: the block is
-- given, or what it lacks is requested and it replaces one that was being rebuilt, or it is
-- requested whole.
abbrev pub rebuilt_by : SessionState → Header → Rebuilt → Outcome
rebuilt_by s header (rebuilts.Sound block) = gives s block
rebuilt_by s header (rebuilts.Lacking partial request) =
    ends (with_partial (Some partial) s) (asking_txs request ∷ [])
rebuilt_by s header rebuilts.Useless = falls_back s (block_hash header) header.prev

abbrev pub paired : SessionState → Option HeaderAndShortIds → List Pair → Outcome
paired s None pairs = sends s []
paired s (Some short) pairs =
    if has_places short.txs then rebuilt_by s short.header (rebuilt_of short pairs)
    else ended reasons.BadMessage s

unfoldable pub pairs_told : SessionState → Option Item → List Pair → Outcome
pairs_told s item pairs = paired s (short_in item) pairs

-- Headers, or the header of a compact block. Blocks of accepted headers that we don't have are
-- queued for download, as far as there is room.
abbrev pub heads_for : SessionState → Option Item → Option HeaderAndShortIds → Heads → Outcome
heads_for s item None heads =
    heads_by (with_lacking heads.lack (before_first item) s) item heads.refused heads.locator
heads_for s item (Some short) heads = short_told s (block_hash short.header) heads

unfoldable pub heads_told : SessionState → Option Item → Heads → Outcome
heads_told s item heads = heads_for s item (short_in item) heads

-- The transactions of a block that the peer requested. A request for a place past the block's end
-- ends the session.
unfoldable pub excerpt_answered : SessionState → Excerpt → Outcome
excerpt_answered s (excerpts.Refused fault) = ended reasons.BadRequest s
excerpt_answered s other = ends s (excerpt_told other)

-- Transactions and blocks that the peer requested. Each compact block has the next nonce.
unfoldable pub served_told : SessionState → List Piece → Outcome
served_told s pieces = ends (with_made (shorts pieces) s) (served (next_nonce s) pieces)

-- The `getdata` entry for a transaction.
abbrev pub tx_request : Inventory → Option Inventory
tx_request (entry.Tx txid) = Some (entry.Tx txid)
tx_request other = None

abbrev pub is_block : Inventory → Bool
is_block (entry.Block hash) = true
is_block other = false

-- The result of `inv`: wanted transactions are requested, and headers if a block is wanted.
unfoldable pub need_told : SessionState → Need → Outcome
need_told s need =
    let found = list_any is_block need.entries in
    ends (seeking found s)
    (asking_for (filter_map tx_request need.entries) ++ search found s need.locator)

-- Queued blocks that are still needed are requested, the first 16 of them: as a compact block (type
-- 4) if one alone is needed, on top of the tip, from a peer that supports compact blocks; else
-- whole (type 2).
unfoldable pub wanted_told : SessionState → Need → Outcome
wanted_told s need =
    let fetch = taken_on (blocks_in need.entries) in
    asks (with_fetch fetch s) (asking_for (requests_of (need.near && s.peer.capable) fetch.flight))
    Fresh

-- Whether the tip is the last block heard of from the peer.
abbrev pub is_heard : Option Hash256 → Hash256 → Bool
is_heard None tip = false
is_heard (Some hash) tip = same hash tip

-- The announcement of a new tip: by its block where the hall gave it, as a compact block with the
-- next nonce (BIP 152), else by headers or its hash.
abbrev pub tip_by : SessionState → News → Option Block → List Message
tip_by s news (Some block) = announcing_block block (next_nonce s) ∷ []
tip_by s news None = announcing (s.peer.by_headers && not news.long) news.tip news.path

-- Whether a new tip isn't announced: there is none, or it is the last block heard of from the peer.
abbrev pub is_untold : SessionState → News → Bool
is_untold s news = is_nil news.path || is_heard s.marks.heard news.tip

abbrev pub tip_told : SessionState → News → List Message
tip_told s news = if is_untold s news then [] else tip_by s news news.block

-- The number of compact blocks made to announce it.
abbrev pub count_of : Option Block → ℕ
count_of None = 0
count_of (Some block) = 1

abbrev pub tip_made : SessionState → News → ℕ
tip_made s news = if is_untold s news then 0 else count_of news.block

-- Whether two answers to a question differ.
abbrev pub differ : Bool → Bool → Bool
differ true other = not other
differ false other = other

-- A peer that supports compact blocks is told when it is to announce blocks by them, and when no
-- longer.
abbrev pub wish_told : SessionState → Bool → List Message
wish_told s high = if s.peer.capable && differ high s.compact.asked_high then wish high ∷ [] else []

abbrev pub high_asked : SessionState → Bool → Bool
high_asked s high = if s.peer.capable then high else s.compact.asked_high

-- The transactions without the one that the item brought.
abbrev pub without_brought : Option Item → List Hash256 → List Hash256
without_brought (Some (Good (messages.Tx tx))) txids =
    filter (λ txid. not (same (double_hash (tx_text tx)) txid)) txids
without_brought item txids = txids

-- The announcement of new transactions, if the peer wants them announced (BIP 37).
abbrev pub txs_told : SessionState → Option Item → List Hash256 → List Message
txs_told s item txids = if s.peer.relays then telling (without_brought item txids) else []

-- News: the tip and transactions are announced, and how the peer is to announce its own.
unfoldable pub news_told : SessionState → Option Item → News → Outcome
news_told s item news =
    sends
    (with_asked_high (high_asked s news.high) (with_made (tip_made s news)
    (with_marks (record { heard = s.marks.heard; tip = Some news.tip; next = news.next }) s)))
    ((tip_told s news ++ txs_told s item news.txids) ++ wish_told s news.high)

-- The hall's leave to process an item or a tick.
abbrev pub is_leave : Stage → Answer → Bool
is_leave Admit answers.Go = true
is_leave stage other = false

-- An answer to the question asked for an item, before the end of the item.
unfoldable pub replied : SessionState → Option Item → Stage → Answer → Outcome
replied s item stage answers.Kicked = ended reasons.Kicked s
replied s item Admit answers.Go = processed s item
replied s item (About subject) (answers.Heads heads) = heads_told s item heads
replied s item (About subject) (answers.Locator locator) =
    ends s (unless_remembered s (asking_headers locator ∷ []))
replied s item (About subject) (answers.Need need) = need_told s need
replied s item (About subject) (answers.TxTaken refused) = ends s []
replied s item (About subject) (answers.Taken taken) =
    taken_told s (header_in item) taken.refused taken.locator
replied s item (About subject) (answers.Served pieces) = served_told s pieces
replied s item (About subject) (answers.Following headers) = ends s (messages.Headers headers ∷ [])
replied s item (About subject) (answers.Excerpt excerpt) = excerpt_answered s excerpt
replied s item Match (answers.Pairs pairs) = pairs_told s item pairs
replied s item (Give block) (answers.Taken taken) =
    given_told s block.header taken.refused taken.locator
replied s item Wanted (answers.Need need) = wanted_told s need
replied s item Fresh (answers.News news) = news_told s item news
replied s item stage other = sends s []

-- ---- headers from the remembered one

abbrev pub asks_news : Option Stage → Bool
asks_news (Some Fresh) = true
asks_news next = false

-- Headers are requested from the remembered one, which is forgotten.
abbrev pub resumed : Hash256 → Outcome → Outcome
resumed hash outcome =
    record {
      session = with_resume_from None outcome.session;
      messages = outcome.messages ++ asking_headers (hash ∷ []) ∷ [];
      next = outcome.next;
    }

abbrev pub resumes : Option Hash256 → Outcome → Outcome
resumes None outcome = outcome
resumes (Some hash) outcome =
    if wants_none outcome.session.fetch then resumed hash outcome else outcome

-- The end of an item or a tick, where what is new is asked next: headers are requested from the
-- remembered one if nothing is wanted any more.
unfoldable pub resuming : Outcome → Outcome
resuming outcome =
    if asks_news outcome.next then resumes outcome.session.resume_from outcome else outcome

-- An answer to the question asked for an item.
unfoldable pub answered : SessionState → Option Item → Stage → Answer → Outcome
answered s item stage answer = resuming (replied s item stage answer)
