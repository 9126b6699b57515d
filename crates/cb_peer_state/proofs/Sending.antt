-- What a step sends, looked through by a test that most messages don't meet.
use Rattle.std.proofs.Common.{◌≡◌, ℕ, ℤ, Bool, true, false, cond, List, [], ◌∷◌, ◌++◌, Option, Some, None, refl, inl, inr}
use Rattle.std.specs.Prelude.{◌==◌, ◌&&◌, ◌||◌, not, filter_map, int_lt, length, pos, Result, Ok, Err}
use Rattle.std.specs.List.{list_any}
use Rattle.std.proofs.lemmas.Bool.{cases_Bool}
use Rattle.cb_base.specs.declared.fault.Fault.{Fault}
use Rattle.cb_base.specs.declared.fault.Fault.TheVariants as faults
use Rattle.cb_base.specs.declared.hash.Hash256.{Hash256}
use Rattle.cb_block.specs.declared.block.Block.{Block}
use Rattle.cb_block.specs.declared.header.Header.{Header}
use Rattle.cb_chain.specs.Entries.{block_hash, same}
use Rattle.cb_chain.proofs.BlockIndexes.{same-refl}
use Rattle.cb_compact.specs.Slots.{Unfilled}
use Rattle.cb_compact.specs.declared.named_tx.Pair.{Pair}
use Rattle.cb_compact.specs.declared.partial.Filled.{Filled}
use Rattle.cb_compact.specs.declared.partial.Filled.TheVariants.{Sound, Wrong}
use Rattle.cb_peer_state.specs.Fetching.{asks_now, blocks_in, requests_of, taken_on}
use Rattle.cb_hall.specs.declared.answer.Answer.{Answer}
use Rattle.cb_hall.specs.declared.answer.Answer.TheVariants as answers
use Rattle.cb_wire.specs.declared.block_transactions.BlockTransactions.{BlockTransactions}
use Rattle.cb_wire.specs.declared.block_transactions.BlockTransactionsRequest.{BlockTransactionsRequest}
use Rattle.cb_wire.specs.declared.compact_block.HeaderAndShortIds.{HeaderAndShortIds}
use Rattle.cb_wire.specs.declared.inventory.Inventory.{Inventory}
use Rattle.cb_wire.specs.declared.inventory.Inventory.TheVariants as entry
use Rattle.cb_wire.specs.declared.requests.CompactRelay.{CompactRelay}
use Rattle.cb_wire.specs.declared.requests.HeadersRequest.{HeadersRequest}
use Rattle.cb_wire.specs.declared.version.Version.{Version}
use Rattle.cb_compact.specs.Completing.{completed_of}
use Rattle.cb_compact.specs.Places.{has_places}
use Rattle.cb_compact.specs.Rebuilding.{rebuilt_of}
use Rattle.cb_compact.specs.Shortening.{shortened_of}
use Rattle.cb_compact.specs.declared.rebuilding.Rebuilt.{Rebuilt}
use Rattle.cb_compact.specs.declared.rebuilding.Rebuilt.TheVariants as rebuilts
use Rattle.cb_state.specs.declared.accepting.Heads.{Heads}
use Rattle.cb_state.specs.declared.news.News.{News}
use Rattle.cb_state.specs.declared.serving.Piece.{Piece}
use Rattle.cb_state.specs.declared.serving.Piece.TheVariants as piece
use Rattle.cb_state.specs.declared.serving_places.Excerpt.{Excerpt}
use Rattle.cb_state.specs.declared.serving_places.Excerpt.TheVariants as excerpts
use Rattle.cb_state.specs.declared.wanting.Need.{Need}
use Rattle.cb_peer_state.specs.Announcing.{announcing, telling}
use Rattle.cb_peer_state.specs.Greeting.{wish, wishes}
use Rattle.cb_peer_state.specs.Inventory.{asking_block, asking_for, asking_headers, asking_txs}
use Rattle.cb_peer_state.specs.Serving.{excerpt_told, lacking_in, nonce_behind, not_found, sent, served, shorts}
use Rattle.cb_block.specs.declared.tx.Tx.{Tx}
use Rattle.cb_wire.specs.declared.item.Item.{Item}
use Rattle.cb_wire.specs.declared.item.Item.TheVariants.{Good, Damaged, Bad}
use Rattle.cb_wire.specs.declared.message.Message.{Message}
use Rattle.cb_wire.specs.declared.message.Message.TheVariants as messages
use Rattle.cb_peer_state.specs.declared.stage.Stage.{Stage}
use Rattle.cb_peer_state.specs.declared.stage.Stage.TheVariants.{Admit, About, Match, Give, Wanted, Fresh}
use Rattle.cb_peer_state.specs.declared.stage.Subject.TheVariants as subjects
use Rattle.cb_peer_state.specs.declared.event.Event.{Event}
use Rattle.cb_peer_state.specs.declared.event.Event.TheVariants as events
use Rattle.cb_peer_state.specs.declared.settings.Settings.{Settings}
use Rattle.cb_peer_state.specs.declared.state.CloseReason.TheVariants as reasons
use Rattle.cb_peer_state.specs.declared.pending.Pending.{Pending}
use Rattle.cb_peer_state.specs.declared.state.State.{State}
use Rattle.cb_peer_state.specs.declared.state.State.TheVariants.{Start, Greeted, Ready, Closed}
use Rattle.cb_peer_state.specs.Questions.{fits, is_nil, question_of, short_in, told_of}
use Rattle.cb_peer_state.specs.Laws.{completes, is_short_of, rebuilds_by}
use Rattle.cb_peer_state.specs.Receiving.{Outcome, asks, by_phase, completed_by, ended, ends, falls_back, filled_by, greeting, heard_of, in_greeted, in_ready, in_start, introduced, last_hash, processed, received, short_heard, txs_heard}
use Rattle.cb_peer_state.specs.Replying.{answered, before_first, differ, excerpt_answered, given_told, heads_by, heads_for, heads_told, is_block, is_workless, more_behind, more_headers, need_told, news_told, paired, pairs_told, rebuilt_by, replied, served_told, short_told, is_untold, taken_told, tip_by, tip_told, tx_request, wanted_told, wish_told, without_brought, header_in, is_orphan, orphaned, search, txs_told}
use Rattle.cb_peer_state.specs.Session.{Stepped, arrives, open_step, pinged, stays, step_of, told}
use Rattle.cb_peer_state.specs.declared.session_state.SessionState.{SessionState}
use Rattle.cb_peer_state.specs.State.{freed, is_closed, is_ready, landing, next_nonce, next_ping, unless_remembered, with_fallen, with_lacking, with_made, with_partial, seeking, with_child, with_unknown}
use Rattle.cb_peer_state.proofs.Cases.{brought_cases, by_test, sent_at_end}
use Rattle.cb_peer_state.proofs.Resuming.{resuming_cases}
use Rattle.cb_peer_state.proofs.Behind.{unless_all, orphaned_cases, search_all}

-- none of the messages meets the test
abbrev pub None_of : (Message → Bool) → List Message → Type 0
None_of test sent = list_any test sent ≡ false

-- a test that only headers, `getdata`, `inv` and `ping` may meet
pub record IsMild (test : Message → Bool) : Type 0 where
  pub version : (v : Version) → test (messages.Version v) ≡ false
  pub verack : test messages.Verack ≡ false
  pub pong : (nonce : ℕ) → test (messages.Pong nonce) ≡ false
  pub send_headers : test messages.SendHeaders ≡ false
  pub send_compact : (relay : CompactRelay) → test (messages.SendCmpct relay) ≡ false
  pub not_found : (entries : List Inventory) → test (messages.NotFound entries) ≡ false
  pub get_headers : (request : HeadersRequest) → test (messages.GetHeaders request) ≡ false
  pub tx : (tx : Tx) → test (messages.Tx tx) ≡ false
  pub block : (block : Block) → test (messages.Block block) ≡ false
  pub short : (short : HeaderAndShortIds) → test (messages.CmpctBlock short) ≡ false
  pub get_txs : (request : BlockTransactionsRequest) → test (messages.GetBlockTxn request) ≡ false
  pub txs : (given : BlockTransactions) → test (messages.BlockTxn given) ≡ false

-- the requests for these whole blocks don't meet the test
abbrev pub NoneWhole : (Message → Bool) → (Hash256 → Bool) → Type 0
NoneWhole test which = (hash : Hash256) → which hash ≡ true → test (asking_block hash) ≡ false

none_of_one : (test : Message → Bool) (message : Message) → test message ≡ false → None_of test (message ∷ [])
none_of_one test message e = rw e refl

or_step : (met first whole : Bool) → (met || first) ≡ false → (first ≡ false → whole ≡ false) → (met || whole) ≡ false
or_step true first whole e next = absurd cc
or_step false first whole e next = next e

pub none_of_both : (test : Message → Bool) (first others : List Message) → None_of test first → None_of test others → None_of test (first ++ others)
none_of_both test [] others f o = o
none_of_both test (message ∷ first) others f o = or_step (test message) (list_any test first) (list_any test (first ++ others)) f (λ e. none_of_both test first others e o)

none_at_end : (test : Message → Bool) (s : SessionState) (sent : List Message) → None_of test sent → None_of test (ends s sent).messages
none_at_end test s sent none = rw (sent_at_end s sent) none

unless_none : (test : Message → Bool) (s : SessionState) (sent : List Message) → None_of test sent → None_of test (unless_remembered s sent)
unless_none test s sent none = unless_all (None_of test) s sent refl none

-- ---- lists of messages

greeting_none : (test : Message → Bool) (settings : Settings) → IsMild test → None_of test (greeting settings)
greeting_none test settings m =
    elim (cases_Bool settings.inbound) [
      | inl inbound ↦ rw inbound (rw (m.version _) (none_of_one test messages.Verack m.verack))
      | inr outbound ↦ rw outbound (none_of_one test messages.Verack m.verack)
    ]

wishes_none : (test : Message → Bool) (version : ℤ) → IsMild test → None_of test (wishes version)
wishes_none test version m =
    none_of_both test (cond (int_lt version (pos 70012)) [] (messages.SendHeaders ∷ [])) (cond (int_lt version (pos 70014)) [] (messages.SendCmpct (record { high_bandwidth = false; version = 1 }) ∷ []))
    (elim (cases_Bool (int_lt version (pos 70012))) [ inl old ↦ rw old refl | inr new ↦ rw new (none_of_one test _ m.send_headers) ])
    (elim (cases_Bool (int_lt version (pos 70014))) [ inl old ↦ rw old refl | inr new ↦ rw new (none_of_one test _ (m.send_compact _)) ])

there_none : (test : Message → Bool) (nonce : ℕ) (pieces : List Piece) → IsMild test → None_of test (sent nonce pieces)
there_none test nonce [] m = refl
there_none test nonce (piece.Tx tx ∷ others) m = rw (m.tx tx) (there_none test nonce others m)
there_none test nonce (piece.Whole block ∷ others) m = rw (m.block block) (there_none test nonce others m)
there_none test nonce (piece.Short block ∷ others) m = rw (m.short (shortened_of block nonce)) (there_none test (nonce_behind nonce (piece.Short block)) others m)
there_none test nonce (piece.Lacking asked ∷ others) m = there_none test nonce others m

lacking_none : (test : Message → Bool) (entries : List Inventory) → IsMild test → None_of test (not_found entries)
lacking_none test [] m = refl
lacking_none test (first ∷ others) m = none_of_one test _ (m.not_found (first ∷ others))

served_none : (test : Message → Bool) (nonce : ℕ) (pieces : List Piece) → IsMild test → None_of test (served nonce pieces)
served_none test nonce pieces m = none_of_both test (sent nonce pieces) (not_found (filter_map lacking_in pieces)) (there_none test nonce pieces m) (lacking_none test (filter_map lacking_in pieces) m)

excerpt_none : (test : Message → Bool) (excerpt : Excerpt) → IsMild test → None_of test (excerpt_told excerpt)
excerpt_none test excerpts.Absent m = refl
excerpt_none test (excerpts.Refused fault) m = refl
excerpt_none test (excerpts.Part part) m = none_of_one test _ (m.txs _)
excerpt_none test (excerpts.Whole block) m = none_of_one test _ (m.block block)

wish_none : (test : Message → Bool) (s : SessionState) (high : Bool) → IsMild test → None_of test (wish_told s high)
wish_none test s high m =
    by_test (None_of test) (s.peer.capable && differ high s.compact.asked_high) (wish high ∷ []) [] (λ _. none_of_one test _ (m.send_compact _)) (λ _. refl)

announcing_none : (test : Message → Bool) (by_headers : Bool) (tip : Hash256) (path : List Header) → ((headers : List Header) → test (messages.Headers headers) ≡ false) → ((hash : Hash256) → test (messages.Inv (entry.Block hash ∷ [])) ≡ false) → None_of test (announcing by_headers tip path)
announcing_none test by_headers tip [] h inv = refl
announcing_none test true tip (first ∷ others) h inv = none_of_one test _ (h (first ∷ others))
announcing_none test false tip (first ∷ others) h inv = none_of_one test _ (inv tip)

tip_by_none : (test : Message → Bool) (s : SessionState) (news : News) (block : Option Block) → IsMild test → ((headers : List Header) → test (messages.Headers headers) ≡ false) → ((hash : Hash256) → test (messages.Inv (entry.Block hash ∷ [])) ≡ false) → None_of test (tip_by s news block)
tip_by_none test s news (Some block) m h inv = none_of_one test _ (m.short _)
tip_by_none test s news None m h inv = announcing_none test (s.peer.by_headers && not news.long) news.tip news.path h inv

-- a new tip is announced by headers, an inventory or a compact block
pub tip_none : (test : Message → Bool) (s : SessionState) (news : News) → IsMild test → ((headers : List Header) → test (messages.Headers headers) ≡ false) → ((hash : Hash256) → test (messages.Inv (entry.Block hash ∷ [])) ≡ false) → None_of test (tip_told s news)
tip_none test s news m h inv = by_test (None_of test) (is_untold s news) [] (tip_by s news news.block) (λ _. refl) (λ _. tip_by_none test s news news.block m h inv)

telling_none : (test : Message → Bool) (txids : List Hash256) → ((entries : List Inventory) → test (messages.Inv entries) ≡ false) → None_of test (telling txids)
telling_none test [] inv = refl
telling_none test (first ∷ others) inv = none_of_one test _ (inv _)

-- new transactions are announced by an inventory
pub txs_none_by : (test : Message → Bool) (s : SessionState) (item : Option Item) (txids : List Hash256) → ((entries : List Inventory) → test (messages.Inv entries) ≡ false) → None_of test (txs_told s item txids)
txs_none_by test s item txids inv = by_test (None_of test) s.peer.relays (telling (without_brought item txids)) [] (λ _. telling_none test (without_brought item txids) inv) (λ _. refl)

request_none : (test : Message → Bool) (locator : List Hash256) → IsMild test → None_of test (asking_headers locator ∷ [])
request_none test locator m = none_of_one test _ (m.get_headers _)

search_none : (test : Message → Bool) (found : Bool) (s : SessionState) (locator : List Hash256) → IsMild test → None_of test (search found s locator)
search_none test found s locator m = search_all (None_of test) found s locator refl (request_none test locator m)

-- ---- messages of the peer

introduced_none : (test : Message → Bool) (s : SessionState) (version : Version) → IsMild test → None_of test (introduced s version).messages
unfolding introduced
introduced_none test s version m =
    elim (cases_Bool (version.nonce == s.settings.nonce)) [
      | inl own ↦ rw own refl
      | inr other ↦
          elim (cases_Bool (int_lt version.version (pos 70001))) [
            | inl old ↦ rw (other, old) refl
            | inr new ↦ rw (other, new) (greeting_none test s.settings m)
          ]
    ]

start_none : (test : Message → Bool) (s : SessionState) (message : Message) → IsMild test → None_of test (in_start s message).messages
unfolding in_start
start_none test s (messages.Version version) m = introduced_none test s version m
start_none test s other m = refl

greeted_none : (test : Message → Bool) (s : SessionState) (message : Message) → IsMild test → None_of test (in_greeted s message).messages
unfolding in_greeted
greeted_none test s messages.Verack m = wishes_none test s.peer.version m
greeted_none test s messages.SendHeaders m = refl
greeted_none test s (messages.SendCmpct relay) m = refl
greeted_none test s other m = refl

-- a block that can't be rebuilt
falls_none : (test : Message → Bool) (s : SessionState) (hash before : Hash256) → test (asking_block hash) ≡ false → None_of test (falls_back s hash before).messages
unfolding falls_back
falls_none test s hash before none =
    none_at_end test (with_fallen hash before s) (cond (asks_now s.fetch hash) (asking_block hash ∷ []) [])
    (by_test (None_of test) (asks_now s.fetch hash) (asking_block hash ∷ []) [] (λ _. none_of_one test (asking_block hash) none) (λ _. refl))

filled_none : (test : Message → Bool) (s : SessionState) (hash before : Hash256) (filled : Result Filled Fault) → test (asking_block hash) ≡ false → None_of test (filled_by s hash before filled).messages
filled_none test s hash before (Ok (Sound block)) none = refl
filled_none test s hash before (Ok Wrong) none = falls_none test s hash before none
filled_none test s hash before (Err fault) none = refl

completed_none : (test : Message → Bool) (s : SessionState) (given : BlockTransactions) (partial : Option Unfilled) → NoneWhole test (λ hash. completes hash partial (Some (Good (messages.BlockTxn given)))) → None_of test (completed_by s given partial).messages
completed_none test s given None whole = none_at_end test s [] refl
completed_none test s given (Some partial) whole =
    by_test (λ (outcome : Outcome). None_of test outcome.messages) (same (block_hash partial.header) given.block) (filled_by (with_partial None s) given.block partial.header.prev (completed_of partial given)) (ends s [])
    (λ it. filled_none test (with_partial None s) given.block partial.header.prev (completed_of partial given) (whole given.block (rw (same-refl given.block) it)))
    (λ _. none_at_end test s [] refl)

txs_none : (test : Message → Bool) (s : SessionState) (given : BlockTransactions) → NoneWhole test (λ hash. completes hash s.compact.partial (Some (Good (messages.BlockTxn given)))) → None_of test (txs_heard s given).messages
unfolding txs_heard
txs_none test s given whole = completed_none test s given s.compact.partial whole

heard_none : (test : Message → Bool) (s : SessionState) (short : HeaderAndShortIds) → None_of test (short_heard s short).messages
unfolding short_heard
heard_none test s short =
    by_test (λ (outcome : Outcome). None_of test outcome.messages) (has_places short.txs) (asks (heard_of (block_hash short.header) s) [] (About subjects.Headers)) (ended reasons.BadMessage s) (λ _. refl) (λ _. refl)

ready_none : (test : Message → Bool) (s : SessionState) (message : Message) → IsMild test → NoneWhole test (λ hash. completes hash s.compact.partial (Some (Good message))) → None_of test (in_ready s message).messages
unfolding in_ready
ready_none test s (messages.Headers []) m whole = none_at_end test (with_unknown false s) [] refl
ready_none test s (messages.Headers (first ∷ others)) m whole = refl
ready_none test s (messages.Inv entries) m whole =
    elim (cases_Bool (is_nil (told_of entries))) [ inl none ↦ rw none (none_at_end test s [] refl) | inr told_some ↦ rw told_some refl ]
ready_none test s (messages.GetData entries) m whole = refl
ready_none test s (messages.GetHeaders request) m whole = refl
ready_none test s (messages.Tx tx) m whole = refl
ready_none test s (messages.Block block) m whole = brought_cases (λ outcome. None_of test outcome.messages) s block (λ _. refl) refl
ready_none test s (messages.CmpctBlock short) m whole = heard_none test s short
ready_none test s (messages.GetBlockTxn request) m whole = refl
ready_none test s (messages.BlockTxn given) m whole = txs_none test s given whole
ready_none test s other m whole = none_at_end test _ [] refl

phase_none : (test : Message → Bool) (state : State) (s : SessionState) (message : Message) → IsMild test → NoneWhole test (λ hash. completes hash s.compact.partial (Some (Good message))) → None_of test (by_phase state s message).messages
phase_none test Start s message m whole = start_none test s message m
phase_none test Greeted s message m whole = greeted_none test s message m
phase_none test Ready s message m whole = ready_none test s message m whole
phase_none test (Closed why) s message m whole = refl

received_none : (test : Message → Bool) (s : SessionState) (message : Message) → IsMild test → NoneWhole test (λ hash. completes hash s.compact.partial (Some (Good message))) → None_of test (received s message).messages
unfolding received
received_none test s (messages.Ping nonce) m whole = none_at_end test s _ (none_of_one test _ (m.pong nonce))
received_none test s other m whole = phase_none test s.state s other m whole

processed_none : (test : Message → Bool) (s : SessionState) (item : Option Item) → IsMild test → NoneWhole test (λ hash. completes hash s.compact.partial item) → None_of test (processed s item).messages
unfolding processed
processed_none test s None m whole = none_at_end test s [] refl
processed_none test s (Some (Good message)) m whole = received_none test s message m whole
processed_none test s (Some Damaged) m whole = none_at_end test s [] refl
processed_none test s (Some (Bad command fault)) m whole = refl

-- ---- answers

behind_none : (test : Message → Bool) (headers : List Header) → IsMild test → None_of test (more_behind headers)
behind_none test [] m = refl
behind_none test (first ∷ others) m =
    elim (cases_Bool (length (first ∷ others) == 2000)) [ inl full ↦ rw full (request_none test (last_hash first others ∷ []) m) | inr fewer ↦ rw fewer refl ]

more_none : (test : Message → Bool) (item : Option Item) → IsMild test → None_of test (more_headers item)
more_none test (Some (Good (messages.Headers headers))) m = behind_none test headers m
more_none test item m = refl

heads_by_none : (test : Message → Bool) (s : SessionState) (item : Option Item) (refused : Option Fault) (locator : List Hash256) → IsMild test → None_of test (heads_by s item refused locator).messages
heads_by_none test s item (Some faults.BadWork) locator m = refl
heads_by_none test s item (Some faults.NoParent) locator m = none_at_end test (seeking true s) _ (search_none test true s locator m)
heads_by_none test s item (Some other) locator m = none_at_end test (with_unknown false s) [] refl
heads_by_none test s item None locator m = none_at_end test (with_unknown false s) _ (unless_none test s (more_headers item) (more_none test item m))

orphaned_none : (test : Message → Bool) (s : SessionState) (header : Option Header) (locator : List Hash256) → IsMild test → None_of test (orphaned s header locator).messages
orphaned_none test s header locator m =
    orphaned_cases (λ (outcome : Outcome). None_of test outcome.messages) s header locator (none_at_end test (seeking true s) _ (search_none test true s locator m))
    (λ of _ _. none_at_end test (with_child (block_hash of) of.prev s) [] refl)

taken_none : (test : Message → Bool) (s : SessionState) (header : Option Header) (refused : Option Fault) (locator : List Hash256) → IsMild test → None_of test (taken_told s header refused locator).messages
unfolding taken_told
taken_none test s header None locator m = none_at_end test s [] refl
taken_none test s header (Some faults.Known) locator m = none_at_end test s [] refl
taken_none test s header (Some faults.NoParent) locator m = orphaned_none test s header locator m
taken_none test s header (Some other) locator m = refl

given_none : (test : Message → Bool) (s : SessionState) (header : Header) (refused : Option Fault) (locator : List Hash256) → IsMild test → None_of test (given_told s header refused locator).messages
unfolding given_told
given_none test s header refused locator m =
    by_test (λ (outcome : Outcome). None_of test outcome.messages) (is_orphan refused) (orphaned s (Some header) locator) (ends s []) (λ _. orphaned_none test s (Some header) locator m) (λ _. none_at_end test s [] refl)

short_none : (test : Message → Bool) (s : SessionState) (hash : Hash256) (heads : Heads) → IsMild test → None_of test (short_told s hash heads).messages
unfolding short_told
short_none test s hash heads m =
    let found : Bool = is_orphan heads.refused in
    let before : List Message = search found s heads.locator in
    let none : None_of test before = search_none test found s heads.locator m in
    let t : SessionState = seeking found s in
    by_test (λ (outcome : Outcome). None_of test outcome.messages) (is_workless heads.refused) (ended reasons.BadBlock s) (cond (is_nil heads.lack) (ends (landing hash t) before) (asks t before Match)) (λ _. refl)
    (λ _. by_test (λ (outcome : Outcome). None_of test outcome.messages) (is_nil heads.lack) (ends (landing hash t) before) (asks t before Match) (λ _. none_at_end test (landing hash t) before none) (λ _. none))

heads_for_none : (test : Message → Bool) (s : SessionState) (item : Option Item) (short : Option HeaderAndShortIds) (heads : Heads) → IsMild test → None_of test (heads_for s item short heads).messages
heads_for_none test s item None heads m = heads_by_none test (with_lacking heads.lack (before_first item) s) item heads.refused heads.locator m
heads_for_none test s item (Some short) heads m = short_none test s (block_hash short.header) heads m

rebuilt_none : (test : Message → Bool) (s : SessionState) (header : Header) (rebuilt : Rebuilt) → IsMild test → test (asking_block (block_hash header)) ≡ false → None_of test (rebuilt_by s header rebuilt).messages
rebuilt_none test s header (rebuilts.Sound block) m none = refl
rebuilt_none test s header (rebuilts.Lacking partial request) m none = none_at_end test (with_partial (Some partial) s) (asking_txs request ∷ []) (none_of_one test (asking_txs request) (m.get_txs request))
rebuilt_none test s header rebuilts.Useless m none = falls_none test s (block_hash header) header.prev none

paired_none : (test : Message → Bool) (s : SessionState) (short : Option HeaderAndShortIds) (pairs : List Pair) → IsMild test → NoneWhole test (λ hash. is_short_of hash short) → None_of test (paired s short pairs).messages
paired_none test s None pairs m whole = refl
paired_none test s (Some short) pairs m whole =
    by_test (λ (outcome : Outcome). None_of test outcome.messages) (has_places short.txs) (rebuilt_by s short.header (rebuilt_of short pairs)) (ended reasons.BadMessage s)
    (λ _. rebuilt_none test s short.header (rebuilt_of short pairs) m (whole (block_hash short.header) (same-refl (block_hash short.header)))) (λ _. refl)

excerpt_answered_none : (test : Message → Bool) (s : SessionState) (excerpt : Excerpt) → IsMild test → None_of test (excerpt_answered s excerpt).messages
unfolding excerpt_answered
excerpt_answered_none test s (excerpts.Refused fault) m = refl
excerpt_answered_none test s other m = none_at_end test s (excerpt_told other) (excerpt_none test other m)

-- Of an answer the test isn't met by the headers that it tells of, nor by what is asked for then, nor by the request for a whole
-- block that can't be rebuilt.
pub record IsCalm (test : Message → Bool) (s : SessionState) (item : Option Item) (stage : Stage) (answer : Answer) : Type 0 where
  pub need : (need : Need) → None_of test (asking_for (filter_map tx_request need.entries))
  pub wanted : (need : Need) → stage ≡ Wanted → None_of test (asking_for (requests_of (need.near && s.peer.capable) (taken_on (blocks_in need.entries)).flight))
  pub tip : (news : News) → None_of test (tip_told s news)
  pub txs : (news : News) → None_of test (txs_told s item news.txids)
  pub following : (headers : List Header) → answer ≡ answers.Following headers → test (messages.Headers headers) ≡ false
  pub whole : NoneWhole test (λ hash. rebuilds_by hash s.compact.partial item stage answer)

need_none : (test : Message → Bool) (s : SessionState) (need : Need) → IsMild test → None_of test (asking_for (filter_map tx_request need.entries)) → None_of test (need_told s need).messages
unfolding need_told
need_none test s need m asked =
    let found : Bool = list_any is_block need.entries in
    none_at_end test (seeking found s) _ (none_of_both test (asking_for (filter_map tx_request need.entries)) _ asked (search_none test found s need.locator m))

news_none : (test : Message → Bool) (s : SessionState) (item : Option Item) (news : News) → IsMild test → None_of test (tip_told s news) → None_of test (txs_told s item news.txids) → None_of test (news_told s item news).messages
unfolding news_told
news_none test s item news m tip txs =
    none_of_both test (tip_told s news ++ txs_told s item news.txids) (wish_told s news.high) (none_of_both test (tip_told s news) (txs_told s item news.txids) tip txs) (wish_none test s news.high m)

replied_none : (test : Message → Bool) (s : SessionState) (item : Option Item) (stage : Stage) (answer : Answer) → IsMild test → IsCalm test s item stage answer → None_of test (replied s item stage answer).messages
unfolding replied heads_told wanted_told pairs_told served_told
replied_none test s item stage answers.Kicked m calm = refl
replied_none test s item Admit answers.Go m calm = processed_none test s item m calm.whole
replied_none test s item (About subject) (answers.Heads heads) m calm = heads_for_none test s item (short_in item) heads m
replied_none test s item (About subject) (answers.Locator locator) m calm = none_at_end test s _ (unless_none test s (asking_headers locator ∷ []) (request_none test locator m))
replied_none test s item (About subject) (answers.Need need) m calm = need_none test s need m (calm.need need)
replied_none test s item (About subject) (answers.TxTaken refused) m calm = none_at_end test s [] refl
replied_none test s item (About subject) (answers.Taken taken) m calm = taken_none test s (header_in item) taken.refused taken.locator m
replied_none test s item (About subject) (answers.Served pieces) m calm = none_at_end test (with_made (shorts pieces) s) (served (next_nonce s) pieces) (served_none test (next_nonce s) pieces m)
replied_none test s item (About subject) (answers.Following headers) m calm = none_at_end test s _ (none_of_one test _ (calm.following headers refl))
replied_none test s item (About subject) (answers.Excerpt excerpt) m calm = excerpt_answered_none test s excerpt m
replied_none test s item Match (answers.Pairs pairs) m calm = paired_none test s (short_in item) pairs m calm.whole
replied_none test s item (Give block) (answers.Taken taken) m calm = given_none test s block.header taken.refused taken.locator m
replied_none test s item Wanted (answers.Need need) m calm = calm.wanted need refl
replied_none test s item Fresh (answers.News news) m calm = news_none test s item news m (calm.tip news) (calm.txs news)
replied_none test s item stage other m calm = refl

pub answered_none : (test : Message → Bool) (s : SessionState) (item : Option Item) (stage : Stage) (answer : Answer) → IsMild test → IsCalm test s item stage answer → None_of test (answered s item stage answer).messages
unfolding answered
answered_none test s item stage answer m calm =
    let outcome = replied s item stage answer in
    let none = replied_none test s item stage answer m calm in
    resuming_cases (λ (o : Outcome). None_of test o.messages) outcome none (λ hash _ _ _. none_of_both test outcome.messages (asking_headers (hash ∷ []) ∷ []) none (request_none test (hash ∷ []) m))

-- ---- steps

arrives_none : (test : Message → Bool) (pending : Option Pending) (s : SessionState) (item : Option Item) → None_of test (arrives pending s item).messages
arrives_none test None s item = refl
arrives_none test (Some other) s item = refl

told_none : (test : Message → Bool) (pending : Option Pending) (s : SessionState) (answer : Answer) → IsMild test → ((waiting : Pending) → pending ≡ Some waiting → IsCalm test (freed s) waiting.item waiting.stage answer) → None_of test (told pending s answer).messages
told_none test None s answer m calm = refl
told_none test (Some pending) s answer m calm =
    elim (cases_Bool (fits (question_of s pending.item pending.stage) answer)) [
      | inl fit ↦ rw fit (answered_none test (freed s) pending.item pending.stage answer m (calm pending refl))
      | inr misfit ↦ rw misfit refl
    ]

open_none : (test : Message → Bool) (s : SessionState) (event : Event) → IsMild test → ((nonce : ℕ) → test (messages.Ping nonce) ≡ false) → ((waiting : Pending) (answer : Answer) → s.pending ≡ Some waiting → event ≡ events.Told answer → IsCalm test (freed s) waiting.item waiting.stage answer) → None_of test (open_step s event).messages
unfolding open_step
open_none test s (events.Said item) m ping calm = arrives_none test s.pending s (Some item)
open_none test s events.Tick m ping calm = arrives_none test s.pending s None
open_none test s events.Probe m ping calm = by_test (λ (made : Stepped). None_of test made.messages) (is_ready s.state) (pinged s) (stays s) (λ _. none_of_one test _ (ping (next_ping s))) (λ _. refl)
open_none test s (events.Told answer) m ping calm = told_none test s.pending s answer m (λ waiting same. calm waiting answer same refl)
open_none test s other m ping calm = refl

pub step_none : (test : Message → Bool) (s : SessionState) (event : Event) → IsMild test → ((nonce : ℕ) → test (messages.Ping nonce) ≡ false) → ((waiting : Pending) (answer : Answer) → s.pending ≡ Some waiting → event ≡ events.Told answer → IsCalm test (freed s) waiting.item waiting.stage answer) → None_of test (step_of s event).messages
unfolding step_of
step_none test s event m ping calm =
    elim (cases_Bool (is_closed s.state)) [
      | inl closed ↦ rw closed refl
      | inr going ↦ rw going (open_none test s event m ping calm)
    ]
