-- How far a session is after a message or an answer, what it knows of its peer then, and whether it sent `sendheaders`.
use Rattle.cb_peer_state.proofs.Behind.{orphaned_cases}
use Rattle.std.proofs.Common.{◌≡◌, Bool, true, false, cond, List, [], ◌∷◌, ◌++◌, Option, Some, None, refl, sym, ◌∙◌, inl, inr}
use Rattle.std.specs.Prelude.{◌==◌, Result, Ok, Err, filter_map, int_lt, pos}
use Rattle.std.specs.List.{list_any}
use Rattle.std.proofs.lemmas.Bool.{cases_Bool}
use Rattle.cb_base.specs.declared.fault.Fault.{Fault}
use Rattle.cb_base.specs.declared.fault.Fault.TheVariants as faults
use Rattle.cb_base.specs.declared.hash.Hash256.{Hash256}
use Rattle.cb_block.specs.declared.block.Block.{Block}
use Rattle.cb_block.specs.declared.header.Header.{Header}
use Rattle.cb_block.specs.Decision.{is_sound_block}
use Rattle.cb_chain.specs.Entries.{block_hash, same}
use Rattle.cb_compact.specs.Slots.{Unfilled}
use Rattle.cb_compact.specs.declared.named_tx.Pair.{Pair}
use Rattle.cb_compact.specs.declared.partial.Filled.{Filled}
use Rattle.cb_compact.specs.declared.partial.Filled.TheVariants as filling
use Rattle.cb_peer_state.specs.Fetching.{asks_now, blocks_in, requests_of, taken_on}
use Rattle.cb_hall.specs.declared.answer.Answer.{Answer}
use Rattle.cb_hall.specs.declared.answer.Answer.TheVariants as answers
use Rattle.cb_wire.specs.declared.block_transactions.BlockTransactions.{BlockTransactions}
use Rattle.cb_wire.specs.declared.compact_block.HeaderAndShortIds.{HeaderAndShortIds}
use Rattle.cb_wire.specs.declared.inventory.Inventory.{Inventory}
use Rattle.cb_wire.specs.declared.requests.CompactRelay.{CompactRelay}
use Rattle.cb_wire.specs.declared.version.Version.{Version}
use Rattle.cb_compact.specs.Completing.{completed_of}
use Rattle.cb_compact.specs.Places.{has_places}
use Rattle.cb_compact.specs.Rebuilding.{rebuilt_of}
use Rattle.cb_compact.specs.declared.rebuilding.Rebuilt.{Rebuilt}
use Rattle.cb_compact.specs.declared.rebuilding.Rebuilt.TheVariants as rebuilts
use Rattle.cb_state.specs.declared.accepting.Heads.{Heads}
use Rattle.cb_state.specs.declared.serving_places.Excerpt.{Excerpt}
use Rattle.cb_state.specs.declared.serving_places.Excerpt.TheVariants as excerpts
use Rattle.cb_state.specs.declared.wanting.Need.{Need}
use Rattle.cb_peer_state.specs.Greeting.{wishes}
use Rattle.cb_peer_state.specs.Inventory.{asking_block, asking_for, asking_headers, asking_txs}
use Rattle.cb_peer_state.specs.Serving.{excerpt_told, served, shorts}
use Rattle.cb_wire.specs.declared.item.Item.{Item}
use Rattle.cb_wire.specs.declared.item.Item.TheVariants.{Good, Damaged, Bad}
use Rattle.cb_wire.specs.declared.message.Message.{Message}
use Rattle.cb_wire.specs.declared.message.Message.TheVariants as messages
use Rattle.cb_peer_state.specs.declared.stage.Stage.{Stage}
use Rattle.cb_peer_state.specs.declared.stage.Stage.TheVariants.{Admit, About, Match, Give, Wanted, Fresh}
use Rattle.cb_peer_state.specs.declared.stage.Subject.TheVariants as subjects
use Rattle.cb_peer_state.specs.declared.state.CloseReason.{CloseReason}
use Rattle.cb_peer_state.specs.declared.state.CloseReason.TheVariants as reasons
use Rattle.cb_peer_state.specs.declared.state.Peer.{Peer}
use Rattle.cb_peer_state.specs.declared.state.State.{State}
use Rattle.cb_peer_state.specs.declared.state.State.TheVariants.{Start, Greeted, Ready, Closed}
use Rattle.cb_peer_state.specs.Questions.{is_nil, short_in, told_of}
use Rattle.cb_peer_state.specs.Receiving.{Outcome, asks, brought, by_compact, by_headers, by_phase, completed_by, ended, ends, falls_back, filled_by, given_up, heard_of, in_greeted, in_ready, in_start, introduced, processed, received, short_heard, txs_heard}
use Rattle.cb_peer_state.specs.Replying.{answered, before_first, excerpt_answered, given_told, heads_by, heads_for, heads_told, is_block, is_workless, more_headers, need_told, news_told, paired, pairs_told, rebuilt_by, replied, resumed, served_told, short_told, taken_told, tx_request, wanted_told, header_in, is_orphan, orphaned, search, seeks}
use Rattle.cb_peer_state.specs.declared.session_state.SessionState.{SessionState}
use Rattle.cb_peer_state.specs.State.{dropping, is_partial, landing, next_nonce, stranger, unless_remembered, with_fallen, with_fetch, with_lacking, with_made, with_partial, seeking, with_child, with_unknown}
use Rattle.cb_peer_state.proofs.Cases.{by_test, ends_cases}
use Rattle.cb_peer_state.proofs.Resuming.{resuming_cases}
use Rattle.cb_trace.specs.Whole.{is_send_headers, is_wish}
use Rattle.cb_trace.proofs.Quiet.{again_none, IsRare, NoneOf, excerpt_none, greeting_none, more_none, news_none, none_of_both, served_none, unless_none, search_none}

-- by this item the peer asks to be told of blocks by their headers
abbrev pub item_wishes : Option Item → Bool
item_wishes None = false
item_wishes (Some item) = is_wish item

abbrev pub Silent : List Message → Type 0
Silent sent = NoneOf is_send_headers sent

-- What an item makes of a session that is so far and knows so much of its peer. It is as far as before; or the peer introduced
-- itself; or the handshake is done; or the session is over.
pub data Hears (state : State) (peer : Peer) (item : Option Item) (outcome : Outcome) : Type 0 where
  keeps : outcome.session.state ≡ state → outcome.session.peer.version ≡ peer.version → (item_wishes item ≡ false → outcome.session.peer.by_headers ≡ peer.by_headers) → Silent outcome.messages → Hears state peer item outcome
  greets : state ≡ Start → outcome.session.state ≡ Greeted → outcome.session.peer.by_headers ≡ peer.by_headers → Silent outcome.messages → Hears state peer item outcome
  readies : state ≡ Greeted → outcome.session.state ≡ Ready → outcome.session.peer ≡ peer → outcome.messages ≡ wishes peer.version → outcome.next ≡ Some (About subjects.Locator) → Hears state peer item outcome
  stops : (why : CloseReason) → outcome.session.state ≡ Closed why → outcome.session.peer ≡ stranger → outcome.messages ≡ [] → outcome.next ≡ None → Hears state peer item outcome

ends_hears : (state : State) (peer : Peer) (item : Option Item) (s : SessionState) (sent : List Message) → s.state ≡ state → s.peer.version ≡ peer.version → (item_wishes item ≡ false → s.peer.by_headers ≡ peer.by_headers) → Silent sent
    → Hears state peer item (ends s sent)
ends_hears state peer item s sent at of by silent = ends_cases (Hears state peer item) s sent (λ _. keeps at of by silent) (λ _ _. keeps at of by silent) (λ _ _. keeps at of by silent)

quiet_end : (item : Option Item) (s : SessionState) (sent : List Message) → Silent sent → Hears s.state s.peer item (ends s sent)
quiet_end item s sent silent = ends_hears s.state s.peer item s sent refl refl (λ _. refl) silent

unless_end : (item : Option Item) (s : SessionState) (sent : List Message) → Silent sent → Hears s.state s.peer item (ends s (unless_remembered s sent))
unless_end item s sent silent = quiet_end item s (unless_remembered s sent) (unless_none is_send_headers s sent silent)

-- ---- messages that are no `sendheaders`

rare : IsRare is_send_headers
rare =
    record {
      version = λ _. refl;
      verack = refl;
      pong = λ _. refl;
      inv = λ _. refl;
      not_found = λ _. refl;
      get_headers = λ _. refl;
      headers = λ _. refl;
      tx = λ _. refl;
      block = λ _. refl;
      get_txs = λ _. refl;
      block_txs = λ _. refl;
    }

asking_silent : (entries : List Inventory) → Silent (asking_for entries)
asking_silent [] = refl
asking_silent (first ∷ others) = refl

search_silent : (found : Bool) (s : SessionState) (locator : List Hash256) → Silent (search found s locator)
search_silent found s locator = search_none is_send_headers found s locator rare

whole_silent : (b : Bool) (hash : Hash256) → Silent (cond b (asking_block hash ∷ []) [])
whole_silent true hash = refl
whole_silent false hash = refl

-- ---- messages of the peer

introduced_hears : (item : Option Item) (s : SessionState) (version : Version) → s.state ≡ Start → Hears s.state s.peer item (introduced s version)
unfolding introduced
introduced_hears item s version at =
    elim (cases_Bool (version.nonce == s.settings.nonce)) [
      | inl own ↦ rw own (stops reasons.SelfPeer refl refl refl refl)
      | inr other ↦
          elim (cases_Bool (int_lt version.version (pos 70001))) [
            | inl old ↦ rw (other, old) (stops reasons.OldPeer refl refl refl refl)
            | inr new ↦ rw (other, new) (greets at refl refl (greeting_none is_send_headers s.settings rare))
          ]
    ]

start_hears : (s : SessionState) (message : Message) → s.state ≡ Start → Hears s.state s.peer (Some (Good message)) (in_start s message)
unfolding in_start
start_hears s (messages.Version version) at = introduced_hears (Some (Good (messages.Version version))) s version at
start_hears s other at = keeps refl refl (λ _. refl) refl

compact_state : (relay : CompactRelay) (s : SessionState) → (by_compact relay s).state ≡ s.state
compact_state relay s = elim (cases_Bool (relay.version == 1)) [ inl one ↦ rw one refl | inr other ↦ rw other refl ]

compact_version : (relay : CompactRelay) (s : SessionState) → (by_compact relay s).peer.version ≡ s.peer.version
compact_version relay s = elim (cases_Bool (relay.version == 1)) [ inl one ↦ rw one refl | inr other ↦ rw other refl ]

compact_by : (relay : CompactRelay) (s : SessionState) → (by_compact relay s).peer.by_headers ≡ s.peer.by_headers
compact_by relay s = elim (cases_Bool (relay.version == 1)) [ inl one ↦ rw one refl | inr other ↦ rw other refl ]

greeted_hears : (s : SessionState) (message : Message) → s.state ≡ Greeted → Hears s.state s.peer (Some (Good message)) (in_greeted s message)
unfolding in_greeted
greeted_hears s messages.Verack at = readies at refl refl refl refl
greeted_hears s messages.SendHeaders at = keeps refl refl (λ e. absurd cc) refl
greeted_hears s (messages.SendCmpct relay) at = keeps (compact_state relay s) (compact_version relay s) (λ _. compact_by relay s) refl
greeted_hears s other at = keeps refl refl (λ _. refl) refl

brought_hears : (item : Option Item) (s : SessionState) (block : Block) → Hears s.state s.peer item (brought s block)
unfolding brought
brought_hears item s block =
    let hash = block_hash block.header in
    by_test (Hears s.state s.peer item) (is_sound_block block) (asks (heard_of hash (dropping hash (landing hash s))) [] (About subjects.Block)) (ended reasons.BadBlock s)
    (λ _.
    elim (cases_Bool (is_partial hash s.compact.partial)) [
      | inl is ↦ rw is (keeps refl refl (λ _. refl) refl)
      | inr isnt ↦ rw isnt (keeps refl refl (λ _. refl) refl)
    ]) (λ _. stops reasons.BadBlock refl refl refl refl)

-- ---- compact blocks

falls_back_hears : (item : Option Item) (s : SessionState) (hash before : Hash256) → Hears s.state s.peer item (falls_back s hash before)
unfolding falls_back
falls_back_hears item s hash before = quiet_end item (with_fallen hash before s) (cond (asks_now s.fetch hash) (asking_block hash ∷ []) []) (whole_silent (asks_now s.fetch hash) hash)

short_hears : (item : Option Item) (s : SessionState) (short : HeaderAndShortIds) → Hears s.state s.peer item (short_heard s short)
unfolding short_heard
short_hears item s short =
    by_test (Hears s.state s.peer item) (has_places short.txs) (asks (heard_of (block_hash short.header) s) [] (About subjects.Headers)) (ended reasons.BadMessage s)
    (λ _. keeps refl refl (λ _. refl) refl) (λ _. stops reasons.BadMessage refl refl refl refl)

filled_hears : (item : Option Item) (s : SessionState) (hash before : Hash256) (filled : Result Filled Fault) → Hears s.state s.peer item (filled_by s hash before filled)
filled_hears item s hash before (Ok (filling.Sound block)) = keeps refl refl (λ _. refl) refl
filled_hears item s hash before (Ok filling.Wrong) = falls_back_hears item s hash before
filled_hears item s hash before (Err fault) = stops reasons.BadMessage refl refl refl refl

completed_hears : (item : Option Item) (s : SessionState) (given : BlockTransactions) (partial : Option Unfilled) → Hears s.state s.peer item (completed_by s given partial)
completed_hears item s given None = quiet_end item s [] refl
completed_hears item s given (Some partial) =
    by_test (Hears s.state s.peer item) (same (block_hash partial.header) given.block) (filled_by (with_partial None s) given.block partial.header.prev (completed_of partial given)) (ends s [])
    (λ _. filled_hears item (with_partial None s) given.block partial.header.prev (completed_of partial given)) (λ _. quiet_end item s [] refl)

txs_hears : (item : Option Item) (s : SessionState) (given : BlockTransactions) → Hears s.state s.peer item (txs_heard s given)
unfolding txs_heard
txs_hears item s given = completed_hears item s given s.compact.partial

ready_hears : (s : SessionState) (message : Message) → Hears s.state s.peer (Some (Good message)) (in_ready s message)
unfolding in_ready
ready_hears s messages.SendHeaders = ends_hears s.state s.peer (Some (Good messages.SendHeaders)) (by_headers s) [] refl refl (λ e. absurd cc) refl
ready_hears s (messages.SendCmpct relay) = ends_hears s.state s.peer (Some (Good (messages.SendCmpct relay))) (by_compact relay s) [] (compact_state relay s) (compact_version relay s) (λ _. compact_by relay s) refl
ready_hears s (messages.Headers []) = quiet_end (Some (Good (messages.Headers []))) (with_unknown false s) [] refl
ready_hears s (messages.Headers (first ∷ others)) = keeps refl refl (λ _. refl) refl
ready_hears s (messages.Inv entries) =
    elim (cases_Bool (is_nil (told_of entries))) [
      | inl none ↦ rw none (quiet_end (Some (Good (messages.Inv entries))) s [] refl)
      | inr some_told ↦ rw some_told (keeps refl refl (λ _. refl) refl)
    ]
ready_hears s (messages.GetData entries) = keeps refl refl (λ _. refl) refl
ready_hears s (messages.GetHeaders request) = keeps refl refl (λ _. refl) refl
ready_hears s (messages.NotFound entries) = quiet_end (Some (Good (messages.NotFound entries))) (with_fetch (given_up entries s.fetch) s) [] refl
ready_hears s (messages.Tx tx) = keeps refl refl (λ _. refl) refl
ready_hears s (messages.Block block) = brought_hears (Some (Good (messages.Block block))) s block
ready_hears s (messages.CmpctBlock short) = short_hears (Some (Good (messages.CmpctBlock short))) s short
ready_hears s (messages.GetBlockTxn request) = keeps refl refl (λ _. refl) refl
ready_hears s (messages.BlockTxn given) = txs_hears (Some (Good (messages.BlockTxn given))) s given
ready_hears s other = quiet_end (Some (Good other)) s [] refl

phase_hears : (state : State) (s : SessionState) (message : Message) → s.state ≡ state → Hears s.state s.peer (Some (Good message)) (by_phase state s message)
phase_hears Start s message at = start_hears s message at
phase_hears Greeted s message at = greeted_hears s message at
phase_hears Ready s message at = ready_hears s message
phase_hears (Closed why) s message at = keeps refl refl (λ _. refl) refl

received_hears : (s : SessionState) (message : Message) → Hears s.state s.peer (Some (Good message)) (received s message)
unfolding received
received_hears s (messages.Ping nonce) = quiet_end (Some (Good (messages.Ping nonce))) s (messages.Pong nonce ∷ []) refl
received_hears s other = phase_hears s.state s other refl

processed_hears : (s : SessionState) (item : Option Item) → Hears s.state s.peer item (processed s item)
unfolding processed
processed_hears s None = quiet_end None s [] refl
processed_hears s (Some (Good message)) = received_hears s message
processed_hears s (Some Damaged) = quiet_end (Some Damaged) s [] refl
processed_hears s (Some (Bad command fault)) = stops reasons.BadMessage refl refl refl refl

-- ---- answers

seeks_hears : (item : Option Item) (s : SessionState) (locator : List Hash256) → Hears s.state s.peer item (seeks s locator)
seeks_hears item s locator = quiet_end item (seeking true s) (search true s locator) (search_silent true s locator)

orphaned_hears : (item : Option Item) (s : SessionState) (header : Option Header) (locator : List Hash256) → Hears s.state s.peer item (orphaned s header locator)
orphaned_hears item s header locator =
    orphaned_cases (Hears s.state s.peer item) s header locator (seeks_hears item s locator) (λ of _ _. quiet_end item (with_child (block_hash of) of.prev s) [] refl)

heads_by_hears : (item : Option Item) (s : SessionState) (refused : Option Fault) (locator : List Hash256) → Hears s.state s.peer item (heads_by s item refused locator)
heads_by_hears item s (Some faults.BadWork) locator = stops reasons.BadBlock refl refl refl refl
heads_by_hears item s (Some faults.NoParent) locator = seeks_hears item s locator
heads_by_hears item s (Some other) locator = quiet_end item (with_unknown false s) [] refl
heads_by_hears item s None locator =
    quiet_end item (with_unknown false s) (unless_remembered s (more_headers item)) (unless_none is_send_headers s (more_headers item) (more_none is_send_headers item rare))

short_told_hears : (item : Option Item) (s : SessionState) (hash : Hash256) (heads : Heads) → Hears s.state s.peer item (short_told s hash heads)
unfolding short_told
short_told_hears item s hash heads =
    let found = is_orphan heads.refused in
    let sent = search found s heads.locator in
    let silent = search_silent found s heads.locator in
    let t = seeking found s in
    let there : Outcome = ends (landing hash t) sent in
    by_test (Hears s.state s.peer item) (is_workless heads.refused) (ended reasons.BadBlock s) (cond (is_nil heads.lack) there (asks t sent Match)) (λ _. stops reasons.BadBlock refl refl refl refl)
    (λ _. by_test (Hears s.state s.peer item) (is_nil heads.lack) there (asks t sent Match) (λ _. quiet_end item (landing hash t) sent silent) (λ _. keeps refl refl (λ _. refl) silent))

heads_for_hears : (item : Option Item) (s : SessionState) (short : Option HeaderAndShortIds) (heads : Heads) → Hears s.state s.peer item (heads_for s item short heads)
heads_for_hears item s None heads = heads_by_hears item (with_lacking heads.lack (before_first item) s) heads.refused heads.locator
heads_for_hears item s (Some short) heads = short_told_hears item s (block_hash short.header) heads

heads_hears : (item : Option Item) (s : SessionState) (heads : Heads) → Hears s.state s.peer item (heads_told s item heads)
unfolding heads_told
heads_hears item s heads = heads_for_hears item s (short_in item) heads

rebuilt_hears : (item : Option Item) (s : SessionState) (header : Header) (rebuilt : Rebuilt) → Hears s.state s.peer item (rebuilt_by s header rebuilt)
rebuilt_hears item s header (rebuilts.Sound block) = keeps refl refl (λ _. refl) refl
rebuilt_hears item s header (rebuilts.Lacking partial request) = quiet_end item (with_partial (Some partial) s) (asking_txs request ∷ []) refl
rebuilt_hears item s header rebuilts.Useless = falls_back_hears item s (block_hash header) header.prev

paired_hears : (item : Option Item) (s : SessionState) (short : Option HeaderAndShortIds) (pairs : List Pair) → Hears s.state s.peer item (paired s short pairs)
paired_hears item s None pairs = keeps refl refl (λ _. refl) refl
paired_hears item s (Some short) pairs =
    by_test (Hears s.state s.peer item) (has_places short.txs) (rebuilt_by s short.header (rebuilt_of short pairs)) (ended reasons.BadMessage s)
    (λ _. rebuilt_hears item s short.header (rebuilt_of short pairs)) (λ _. stops reasons.BadMessage refl refl refl refl)

pairs_hears : (item : Option Item) (s : SessionState) (pairs : List Pair) → Hears s.state s.peer item (pairs_told s item pairs)
unfolding pairs_told
pairs_hears item s pairs = paired_hears item s (short_in item) pairs

taken_hears : (item : Option Item) (s : SessionState) (header : Option Header) (refused : Option Fault) (locator : List Hash256) → Hears s.state s.peer item (taken_told s header refused locator)
unfolding taken_told
taken_hears item s header None locator = quiet_end item s [] refl
taken_hears item s header (Some faults.Known) locator = quiet_end item s [] refl
taken_hears item s header (Some faults.NoParent) locator = orphaned_hears item s header locator
taken_hears item s header (Some other) locator = stops reasons.BadBlock refl refl refl refl

given_hears : (item : Option Item) (s : SessionState) (header : Header) (refused : Option Fault) (locator : List Hash256) → Hears s.state s.peer item (given_told s header refused locator)
unfolding given_told
given_hears item s header refused locator =
    by_test (Hears s.state s.peer item) (is_orphan refused) (orphaned s (Some header) locator) (ends s []) (λ _. orphaned_hears item s (Some header) locator) (λ _. quiet_end item s [] refl)

excerpt_hears : (item : Option Item) (s : SessionState) (excerpt : Excerpt) → Hears s.state s.peer item (excerpt_answered s excerpt)
unfolding excerpt_answered
excerpt_hears item s (excerpts.Refused fault) = stops reasons.BadRequest refl refl refl refl
excerpt_hears item s other = quiet_end item s (excerpt_told other) (excerpt_none is_send_headers other rare)

need_hears : (item : Option Item) (s : SessionState) (need : Need) → Hears s.state s.peer item (need_told s need)
unfolding need_told
need_hears item s need =
    let found = list_any is_block need.entries in
    let behind = search found s need.locator in
    quiet_end item (seeking found s) (asking_for (filter_map tx_request need.entries) ++ behind)
    (none_of_both is_send_headers (asking_for (filter_map tx_request need.entries)) behind (asking_silent (filter_map tx_request need.entries)) (search_silent found s need.locator))

-- an answer, to whatever it is one
replied_hears : (s : SessionState) (item : Option Item) (stage : Stage) (answer : Answer) → Hears s.state s.peer item (replied s item stage answer)
unfolding replied wanted_told news_told served_told
replied_hears s item stage answers.Kicked = stops reasons.Kicked refl refl refl refl
replied_hears s item Admit answers.Go = processed_hears s item
replied_hears s item (About subject) (answers.Heads heads) = heads_hears item s heads
replied_hears s item (About subject) (answers.Locator locator) = unless_end item s (asking_headers locator ∷ []) refl
replied_hears s item (About subject) (answers.Need need) = need_hears item s need
replied_hears s item (About subject) (answers.TxTaken refused) = quiet_end item s [] refl
replied_hears s item (About subject) (answers.Taken taken) = taken_hears item s (header_in item) taken.refused taken.locator
replied_hears s item (About subject) (answers.Served pieces) = quiet_end item (with_made (shorts pieces) s) (served (next_nonce s) pieces) (served_none is_send_headers (next_nonce s) pieces rare (λ _. refl))
replied_hears s item (About subject) (answers.Following headers) = quiet_end item s (messages.Headers headers ∷ []) refl
replied_hears s item (About subject) (answers.Excerpt excerpt) = excerpt_hears item s excerpt
replied_hears s item Match (answers.Pairs pairs) = pairs_hears item s pairs
replied_hears s item (Give block) (answers.Taken taken) = given_hears item s block.header taken.refused taken.locator
replied_hears s item Wanted (answers.Need need) = keeps refl refl (λ _. refl) (asking_silent (requests_of _ (taken_on (blocks_in need.entries)).flight))
replied_hears s item Fresh (answers.News news) = keeps refl refl (λ _. refl) (news_none is_send_headers s item news rare (λ _. refl) (λ _. refl))
replied_hears s item stage other = keeps refl refl (λ _. refl) refl

resumed_hears : (state : State) (peer : Peer) (item : Option Item) (outcome : Outcome) (hash : Hash256) → outcome.next ≡ Some Fresh → Hears state peer item outcome → Hears state peer item (resumed hash outcome)
resumed_hears state peer item outcome hash news (keeps at of by silent) = keeps at of by (again_none is_send_headers outcome.messages (hash ∷ []) rare silent)
resumed_hears state peer item outcome hash news (greets from to by silent) = greets from to by (again_none is_send_headers outcome.messages (hash ∷ []) rare silent)
resumed_hears state peer item outcome hash news (readies from to of sent next) = absurd (let clash : Some Fresh ≡ Some (About subjects.Locator) = sym news ∙ next in cc)
resumed_hears state peer item outcome hash news (stops why to of sent next) = absurd (let clash : Some Fresh ≡ None = sym news ∙ next in cc)

pub answered_hears : (s : SessionState) (item : Option Item) (stage : Stage) (answer : Answer) → Hears s.state s.peer item (answered s item stage answer)
unfolding answered
answered_hears s item stage answer =
    let outcome = replied s item stage answer in
    let hears = replied_hears s item stage answer in
    resuming_cases (Hears s.state s.peer item) outcome hears (λ hash news _ _. resumed_hears s.state s.peer item outcome hash news hears)
