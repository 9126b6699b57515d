-- What a message or an answer makes of what is fetched, and which blocks are asked for then: needed ones alone.
use Rattle.cb_state.specs.declared.accepting.Taken.{Taken}
use Rattle.std.proofs.Common.{◌≡◌, ℕ, Bool, true, false, cond, ◌||◌, List, [], ◌∷◌, ◌++◌, Option, Some, None, refl, sym, ap, subst, ◌∙◌, inl, inr}
use Rattle.std.specs.Prelude.{◌==◌, ◌&&◌, Result, Ok, Err, filter_map, int_lt, pos}
use Rattle.std.specs.List.{list_any}
use Rattle.std.proofs.lemmas.Bool.{cases_Bool, or_cases}
use Rattle.cb_base.specs.declared.fault.Fault.{Fault}
use Rattle.cb_base.specs.declared.fault.Fault.TheVariants as faults
use Rattle.cb_base.specs.declared.hash.Hash256.{Hash256}
use Rattle.cb_block.specs.declared.block.Block.{Block}
use Rattle.cb_block.specs.declared.header.Header.{Header}
use Rattle.cb_block.specs.Decision.{is_sound_block}
use Rattle.cb_chain.specs.Entries.{block_hash, same}
use Rattle.cb_compact.specs.Slots.{Unfilled, missing}
use Rattle.cb_compact.specs.declared.named_tx.Pair.{Pair}
use Rattle.cb_compact.specs.declared.partial.Filled.{Filled}
use Rattle.cb_compact.specs.declared.partial.Filled.TheVariants as filling
use Rattle.cb_peer_state.specs.Fetching.{FetchState, asks_now, blocks_in, has, request_of, requests_of, taken_on, wanting_all}
use Rattle.cb_hall.specs.declared.answer.Answer.{Answer}
use Rattle.cb_hall.specs.declared.answer.Answer.TheVariants as answers
use Rattle.cb_hall.specs.declared.question.Question.{Question}
use Rattle.cb_hall.specs.declared.question.Question.TheVariants as questions
use Rattle.cb_wire.specs.declared.block_transactions.BlockTransactions.{BlockTransactions}
use Rattle.cb_wire.specs.declared.compact_block.HeaderAndShortIds.{HeaderAndShortIds}
use Rattle.cb_wire.specs.declared.inventory.Inventory.{Inventory}
use Rattle.cb_wire.specs.declared.requests.CompactRelay.{CompactRelay}
use Rattle.cb_wire.specs.declared.version.Version.{Version}
use Rattle.cb_compact.specs.Completing.{completed_of}
use Rattle.cb_compact.specs.Places.{has_places}
use Rattle.cb_compact.specs.Rebuilding.{are_different, block_with, rebuilt_of, told_by, unfilled_of, whole_of}
use Rattle.cb_compact.specs.declared.rebuilding.Rebuilt.{Rebuilt}
use Rattle.cb_compact.specs.declared.rebuilding.Rebuilt.TheVariants as rebuilts
use Rattle.cb_state.specs.declared.accepting.Heads.{Heads}
use Rattle.cb_wire.specs.declared.inventory.Inventory.TheVariants as entry
use Rattle.cb_state.specs.declared.news.News.{News}
use Rattle.cb_state.specs.declared.serving.Piece.{Piece}
use Rattle.cb_state.specs.declared.serving_places.Excerpt.{Excerpt}
use Rattle.cb_state.specs.declared.serving_places.Excerpt.TheVariants as excerpts
use Rattle.cb_state.specs.declared.wanting.Need.{Need}
use Rattle.cb_peer_state.specs.Inventory.{asking_block, asking_for, asking_headers, asking_txs}
use Rattle.cb_peer_state.specs.Greeting.{wishes}
use Rattle.cb_peer_state.specs.Serving.{excerpt_told, served, shorts}
use Rattle.cb_wire.specs.declared.item.Item.{Item}
use Rattle.cb_wire.specs.declared.item.Item.TheVariants.{Good, Damaged, Bad}
use Rattle.cb_wire.specs.declared.message.Message.{Message}
use Rattle.cb_wire.specs.declared.message.Message.TheVariants as messages
use Rattle.cb_peer_state.specs.declared.stage.Stage.{Stage}
use Rattle.cb_peer_state.specs.declared.stage.Stage.TheVariants.{Admit, About, Match, Give, Wanted, Fresh}
use Rattle.cb_peer_state.specs.declared.stage.Subject.{Subject}
use Rattle.cb_peer_state.specs.declared.stage.Subject.TheVariants as subjects
use Rattle.cb_peer_state.specs.declared.state.CloseReason.{CloseReason}
use Rattle.cb_peer_state.specs.declared.state.CloseReason.TheVariants as reasons
use Rattle.cb_peer_state.specs.declared.state.State.{State}
use Rattle.cb_peer_state.specs.declared.state.State.TheVariants.{Start, Greeted, Ready, Closed}
use Rattle.cb_peer_state.specs.Questions.{about, fits, is_nil, question_of, short_in, told_of}
use Rattle.cb_peer_state.specs.Receiving.{Outcome, asks, brought, by_compact, by_headers, by_phase, completed_by, ended, ends, falls_back, filled_by, given_up, gives, greeting, heard_of, in_greeted, in_ready, in_start, introduced, processed, received, short_heard, txs_heard}
use Rattle.cb_peer_state.specs.Replying.{answered, before_first, excerpt_answered, given_told, heads_by, heads_for, heads_told, is_block, is_workless, more_headers, need_told, news_told, paired, pairs_told, rebuilt_by, replied, served_told, short_told, taken_told, tip_told, tx_request, wanted_told, wish_told, header_in, is_orphan, orphaned, search, seeks, txs_told}
use Rattle.cb_peer_state.specs.declared.session_state.SessionState.{SessionState}
use Rattle.cb_peer_state.specs.State.{dropping, is_partial, landing, next_nonce, remembers, unless_remembered, with_fallen, with_fetch, with_lacking, with_made, with_partial, seeking, with_child, with_unknown}
use Rattle.cb_peer_state.proofs.Cases.{by_test, ends_cases}
use Rattle.cb_peer_state.proofs.Resuming.{resuming_cases}
use Rattle.cb_peer_state.proofs.Behind.{any_more, orphaned_cases}
use Rattle.cb_peer_state.specs.Laws.{asks_for_block, names_block}
use Rattle.cb_trace.specs.Whole.{lacking_of, missing_in, needed_in}
use Rattle.cb_trace.proofs.Fetches.{Each, Fetches, Tests, rebuilding, all_taken, all_wanted, back_fetches, given_up_fetches, idle_fetches, lands_fetches, none_each, same_each, with_rebuilding, wanting_fetches}
use Rattle.cb_trace.proofs.Quiet.{IsRare, NoneOf, excerpt_none, greeting_none, more_none, news_none, none_of_both, served_none, unless_none, search_none}

-- ---- what is asked for

-- each block that is asked for meets the test
abbrev pub Asks : (Hash256 → Bool) → List Message → Type 0
Asks needed sent = (hash : Hash256) → list_any (asks_for_block hash) sent ≡ true → needed hash ≡ true

rare : (hash : Hash256) → IsRare (asks_for_block hash)
rare hash =
    record {
      version = λ _. refl;
      verack = refl;
      pong = λ _. refl;
      inv = λ _. refl;
      not_found = λ _. refl;
      get_headers = λ _. refl;
      headers = λ _. refl;
      tx = λ _. refl;
      block = λ _. refl;
      get_txs = λ _. refl;
      block_txs = λ _. refl;
    }

-- no block is asked for
abbrev pub AsksNone : List Message → Type 0
AsksNone sent = (hash : Hash256) → NoneOf (asks_for_block hash) sent

pub none_asked : (needed : Hash256 → Bool) (sent : List Message) → AsksNone sent → Asks needed sent
none_asked needed sent none hash e = absurd (let clash : false ≡ true = sym (none hash) ∙ e in cc)

wishes_ask : (a b : Bool) (relay : CompactRelay) → AsksNone (cond a [] (messages.SendHeaders ∷ []) ++ cond b [] (messages.SendCmpct relay ∷ []))
wishes_ask true true relay hash = refl
wishes_ask true false relay hash = refl
wishes_ask false true relay hash = refl
wishes_ask false false relay hash = refl

no_block_among_txs : (hash : Hash256) (entries : List Inventory) → list_any (names_block hash) (filter_map tx_request entries) ≡ false
no_block_among_txs hash [] = refl
no_block_among_txs hash (entry.Tx txid ∷ others) = no_block_among_txs hash others
no_block_among_txs hash (entry.Block other ∷ others) = no_block_among_txs hash others
no_block_among_txs hash (entry.CompactBlock other ∷ others) = no_block_among_txs hash others
no_block_among_txs hash (entry.Other kind other ∷ others) = no_block_among_txs hash others

asked_by_entries : (hash : Hash256) (entries : List Inventory) → list_any (names_block hash) entries ≡ false → NoneOf (asks_for_block hash) (asking_for entries)
asked_by_entries hash [] none = refl
asked_by_entries hash (first ∷ others) none = rw none refl

-- the transactions of an `inv` and the headers before its blocks
need_asks : (s : SessionState) (need : Need) → AsksNone (asking_for (filter_map tx_request need.entries) ++ search (list_any is_block need.entries) s need.locator)
need_asks s need hash =
    let found = list_any is_block need.entries in
    none_of_both (asks_for_block hash) (asking_for (filter_map tx_request need.entries)) (search found s need.locator)
    (asked_by_entries hash (filter_map tx_request need.entries) (no_block_among_txs hash need.entries)) (search_none (asks_for_block hash) found s need.locator (rare hash))

-- a request of a compact block or of a whole one names it alone
named_is : (compact : Bool) (hash other : Hash256) (others : Bool) → (names_block hash (request_of compact other) || others) ≡ (same hash other || others)
named_is true hash other others = refl
named_is false hash other others = refl

requests_name : (compact : Bool) (hashes : List Hash256) (hash : Hash256) → list_any (names_block hash) (requests_of compact hashes) ≡ has hashes hash
requests_name compact [] hash = refl
requests_name compact (first ∷ others) hash = named_is compact hash first (list_any (names_block hash) (requests_of compact others)) ∙ ap (λ (b : Bool). same hash first || b) (requests_name compact others hash)

entries_name : (entries : List Inventory) (hash : Hash256) → list_any (asks_for_block hash) (asking_for entries) ≡ true → list_any (names_block hash) entries ≡ true
entries_name [] hash e = e
entries_name (first ∷ others) hash e =
    elim (or_cases (list_any (names_block hash) (first ∷ others)) false e) [ inl is ↦ is | inr isnt ↦ absurd (let clash : false ≡ true = isnt in cc) ]

requests_ask : (needed : Hash256 → Bool) (compact : Bool) (hashes : List Hash256) → Each needed hashes → Asks needed (asking_for (requests_of compact hashes))
requests_ask needed compact hashes each hash e = each hash (sym (requests_name compact hashes hash) ∙ entries_name (requests_of compact hashes) hash e)

whole_asks : (needed : Hash256 → Bool) (b : Bool) (hash : Hash256) → Each needed (hash ∷ []) → Asks needed (cond b (asking_block hash ∷ []) [])
whole_asks needed true hash each = requests_ask needed false (hash ∷ []) each
whole_asks needed false hash each = none_asked needed [] (λ _. refl)

-- ---- what an outcome comes to

-- the block of a compact block
abbrev pub short_hashes : Option HeaderAndShortIds → List Hash256
short_hashes None = []
short_hashes (Some short) = block_hash short.header ∷ []

-- the block that the mempool is searched for next
abbrev pub matched : Option Item → Option Stage → List Hash256
matched item (Some Match) = short_hashes (short_in item)
matched item next = []

-- What is fetched and rebuilt is so, the block that the mempool is searched for is missing, and the blocks that are asked for are needed.
pub record Comes (t : Tests) (item : Option Item) (outcome : Outcome) : Type 0 where
  pub fetches : Fetches t outcome.session.fetch outcome.session.compact.partial
  pub sought : Each t.missing (matched item outcome.next)
  pub asked : Asks t.needed outcome.messages

abbrev pub FetchesAt : Tests → SessionState → Type 0
FetchesAt t s = Fetches t s.fetch s.compact.partial

ends_comes : (t : Tests) (item : Option Item) (s : SessionState) (sent : List Message) → FetchesAt t s → Asks t.needed sent → Comes t item (ends s sent)
ends_comes t item s sent f asked =
    let same : (next : Option Stage) → Each t.missing (matched item next) → Comes t item (record { session = s; messages = sent; next = next }) =
    λ next each. record { fetches = f; sought = each; asked = asked } in
    ends_cases (Comes t item) s sent (λ _. same None (none_each t.missing)) (λ _ _. same (Some Wanted) (none_each t.missing)) (λ _ _. same (Some Fresh) (none_each t.missing))

silent : (t : Tests) → Asks t.needed []
silent t = none_asked t.needed [] (λ _. refl)

quiet_comes : (t : Tests) (item : Option Item) (s : SessionState) → FetchesAt t s → Comes t item (ends s [])
quiet_comes t item s f = ends_comes t item s [] f (silent t)

plain_comes : (t : Tests) (item : Option Item) (s : SessionState) (sent : List Message) → FetchesAt t s → AsksNone sent → Comes t item (ends s sent)
plain_comes t item s sent f none = ends_comes t item s sent f (none_asked t.needed sent none)

unless_comes : (t : Tests) (item : Option Item) (s r : SessionState) (sent : List Message) → FetchesAt t s → AsksNone sent → Comes t item (ends s (unless_remembered r sent))
unless_comes t item s r sent f none = plain_comes t item s (unless_remembered r sent) f (λ hash. unless_none (asks_for_block hash) r sent (none hash))

over_comes : (t : Tests) (item : Option Item) (why : CloseReason) (s : SessionState) → Comes t item (ended why s)
over_comes t item why s = record { fetches = idle_fetches t; sought = none_each t.missing; asked = silent t }

-- ---- messages of the peer

introduced_comes : (t : Tests) (item : Option Item) (s : SessionState) (version : Version) → FetchesAt t s → Comes t item (introduced s version)
unfolding introduced
introduced_comes t item s version f =
    elim (cases_Bool (version.nonce == s.settings.nonce)) [
      | inl own ↦ rw own (over_comes t item reasons.SelfPeer s)
      | inr other ↦
          elim (cases_Bool (int_lt version.version (pos 70001))) [
            | inl old ↦ rw (other, old) (over_comes t item reasons.OldPeer s)
            | inr new ↦ rw (other, new) (record { fetches = f; sought = none_each t.missing; asked = none_asked t.needed (greeting s.settings) (λ hash. greeting_none (asks_for_block hash) s.settings (rare hash)) })
          ]
    ]

compact_fetches : (t : Tests) (relay : CompactRelay) (s : SessionState) → FetchesAt t s → FetchesAt t (by_compact relay s)
compact_fetches t relay s f = elim (cases_Bool (relay.version == 1)) [ inl one ↦ rw one f | inr other ↦ rw other f ]

dropping_fetches : (t : Tests) (s : SessionState) (hash : Hash256) → FetchesAt t s → FetchesAt t (dropping hash s)
dropping_fetches t s hash f =
    elim (cases_Bool (is_partial hash s.compact.partial)) [
      | inl is ↦ rw is (with_rebuilding t s.fetch s.compact.partial None (none_each t.missing) f)
      | inr isnt ↦ rw isnt f
    ]

brought_comes : (t : Tests) (item : Option Item) (s : SessionState) (block : Block) → FetchesAt t s → Comes t item (brought s block)
unfolding brought
brought_comes t item s block f =
    let hash = block_hash block.header in
    let whole : SessionState = dropping hash (landing hash s) in
    by_test (Comes t item) (is_sound_block block) (asks (heard_of hash whole) [] (About subjects.Block)) (ended reasons.BadBlock s)
    (λ _. record { fetches = dropping_fetches t (landing hash s) hash (lands_fetches t s.fetch s.compact.partial hash f); sought = none_each t.missing; asked = silent t }) (λ _. over_comes t item reasons.BadBlock s)

falls_back_comes : (t : Tests) (item : Option Item) (s : SessionState) (hash before : Hash256) → Each t.missing (hash ∷ []) → FetchesAt t s → Comes t item (falls_back s hash before)
unfolding falls_back
falls_back_comes t item s hash before each f =
    ends_comes t item (with_fallen hash before s) (cond (asks_now s.fetch hash) (asking_block hash ∷ []) []) (back_fetches t s.fetch s.compact.partial hash each f)
    (whole_asks t.needed (asks_now s.fetch hash) hash (λ other e. t.is_needed other (each other e)))

gives_comes : (t : Tests) (item : Option Item) (s : SessionState) (block : Block) → FetchesAt t s → Comes t item (gives s block)
gives_comes t item s block f = record { fetches = lands_fetches t s.fetch s.compact.partial (block_hash block.header) f; sought = none_each t.missing; asked = silent t }

short_comes : (t : Tests) (item : Option Item) (s : SessionState) (short : HeaderAndShortIds) → FetchesAt t s → Comes t item (short_heard s short)
unfolding short_heard
short_comes t item s short f =
    by_test (Comes t item) (has_places short.txs) (asks (heard_of (block_hash short.header) s) [] (About subjects.Headers)) (ended reasons.BadMessage s)
    (λ _. record { fetches = f; sought = none_each t.missing; asked = silent t }) (λ _. over_comes t item reasons.BadMessage s)

filled_comes : (t : Tests) (item : Option Item) (s : SessionState) (hash before : Hash256) (filled : Result Filled Fault) → Each t.missing (hash ∷ []) → FetchesAt t s → Comes t item (filled_by s hash before filled)
filled_comes t item s hash before (Ok (filling.Sound block)) each f = gives_comes t item s block f
filled_comes t item s hash before (Ok filling.Wrong) each f = falls_back_comes t item s hash before each f
filled_comes t item s hash before (Err fault) each f = over_comes t item reasons.BadMessage s

completed_comes : (t : Tests) (item : Option Item) (s : SessionState) (given : BlockTransactions) (partial : Option Unfilled) → s.compact.partial ≡ partial → FetchesAt t s → Comes t item (completed_by s given partial)
completed_comes t item s given None is f = quiet_comes t item s f
completed_comes t item s given (Some partial) is f =
    let was : Each t.missing (block_hash partial.header ∷ []) = subst (λ (p : Option Unfilled). Each t.missing (rebuilding p)) is f.rebuilt in
    by_test (Comes t item) (same (block_hash partial.header) given.block) (filled_by (with_partial None s) given.block partial.header.prev (completed_of partial given)) (ends s [])
    (λ e.
    filled_comes t item (with_partial None s) given.block partial.header.prev (completed_of partial given) (same_each t.missing (block_hash partial.header) given.block e was)
    (with_rebuilding t s.fetch s.compact.partial None (none_each t.missing) f))
    (λ _. quiet_comes t item s f)

txs_comes : (t : Tests) (item : Option Item) (s : SessionState) (given : BlockTransactions) → FetchesAt t s → Comes t item (txs_heard s given)
unfolding txs_heard
txs_comes t item s given f = completed_comes t item s given s.compact.partial refl f

start_comes : (t : Tests) (item : Option Item) (s : SessionState) (message : Message) → FetchesAt t s → Comes t item (in_start s message)
unfolding in_start
start_comes t item s (messages.Version version) f = introduced_comes t item s version f
start_comes t item s other f = record { fetches = f; sought = none_each t.missing; asked = silent t }

greeted_comes : (t : Tests) (item : Option Item) (s : SessionState) (message : Message) → FetchesAt t s → Comes t item (in_greeted s message)
unfolding in_greeted
greeted_comes t item s messages.Verack f =
    record { fetches = f; sought = none_each t.missing; asked = none_asked t.needed (wishes s.peer.version) (wishes_ask (int_lt s.peer.version (pos 70012)) (int_lt s.peer.version (pos 70014)) _) }
greeted_comes t item s (messages.SendCmpct relay) f = record { fetches = compact_fetches t relay s f; sought = none_each t.missing; asked = silent t }
greeted_comes t item s other f = record { fetches = f; sought = none_each t.missing; asked = silent t }

ready_comes : (t : Tests) (item : Option Item) (s : SessionState) (message : Message) → FetchesAt t s → Comes t item (in_ready s message)
unfolding in_ready
ready_comes t item s messages.SendHeaders f = quiet_comes t item (by_headers s) f
ready_comes t item s (messages.SendCmpct relay) f = quiet_comes t item (by_compact relay s) (compact_fetches t relay s f)
ready_comes t item s (messages.Headers []) f = quiet_comes t item (with_unknown false s) f
ready_comes t item s (messages.Headers (first ∷ others)) f = record { fetches = f; sought = none_each t.missing; asked = silent t }
ready_comes t item s (messages.Inv entries) f =
    by_test (Comes t item) (is_nil (told_of entries)) (ends s []) (asks s [] (About subjects.Inventory)) (λ _. quiet_comes t item s f) (λ _. record { fetches = f; sought = none_each t.missing; asked = silent t })
ready_comes t item s (messages.GetData entries) f = record { fetches = f; sought = none_each t.missing; asked = silent t }
ready_comes t item s (messages.GetHeaders request) f = record { fetches = f; sought = none_each t.missing; asked = silent t }
ready_comes t item s (messages.NotFound entries) f = quiet_comes t item (with_fetch (given_up entries s.fetch) s) (given_up_fetches t entries s.fetch s.compact.partial f)
ready_comes t item s (messages.Tx tx) f = record { fetches = f; sought = none_each t.missing; asked = silent t }
ready_comes t item s (messages.Block block) f = brought_comes t item s block f
ready_comes t item s (messages.CmpctBlock short) f = short_comes t item s short f
ready_comes t item s (messages.GetBlockTxn request) f = record { fetches = f; sought = none_each t.missing; asked = silent t }
ready_comes t item s (messages.BlockTxn given) f = txs_comes t item s given f
ready_comes t item s other f = quiet_comes t item s f

phase_comes : (t : Tests) (item : Option Item) (state : State) (s : SessionState) (message : Message) → FetchesAt t s → Comes t item (by_phase state s message)
phase_comes t item Start s message f = start_comes t item s message f
phase_comes t item Greeted s message f = greeted_comes t item s message f
phase_comes t item Ready s message f = ready_comes t item s message f
phase_comes t item (Closed why) s message f = record { fetches = f; sought = none_each t.missing; asked = silent t }

received_comes : (t : Tests) (item : Option Item) (s : SessionState) (message : Message) → FetchesAt t s → Comes t item (received s message)
unfolding received
received_comes t item s (messages.Ping nonce) f = plain_comes t item s (messages.Pong nonce ∷ []) f (λ _. refl)
received_comes t item s other f = phase_comes t item s.state s other f

processed_comes : (t : Tests) (s : SessionState) (item : Option Item) → FetchesAt t s → Comes t item (processed s item)
unfolding processed
processed_comes t s None f = quiet_comes t None s f
processed_comes t s (Some (Good message)) f = received_comes t (Some (Good message)) s message f
processed_comes t s (Some Damaged) f = quiet_comes t (Some Damaged) s f
processed_comes t s (Some (Bad command fault)) f = over_comes t (Some (Bad command fault)) reasons.BadMessage s

-- ---- answers

search_asks : (found : Bool) (s : SessionState) (locator : List Hash256) → AsksNone (search found s locator)
search_asks found s locator hash = search_none (asks_for_block hash) found s locator (rare hash)

seeks_comes : (t : Tests) (item : Option Item) (s : SessionState) (locator : List Hash256) → FetchesAt t s → Comes t item (seeks s locator)
seeks_comes t item s locator f = plain_comes t item (seeking true s) (search true s locator) f (search_asks true s locator)

-- a block that came before its parent lacks
orphaned_comes : (t : Tests) (item : Option Item) (s : SessionState) (header : Option Header) (locator : List Hash256) → ((of : Header) → header ≡ Some of → Each t.lacks (block_hash of ∷ [])) → FetchesAt t s → Comes t item (orphaned s header locator)
orphaned_comes t item s header locator lack f =
    orphaned_cases (Comes t item) s header locator (seeks_comes t item s locator f)
    (λ of is _. quiet_comes t item (with_child (block_hash of) of.prev s) (wanting_fetches t s.fetch s.compact.partial (block_hash of) (lack of is) f))

heads_by_comes : (t : Tests) (item : Option Item) (s : SessionState) (refused : Option Fault) (locator : List Hash256) → FetchesAt t s → Comes t item (heads_by s item refused locator)
heads_by_comes t item s (Some faults.BadWork) locator f = over_comes t item reasons.BadBlock s
heads_by_comes t item s (Some faults.NoParent) locator f = seeks_comes t item s locator f
heads_by_comes t item s (Some other) locator f = quiet_comes t item (with_unknown false s) f
heads_by_comes t item s None locator f = unless_comes t item (with_unknown false s) s (more_headers item) f (λ hash. more_none (asks_for_block hash) item (rare hash))

-- the header of a compact block: its block is missing where the answer lists one
short_told_comes : (t : Tests) (item : Option Item) (s : SessionState) (hash : Hash256) (heads : Heads) → (is_nil heads.lack ≡ false → Each t.missing (matched item (Some Match))) → FetchesAt t s → Comes t item (short_told s hash heads)
unfolding short_told
short_told_comes t item s hash heads each f =
    let found = is_orphan heads.refused in
    let sent = search found s heads.locator in
    let none : AsksNone sent = search_asks found s heads.locator in
    let u = seeking found s in
    let there : Outcome = ends (landing hash u) sent in
    by_test (Comes t item) (is_workless heads.refused) (ended reasons.BadBlock s) (cond (is_nil heads.lack) there (asks u sent Match)) (λ _. over_comes t item reasons.BadBlock s)
    (λ _.
    by_test (Comes t item) (is_nil heads.lack) there (asks u sent Match) (λ _. plain_comes t item (landing hash u) sent (lands_fetches t s.fetch s.compact.partial hash f) none)
    (λ lacks. record { fetches = f; sought = each lacks; asked = none_asked t.needed sent none }))

heads_for_comes : (t : Tests) (item : Option Item) (s : SessionState) (short : Option HeaderAndShortIds) (heads : Heads) → Each t.lacks heads.lack → (is_nil heads.lack ≡ false → Each t.missing (matched item (Some Match))) → FetchesAt t s
    → Comes t item (heads_for s item short heads)
heads_for_comes t item s None heads lack each f =
    heads_by_comes t item (with_lacking heads.lack (before_first item) s) heads.refused heads.locator
    (by_test (λ (x : FetchState). Fetches t x s.compact.partial) (remembers s) s.fetch (wanting_all s.fetch heads.lack) (λ _. f) (λ _. all_wanted t s.fetch s.compact.partial heads.lack lack f))
heads_for_comes t item s (Some short) heads lack each f = short_told_comes t item s (block_hash short.header) heads each f

heads_comes : (t : Tests) (item : Option Item) (s : SessionState) (heads : Heads) → Each t.lacks heads.lack → (is_nil heads.lack ≡ false → Each t.missing (matched item (Some Match))) → FetchesAt t s → Comes t item (heads_told s item heads)
unfolding heads_told
heads_comes t item s heads lack each f = heads_for_comes t item s (short_in item) heads lack each f

-- what lacks transactions has the header of the compact block
abbrev pub IsUnder : HeaderAndShortIds → Rebuilt → Type 0
IsUnder short (rebuilts.Lacking partial request) = partial.header ≡ short.header
IsUnder short other = Unit {0}

whole_under : (short : HeaderAndShortIds) (block : Block) → IsUnder short (whole_of block)
unfolding whole_of
whole_under short block = by_test (IsUnder short) (is_sound_block block) (rebuilts.Sound block) rebuilts.Useless (λ _. tt) (λ _. tt)

told_under : (short : HeaderAndShortIds) (unfilled : Unfilled) (places : List ℕ) → unfilled.header ≡ short.header → IsUnder short (told_by unfilled places)
told_under short unfilled [] same = whole_under short (block_with unfilled [])
told_under short unfilled (place ∷ others) same = same

rebuilt_under : (short : HeaderAndShortIds) (pairs : List Pair) → IsUnder short (rebuilt_of short pairs)
unfolding rebuilt_of unfilled_of
rebuilt_under short pairs =
    let unfilled = unfilled_of short pairs in
    by_test (IsUnder short) (are_different short.txs.ids) (told_by unfilled (missing 0 unfilled.slots)) rebuilts.Useless (λ _. told_under short unfilled (missing 0 unfilled.slots) refl) (λ _. tt)

rebuilt_comes : (t : Tests) (item : Option Item) (s : SessionState) (short : HeaderAndShortIds) (rebuilt : Rebuilt) → IsUnder short rebuilt → Each t.missing (block_hash short.header ∷ []) → FetchesAt t s
    → Comes t item (rebuilt_by s short.header rebuilt)
rebuilt_comes t item s short (rebuilts.Sound block) under each f = gives_comes t item s block f
rebuilt_comes t item s short (rebuilts.Lacking partial request) under each f =
    let own : Each t.missing (rebuilding (Some partial)) = subst (λ (header : Header). Each t.missing (block_hash header ∷ [])) (sym under) each in
    plain_comes t item (with_partial (Some partial) s) (asking_txs request ∷ []) (with_rebuilding t s.fetch s.compact.partial (Some partial) own f) (λ _. refl)
rebuilt_comes t item s short rebuilts.Useless under each f = falls_back_comes t item s (block_hash short.header) short.header.prev each f

paired_comes : (t : Tests) (item : Option Item) (s : SessionState) (short : Option HeaderAndShortIds) (pairs : List Pair) → Each t.missing (short_hashes short) → FetchesAt t s → Comes t item (paired s short pairs)
paired_comes t item s None pairs each f = record { fetches = f; sought = none_each t.missing; asked = silent t }
paired_comes t item s (Some short) pairs each f =
    by_test (Comes t item) (has_places short.txs) (rebuilt_by s short.header (rebuilt_of short pairs)) (ended reasons.BadMessage s)
    (λ _. rebuilt_comes t item s short (rebuilt_of short pairs) (rebuilt_under short pairs) each f) (λ _. over_comes t item reasons.BadMessage s)

pairs_comes : (t : Tests) (item : Option Item) (s : SessionState) (pairs : List Pair) → Each t.missing (matched item (Some Match)) → FetchesAt t s → Comes t item (pairs_told s item pairs)
unfolding pairs_told
pairs_comes t item s pairs each f = paired_comes t item s (short_in item) pairs each f

taken_comes : (t : Tests) (item : Option Item) (s : SessionState) (header : Option Header) (refused : Option Fault) (locator : List Hash256) → (is_orphan refused ≡ true → (of : Header) → header ≡ Some of → Each t.lacks (block_hash of ∷ [])) → FetchesAt t s → Comes t item (taken_told s header refused locator)
unfolding taken_told
taken_comes t item s header None locator lack f = quiet_comes t item s f
taken_comes t item s header (Some faults.Known) locator lack f = quiet_comes t item s f
taken_comes t item s header (Some faults.NoParent) locator lack f = orphaned_comes t item s header locator (lack refl) f
taken_comes t item s header (Some other) locator lack f = over_comes t item reasons.BadBlock s

given_comes : (t : Tests) (item : Option Item) (s : SessionState) (header : Header) (refused : Option Fault) (locator : List Hash256) → (is_orphan refused ≡ true → Each t.lacks (block_hash header ∷ [])) → FetchesAt t s → Comes t item (given_told s header refused locator)
unfolding given_told
given_comes t item s header refused locator lack f =
    by_test (Comes t item) (is_orphan refused) (orphaned s (Some header) locator) (ends s [])
    (λ orphan. orphaned_comes t item s (Some header) locator (λ of is. subst (λ (h : Header). Each t.lacks (block_hash h ∷ [])) (some_header header of is) (lack orphan)) f) (λ _. quiet_comes t item s f)
  where
    some_header : (a b : Header) → Some a ≡ Some b → a ≡ b
    some_header a b e = cc

excerpt_comes : (t : Tests) (item : Option Item) (s : SessionState) (excerpt : Excerpt) → FetchesAt t s → Comes t item (excerpt_answered s excerpt)
unfolding excerpt_answered
excerpt_comes t item s (excerpts.Refused fault) f = over_comes t item reasons.BadRequest s
excerpt_comes t item s other f = plain_comes t item s (excerpt_told other) f (λ hash. excerpt_none (asks_for_block hash) other (rare hash))

served_comes : (t : Tests) (item : Option Item) (s : SessionState) (pieces : List Piece) → FetchesAt t s → Comes t item (served_told s pieces)
unfolding served_told
served_comes t item s pieces f = plain_comes t item (with_made (shorts pieces) s) (served (next_nonce s) pieces) f (λ hash. served_none (asks_for_block hash) (next_nonce s) pieces (rare hash) (λ _. refl))

need_comes : (t : Tests) (item : Option Item) (s : SessionState) (need : Need) → FetchesAt t s → Comes t item (need_told s need)
unfolding need_told
need_comes t item s need f = plain_comes t item (seeking (list_any is_block need.entries) s) _ f (need_asks s need)

wanted_comes : (t : Tests) (item : Option Item) (s : SessionState) (need : Need) → Each t.needed (blocks_in need.entries) → Each t.lacks (blocks_in need.entries) → FetchesAt t s → Comes t item (wanted_told s need)
unfolding wanted_told
wanted_comes t item s need needs lack f =
    let taken = all_taken t _ s.compact.partial (blocks_in need.entries) needs lack (with_rebuilding t _ None s.compact.partial f.rebuilt (idle_fetches t)) in
    record { fetches = taken; sought = none_each t.missing; asked = requests_ask t.needed (need.near && s.peer.capable) (taken_on (blocks_in need.entries)).flight taken.flight }

news_comes : (t : Tests) (item : Option Item) (s : SessionState) (news : News) → FetchesAt t s → Comes t item (news_told s item news)
unfolding news_told
news_comes t item s news f =
    let sent = (tip_told s news ++ txs_told s item news.txids) ++ wish_told s news.high in
    record { fetches = f; sought = none_each t.missing; asked = none_asked t.needed sent (λ hash. news_none (asks_for_block hash) s item news (rare hash) (λ _. refl) (λ _. refl)) }

-- ---- what an answer tells

-- what an answer to a question tells is so
pub record Tells (t : Tests) (question : Question) (answer : Answer) : Type 0 where
  pub needed : Each t.needed (needed_in question answer)
  pub lacks : Each t.lacks (lacking_of question answer)
  pub missing : Each t.missing (missing_in question answer)

heads_lack : (t : Tests) (question : Question) (heads : Heads) → fits question (answers.Heads heads) ≡ true → Tells t question (answers.Heads heads) → Each t.lacks heads.lack
heads_lack t (questions.Headers headers) heads fit tells = tells.lacks
heads_lack t question heads fit tells = absurd cc

-- the question about a compact block is about its header alone
short_missing : (t : Tests) (q : SessionState) (item : Option Item) (subject : Subject) (heads : Heads) → fits (about subject q item) (answers.Heads heads) ≡ true → Tells t (about subject q item) (answers.Heads heads) → is_nil heads.lack ≡ false
    → Each t.missing (matched item (Some Match))
short_missing t q (Some (Good (messages.CmpctBlock short))) subjects.Headers heads fit tells lacks = subst (λ (b : Bool). Each t.missing (cond b [] (block_hash short.header ∷ []))) lacks tells.missing
short_missing t q (Some (Good (messages.CmpctBlock short))) subject heads fit tells lacks = absurd cc
short_missing t q item subject heads fit tells lacks = none_each t.missing

-- a block that came whole before its parent lacks
orphan_lacks : (t : Tests) (q : SessionState) (item : Option Item) (subject : Subject) (taken : Taken) (of : Header) → fits (about subject q item) (answers.Taken taken) ≡ true → Tells t (about subject q item) (answers.Taken taken) → is_orphan taken.refused ≡ true → header_in item ≡ Some of
    → Each t.lacks (block_hash of ∷ [])
orphan_lacks t q (Some (Good (messages.Block block))) subjects.Block taken of fit tells orphan is =
    let same_header : block.header ≡ of = some_of block.header of is in
    subst (λ (h : Header). Each t.lacks (block_hash h ∷ [])) same_header (subst (λ (b : Bool). Each t.lacks (cond b (block_hash block.header ∷ []) [])) orphan tells.lacks)
  where
    some_of : (a b : Header) → Some a ≡ Some b → a ≡ b
    some_of a b e = cc
orphan_lacks t q (Some (Good (messages.Block block))) subject taken of fit tells orphan is = absurd cc
orphan_lacks t q item subject taken of fit tells orphan is = absurd cc

-- an answer that fits
replied_comes : (t : Tests) (q s : SessionState) (item : Option Item) (stage : Stage) (answer : Answer) → fits (question_of q item stage) answer ≡ true → Tells t (question_of q item stage) answer → Each t.missing (matched item (Some stage))
    → FetchesAt t s → Comes t item (replied s item stage answer)
unfolding replied
replied_comes t q s item stage answers.Kicked fit tells each f = over_comes t item reasons.Kicked s
replied_comes t q s item Admit answers.Go fit tells each f = processed_comes t s item f
replied_comes t q s item (About subject) (answers.Heads heads) fit tells each f =
    heads_comes t item s heads (heads_lack t (question_of q item (About subject)) heads fit tells) (short_missing t q item subject heads fit tells) f
replied_comes t q s item (About subject) (answers.Locator locator) fit tells each f = unless_comes t item s s (asking_headers locator ∷ []) f (λ _. refl)
replied_comes t q s item (About subject) (answers.Need need) fit tells each f = need_comes t item s need f
replied_comes t q s item (About subject) (answers.TxTaken refused) fit tells each f = quiet_comes t item s f
replied_comes t q s item (About subject) (answers.Taken taken) fit tells each f =
    taken_comes t item s (header_in item) taken.refused taken.locator (λ orphan of is. orphan_lacks t q item subject taken of fit tells orphan is) f
replied_comes t q s item (About subject) (answers.Served pieces) fit tells each f = served_comes t item s pieces f
replied_comes t q s item (About subject) (answers.Following headers) fit tells each f = plain_comes t item s (messages.Headers headers ∷ []) f (λ _. refl)
replied_comes t q s item (About subject) (answers.Excerpt excerpt) fit tells each f = excerpt_comes t item s excerpt f
replied_comes t q s item Match (answers.Pairs pairs) fit tells each f = pairs_comes t item s pairs each f
replied_comes t q s item (Give block) (answers.Taken taken) fit tells each f =
    given_comes t item s block.header taken.refused taken.locator (λ orphan. subst (λ (b : Bool). Each t.lacks (cond b (block_hash block.header ∷ []) [])) orphan tells.lacks) f
replied_comes t q s item Wanted (answers.Need need) fit tells each f = wanted_comes t item s need tells.needed tells.lacks f
replied_comes t q s item Fresh (answers.News news) fit tells each f = news_comes t item s news f
replied_comes t q s item stage other fit tells each f = record { fetches = f; sought = none_each t.missing; asked = silent t }

pub answered_comes : (t : Tests) (q s : SessionState) (item : Option Item) (stage : Stage) (answer : Answer) → fits (question_of q item stage) answer ≡ true → Tells t (question_of q item stage) answer → Each t.missing (matched item (Some stage))
    → FetchesAt t s → Comes t item (answered s item stage answer)
unfolding answered
answered_comes t q s item stage answer fit tells each f =
    let outcome = replied s item stage answer in
    let comes = replied_comes t q s item stage answer fit tells each f in
    resuming_cases (Comes t item) outcome comes
    (λ last _ _ _. record {
      fetches = comes.fetches;
      sought = comes.sought;
      asked = λ hash e. comes.asked hash (sym (any_more (asks_for_block hash) outcome.messages (last ∷ []) refl) ∙ e);
    })
