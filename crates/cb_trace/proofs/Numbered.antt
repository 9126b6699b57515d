-- Which nonces a session sends compact blocks under, and what it asks for by `sendcmpct`.
use Rattle.std.proofs.Common.{◌≡◌, ℕ, ◌+◌, ◌^◌, Bool, true, false, cond, ◌&&◌, List, [], ◌∷◌, ◌++◌, Option, Some, None, refl, sym, ap, subst, ◌∙◌, append-nil, inl, inr}
use Rattle.std.specs.Prelude.{◌%◌, ◌==◌, Result, Ok, Err, filter_map, int_lt, not, pos}
use Rattle.std.specs.List.{list_any}
use Rattle.std.proofs.lemmas.Bool.{cases_Bool}
use Rattle.std.proofs.lemmas.List.Elements.{filter_map-append}
use Rattle.cb_base.specs.declared.fault.Fault.{Fault}
use Rattle.cb_base.specs.declared.fault.Fault.TheVariants as faults
use Rattle.cb_base.specs.declared.hash.Hash256.{Hash256}
use Rattle.cb_block.specs.declared.block.Block.{Block}
use Rattle.cb_block.specs.declared.header.Header.{Header}
use Rattle.cb_block.specs.Decision.{is_sound_block}
use Rattle.cb_chain.specs.Entries.{block_hash, same}
use Rattle.cb_compact.specs.Slots.{Unfilled}
use Rattle.cb_compact.specs.declared.named_tx.Pair.{Pair}
use Rattle.cb_compact.specs.declared.partial.Filled.{Filled}
use Rattle.cb_compact.specs.declared.partial.Filled.TheVariants as filling
use Rattle.cb_peer_state.specs.Fetching.{asks_now, blocks_in, requests_of, taken_on}
use Rattle.cb_hall.specs.declared.answer.Answer.{Answer}
use Rattle.cb_hall.specs.declared.answer.Answer.TheVariants as answers
use Rattle.cb_wire.specs.declared.block_transactions.BlockTransactions.{BlockTransactions}
use Rattle.cb_wire.specs.declared.compact_block.HeaderAndShortIds.{HeaderAndShortIds}
use Rattle.cb_wire.specs.declared.inventory.Inventory.{Inventory}
use Rattle.cb_wire.specs.declared.requests.CompactRelay.{CompactRelay}
use Rattle.cb_wire.specs.declared.version.Version.{Version}
use Rattle.cb_compact.specs.Completing.{completed_of}
use Rattle.cb_compact.specs.Places.{has_places}
use Rattle.cb_compact.specs.Rebuilding.{rebuilt_of}
use Rattle.cb_compact.specs.Shortening.{shortened_of}
use Rattle.cb_compact.specs.declared.rebuilding.Rebuilt.{Rebuilt}
use Rattle.cb_compact.specs.declared.rebuilding.Rebuilt.TheVariants as rebuilts
use Rattle.cb_state.specs.declared.accepting.Heads.{Heads}
use Rattle.cb_state.specs.declared.news.News.{News}
use Rattle.cb_state.specs.declared.serving.Piece.{Piece}
use Rattle.cb_state.specs.declared.serving_places.Excerpt.{Excerpt}
use Rattle.cb_state.specs.declared.serving_places.Excerpt.TheVariants as excerpts
use Rattle.cb_state.specs.declared.wanting.Need.{Need}
use Rattle.cb_peer_state.specs.Announcing.{announcing}
use Rattle.cb_peer_state.specs.Greeting.{wish, wishes}
use Rattle.cb_peer_state.specs.Inventory.{asking_block, asking_for, asking_headers, asking_txs}
use Rattle.cb_peer_state.specs.Serving.{excerpt_told, nonce_in, nonces_from, nonces_in, served, shorts}
use Rattle.cb_peer_state.proofs.Nonces.{served_nonces}
use Rattle.cb_wire.specs.declared.item.Item.{Item}
use Rattle.cb_wire.specs.declared.item.Item.TheVariants.{Good, Damaged, Bad}
use Rattle.cb_wire.specs.declared.message.Message.{Message}
use Rattle.cb_wire.specs.declared.message.Message.TheVariants as messages
use Rattle.cb_peer_state.specs.declared.stage.Stage.{Stage}
use Rattle.cb_peer_state.specs.declared.stage.Stage.TheVariants.{Admit, About, Match, Give, Wanted, Fresh}
use Rattle.cb_peer_state.specs.declared.stage.Subject.TheVariants as subjects
use Rattle.cb_peer_state.specs.declared.state.CloseReason.{CloseReason}
use Rattle.cb_peer_state.specs.declared.state.CloseReason.TheVariants as reasons
use Rattle.cb_peer_state.specs.declared.state.State.{State}
use Rattle.cb_peer_state.specs.declared.state.State.TheVariants.{Start, Greeted, Ready, Closed}
use Rattle.cb_peer_state.specs.Questions.{is_nil, short_in, told_of}
use Rattle.cb_peer_state.specs.Receiving.{Outcome, asks, brought, by_compact, by_headers, by_phase, completed_by, ended, ends, falls_back, filled_by, given_up, heard_of, sends, in_greeted, in_ready, in_start, introduced, processed, received, short_heard, txs_heard}
use Rattle.cb_peer_state.specs.Replying.{answered, before_first, differ, excerpt_answered, given_told, heads_by, heads_for, heads_told, is_block, is_untold, is_workless, more_headers, need_told, news_told, paired, pairs_told, rebuilt_by, replied, served_told, short_told, taken_told, tip_by, tip_made, tip_told, count_of, tx_request, wanted_told, wish_told, header_in, is_orphan, orphaned, search, txs_told}
use Rattle.cb_peer_state.specs.declared.session_state.SessionState.{SessionState}
use Rattle.cb_peer_state.specs.State.{dropping, is_closed, is_partial, is_ready, landing, next_nonce, unless_remembered, with_fallen, with_fetch, with_lacking, with_made, with_partial, with_resume_from, seeking, with_child, with_unknown}
use Rattle.cb_peer_state.proofs.Cases.{by_test, ends_cases}
use Rattle.cb_peer_state.proofs.Resuming.{resuming_cases}
use Rattle.cb_peer_state.proofs.Behind.{found_more, unless_all, orphaned_cases, search_all}
use Rattle.cb_peer_state.proofs.CompactSteps.{ready_open}
use Rattle.cb_trace.specs.Whole.{high_in, highs_in}
use Rattle.cb_trace.proofs.Quiet.{again_none, IsRare, NoneOf, announcing_none, excerpt_none, greeting_none, more_none, none_of_both, served_none, tip_none, txs_none}

-- ---- compact blocks and wishes among messages

abbrev pub is_short : Message → Bool
is_short (messages.CmpctBlock short) = true
is_short other = false

abbrev pub is_relay : Message → Bool
is_relay (messages.SendCmpct relay) = true
is_relay other = false

-- neither is among the messages
pub record IsPlain (sent : List Message) : Type 0 where
  pub shorts : NoneOf is_short sent
  pub relays : NoneOf is_relay sent

rare_short : IsRare is_short
rare_short =
    record {
      version = λ _. refl;
      verack = refl;
      pong = λ _. refl;
      inv = λ _. refl;
      not_found = λ _. refl;
      get_headers = λ _. refl;
      headers = λ _. refl;
      tx = λ _. refl;
      block = λ _. refl;
      get_txs = λ _. refl;
      block_txs = λ _. refl;
    }

rare_relay : IsRare is_relay
rare_relay =
    record {
      version = λ _. refl;
      verack = refl;
      pong = λ _. refl;
      inv = λ _. refl;
      not_found = λ _. refl;
      get_headers = λ _. refl;
      headers = λ _. refl;
      tx = λ _. refl;
      block = λ _. refl;
      get_txs = λ _. refl;
      block_txs = λ _. refl;
    }

pub no_nonces : (sent : List Message) → NoneOf is_short sent → nonces_in sent ≡ []
no_nonces [] none = refl
no_nonces (messages.CmpctBlock short ∷ sent) none = absurd (let clash : true ≡ false = none in cc)
no_nonces (message ∷ sent) none = no_nonces sent none

pub no_highs : (sent : List Message) → NoneOf is_relay sent → highs_in sent ≡ []
no_highs [] none = refl
no_highs (messages.SendCmpct relay ∷ sent) none = absurd (let clash : true ≡ false = none in cc)
no_highs (message ∷ sent) none = no_highs sent none

silent : IsPlain []
silent = record { shorts = refl; relays = refl }

asking_plain : (entries : List Inventory) → IsPlain (asking_for entries)
asking_plain [] = silent
asking_plain (first ∷ others) = record { shorts = refl; relays = refl }

request_plain : (b : Bool) (message : Message) → IsPlain (message ∷ []) → IsPlain (cond b (message ∷ []) [])
request_plain true message plain = plain
request_plain false message plain = silent

unless_plain : (s : SessionState) (sent : List Message) → IsPlain sent → IsPlain (unless_remembered s sent)
unless_plain s sent plain = unless_all IsPlain s sent silent plain

search_plain : (found : Bool) (s : SessionState) (locator : List Hash256) → IsPlain (search found s locator)
search_plain found s locator = search_all IsPlain found s locator silent (record { shorts = refl; relays = refl })

need_plain : (s : SessionState) (need : Need) → IsPlain (asking_for (filter_map tx_request need.entries) ++ search (list_any is_block need.entries) s need.locator)
need_plain s need =
    let behind : List Message = search (list_any is_block need.entries) s need.locator in
    let first = asking_plain (filter_map tx_request need.entries) in
    let then : IsPlain behind = search_plain (list_any is_block need.entries) s need.locator in
    record {
      shorts = none_of_both is_short (asking_for (filter_map tx_request need.entries)) behind first.shorts then.shorts;
      relays = none_of_both is_relay (asking_for (filter_map tx_request need.entries)) behind first.relays then.relays;
    }

-- ---- what an outcome comes to

-- how the peer was asked to announce blocks, after these wishes
abbrev pub Turns : Bool → List Bool → Bool → Type 0
Turns old [] new = new ≡ old
Turns old (high ∷ []) new = (differ old high ≡ true) × (new ≡ high)
Turns old highs new = ⊥

-- What is sent, and what is kept for compact blocks then: neither a compact block nor a wish is sent; or compact blocks under the next
-- nonces, and behind the handshake a wish that is another one; or the handshake is done, with its own wish; or the session is over.
pub data Plays (s new : SessionState) (sent : List Message) : Type 0 where
  plain : IsPlain sent → new.compact.made ≡ s.compact.made → new.compact.asked_high ≡ s.compact.asked_high → (is_ready s.state ≡ true → is_ready new.state ≡ true) → Plays s new sent
  tells : (count : ℕ) → nonces_in sent ≡ nonces_from (next_nonce s) count → new.compact.made ≡ (s.compact.made + count) % 2 ^ 64 → Turns s.compact.asked_high (highs_in sent) new.compact.asked_high → (is_ready new.state ≡ false → highs_in sent ≡ [])
      → (is_ready s.state ≡ true → is_ready new.state ≡ true) → Plays s new sent
  greets : s.state ≡ Greeted → new.state ≡ Ready → sent ≡ wishes s.peer.version → new.compact.made ≡ s.compact.made → new.compact.asked_high ≡ s.compact.asked_high → Plays s new sent
  over : sent ≡ [] → is_closed new.state ≡ true → Plays s new sent

-- a question that is asked behind the handshake alone
abbrev pub is_late : Option Stage → Bool
is_late (Some Wanted) = true
is_late (Some Fresh) = true
is_late next = false

pub record PlaysAt (s : SessionState) (outcome : Outcome) : Type 0 where
  pub plays : Plays s outcome.session outcome.messages
  pub late : is_late outcome.next ≡ true → is_ready outcome.session.state ≡ true

-- The same before the end of an item, where headers from the remembered one may be requested too.
record RepliesAt (s : SessionState) (outcome : Outcome) : Type 0 where
  plays : Plays s outcome.session outcome.messages
  late : is_late outcome.next ≡ true → is_ready outcome.session.state ≡ true
  again : (hash : Hash256) → outcome.next ≡ Some Fresh → Plays s (with_resume_from None outcome.session) (outcome.messages ++ asking_headers (hash ∷ []) ∷ [])

again_plays : (s new : SessionState) (sent : List Message) (hash : Hash256) → new.state ≡ s.state → is_ready new.state ≡ true → Plays s new sent → Plays s (with_resume_from None new) (sent ++ asking_headers (hash ∷ []) ∷ [])
again_plays s new sent hash state up (plain is made asked ready) =
    plain (record { shorts = again_none is_short sent (hash ∷ []) rare_short is.shorts; relays = again_none is_relay sent (hash ∷ []) rare_relay is.relays }) made asked ready
again_plays s new sent hash state up (tells count nonces made turns early ready) =
    let same : highs_in (sent ++ asking_headers (hash ∷ []) ∷ []) ≡ highs_in sent = found_more high_in sent (hash ∷ []) refl in
    tells count (found_more nonce_in sent (hash ∷ []) refl ∙ nonces) made (subst (λ (highs : List Bool). Turns s.compact.asked_high highs new.compact.asked_high) (sym same) turns) (λ e. same ∙ early e) ready
again_plays s new sent hash state up (greets at to is made asked) = absurd (let clash : Ready ≡ Greeted = sym to ∙ state ∙ at in cc)
again_plays s new sent hash state up (over none closed) = absurd (let clash : true ≡ false = sym closed ∙ ready_open new.state up in cc)

-- another question is next, or none
next_plays : (s : SessionState) (outcome : Outcome) → is_late outcome.next ≡ false → Plays s outcome.session outcome.messages → RepliesAt s outcome
next_plays s outcome early p =
    record {
      plays = p;
      late = λ late. absurd (let clash : false ≡ true = sym early ∙ late in cc);
      again = λ hash news. absurd (let clash : false ≡ true = sym early ∙ ap is_late news in cc);
    }

over_plays : (s old : SessionState) (why : CloseReason) → RepliesAt s (ended why old)
over_plays s old why = next_plays s (ended why old) refl (over refl refl)

ends_plays : (s new : SessionState) (sent : List Message) → new.state ≡ s.state → Plays s new sent → RepliesAt s (ends new sent)
ends_plays s new sent state p =
    ends_cases (RepliesAt s) new sent (λ _. next_plays s (sends new sent) refl p)
    (λ ready _. record { plays = p; late = λ _. ready; again = λ hash news. absurd (let clash : Some Wanted ≡ Some Fresh = news in cc) })
    (λ ready _. record { plays = p; late = λ _. ready; again = λ hash _. again_plays s new sent hash state ready p })

same_plays : (s : SessionState) (sent : List Message) → IsPlain sent → Plays s s sent
same_plays s sent is = plain is refl refl (λ ready. ready)

quiet_end : (s : SessionState) (sent : List Message) → IsPlain sent → RepliesAt s (ends s sent)
quiet_end s sent is = ends_plays s s sent refl (same_plays s sent is)

-- another session of which what is kept for compact blocks is the same
fetch_end : (s new : SessionState) (sent : List Message) → IsPlain sent → new.compact.made ≡ s.compact.made → new.compact.asked_high ≡ s.compact.asked_high → new.state ≡ s.state → RepliesAt s (ends new sent)
fetch_end s new sent is made asked state = ends_plays s new sent state (plain is made asked (λ ready. ap is_ready state ∙ ready))

-- nothing is sent, and a question about something is next, or none
quiet_next : (s new : SessionState) (next : Option Stage) → is_late next ≡ false → new.compact.made ≡ s.compact.made → new.compact.asked_high ≡ s.compact.asked_high → new.state ≡ s.state → RepliesAt s (record { session = new; messages = []; next = next })
quiet_next s new next early made asked state = next_plays s (record { session = new; messages = []; next = next }) early (plain silent made asked (λ ready. ap is_ready state ∙ ready))

-- ---- messages of the peer

introduced_plays : (s : SessionState) (version : Version) → s.state ≡ Start → RepliesAt s (introduced s version)
unfolding introduced
introduced_plays s version at =
    elim (cases_Bool (version.nonce == s.settings.nonce)) [
      | inl own ↦ rw own (over_plays s s reasons.SelfPeer)
      | inr other ↦
          elim (cases_Bool (int_lt version.version (pos 70001))) [
            | inl old ↦ rw (other, old) (over_plays s s reasons.OldPeer)
            | inr new ↦
                rw (other, new)
                (next_plays s _ refl
                (plain (record { shorts = greeting_none is_short s.settings rare_short; relays = greeting_none is_relay s.settings rare_relay }) refl refl
                (λ ready. absurd (let clash : false ≡ true = ap is_ready (sym at) ∙ ready in cc))))
          ]
    ]

start_plays : (s : SessionState) (message : Message) → s.state ≡ Start → RepliesAt s (in_start s message)
unfolding in_start
start_plays s (messages.Version version) at = introduced_plays s version at
start_plays s other at = quiet_next s s None refl refl refl refl

compact_state : (relay : CompactRelay) (s : SessionState) → (by_compact relay s).state ≡ s.state
compact_state relay s = elim (cases_Bool (relay.version == 1)) [ inl one ↦ rw one refl | inr other ↦ rw other refl ]

compact_plays : (relay : CompactRelay) (s : SessionState) → Plays s (by_compact relay s) []
compact_plays relay s = elim (cases_Bool (relay.version == 1)) [ inl one ↦ rw one (plain silent refl refl (λ ready. ready)) | inr other ↦ rw other (same_plays s [] silent) ]

greeted_plays : (s : SessionState) (message : Message) → s.state ≡ Greeted → RepliesAt s (in_greeted s message)
unfolding in_greeted
greeted_plays s messages.Verack at = next_plays s _ refl (greets at refl refl refl refl)
greeted_plays s messages.SendHeaders at = quiet_next s (by_headers s) None refl refl refl refl
greeted_plays s (messages.SendCmpct relay) at = next_plays s _ refl (compact_plays relay s)
greeted_plays s other at = quiet_next s s None refl refl refl refl

brought_plays : (s : SessionState) (block : Block) → RepliesAt s (brought s block)
unfolding brought
brought_plays s block =
    let hash = block_hash block.header in
    by_test (RepliesAt s) (is_sound_block block) (asks (heard_of hash (dropping hash (landing hash s))) [] (About subjects.Block)) (ended reasons.BadBlock s)
    (λ _.
    elim (cases_Bool (is_partial hash s.compact.partial)) [
      | inl is ↦ rw is (quiet_next s _ (Some (About subjects.Block)) refl refl refl refl)
      | inr isnt ↦ rw isnt (quiet_next s _ (Some (About subjects.Block)) refl refl refl refl)
    ])
    (λ _. over_plays s s reasons.BadBlock)

falls_back_plays : (s new : SessionState) (hash before : Hash256) → new.compact.made ≡ s.compact.made → new.compact.asked_high ≡ s.compact.asked_high → new.state ≡ s.state → RepliesAt s (falls_back new hash before)
unfolding falls_back
falls_back_plays s new hash before made asked state =
    fetch_end s (with_fallen hash before new) (cond (asks_now new.fetch hash) (asking_block hash ∷ []) []) (request_plain (asks_now new.fetch hash) (asking_block hash) (record { shorts = refl; relays = refl })) made asked state

short_plays : (s : SessionState) (short : HeaderAndShortIds) → RepliesAt s (short_heard s short)
unfolding short_heard
short_plays s short =
    by_test (RepliesAt s) (has_places short.txs) (asks (heard_of (block_hash short.header) s) [] (About subjects.Headers)) (ended reasons.BadMessage s) (λ _. quiet_next s (heard_of (block_hash short.header) s) (Some (About subjects.Headers)) refl refl refl refl)
    (λ _. over_plays s s reasons.BadMessage)

filled_plays : (s : SessionState) (hash before : Hash256) (filled : Result Filled Fault) → RepliesAt s (filled_by (with_partial None s) hash before filled)
filled_plays s hash before (Ok (filling.Sound block)) = quiet_next s _ (Some (Give block)) refl refl refl refl
filled_plays s hash before (Ok filling.Wrong) = falls_back_plays s (with_partial None s) hash before refl refl refl
filled_plays s hash before (Err fault) = over_plays s (with_partial None s) reasons.BadMessage

completed_plays : (s : SessionState) (given : BlockTransactions) (partial : Option Unfilled) → RepliesAt s (completed_by s given partial)
completed_plays s given None = quiet_end s [] silent
completed_plays s given (Some partial) =
    by_test (RepliesAt s) (same (block_hash partial.header) given.block) (filled_by (with_partial None s) given.block partial.header.prev (completed_of partial given)) (ends s [])
    (λ _. filled_plays s given.block partial.header.prev (completed_of partial given)) (λ _. quiet_end s [] silent)

txs_plays : (s : SessionState) (given : BlockTransactions) → RepliesAt s (txs_heard s given)
unfolding txs_heard
txs_plays s given = completed_plays s given s.compact.partial

ready_plays : (s : SessionState) (message : Message) → RepliesAt s (in_ready s message)
unfolding in_ready
ready_plays s messages.SendHeaders = fetch_end s (by_headers s) [] silent refl refl refl
ready_plays s (messages.SendCmpct relay) = ends_plays s (by_compact relay s) [] (compact_state relay s) (compact_plays relay s)
ready_plays s (messages.Headers []) = fetch_end s (with_unknown false s) [] silent refl refl refl
ready_plays s (messages.Headers (first ∷ others)) = quiet_next s _ (Some (About subjects.Headers)) refl refl refl refl
ready_plays s (messages.Inv entries) =
    by_test (RepliesAt s) (is_nil (told_of entries)) (ends s []) (asks s [] (About subjects.Inventory)) (λ _. quiet_end s [] silent) (λ _. quiet_next s s (Some (About subjects.Inventory)) refl refl refl refl)
ready_plays s (messages.GetData entries) = quiet_next s s (Some (About subjects.Items)) refl refl refl refl
ready_plays s (messages.GetHeaders request) = quiet_next s s (Some (About subjects.After)) refl refl refl refl
ready_plays s (messages.NotFound entries) = fetch_end s (with_fetch (given_up entries s.fetch) s) [] silent refl refl refl
ready_plays s (messages.Tx tx) = quiet_next s s (Some (About subjects.Tx)) refl refl refl refl
ready_plays s (messages.Block block) = brought_plays s block
ready_plays s (messages.CmpctBlock short) = short_plays s short
ready_plays s (messages.GetBlockTxn request) = quiet_next s s (Some (About subjects.Places)) refl refl refl refl
ready_plays s (messages.BlockTxn given) = txs_plays s given
ready_plays s other = quiet_end s [] silent

phase_plays : (state : State) (s : SessionState) (message : Message) → s.state ≡ state → RepliesAt s (by_phase state s message)
phase_plays Start s message at = start_plays s message at
phase_plays Greeted s message at = greeted_plays s message at
phase_plays Ready s message at = ready_plays s message
phase_plays (Closed why) s message at = quiet_next s s None refl refl refl refl

received_plays : (s : SessionState) (message : Message) → RepliesAt s (received s message)
unfolding received
received_plays s (messages.Ping nonce) = quiet_end s (messages.Pong nonce ∷ []) (record { shorts = refl; relays = refl })
received_plays s other = phase_plays s.state s other refl

processed_plays : (s : SessionState) (item : Option Item) → RepliesAt s (processed s item)
unfolding processed
processed_plays s None = quiet_end s [] silent
processed_plays s (Some (Good message)) = received_plays s message
processed_plays s (Some Damaged) = quiet_end s [] silent
processed_plays s (Some (Bad command fault)) = over_plays s s reasons.BadMessage

-- ---- answers

headers_asked : (locator : List Hash256) → IsPlain (asking_headers locator ∷ [])
headers_asked locator = record { shorts = refl; relays = refl }

heads_by_plays : (s new : SessionState) (item : Option Item) (refused : Option Fault) (locator : List Hash256) → new.compact.made ≡ s.compact.made → new.compact.asked_high ≡ s.compact.asked_high → new.state ≡ s.state → RepliesAt s (heads_by new item refused locator)
heads_by_plays s new item (Some faults.BadWork) locator made asked state = over_plays s new reasons.BadBlock
heads_by_plays s new item (Some faults.NoParent) locator made asked state = fetch_end s (seeking true new) (search true new locator) (search_plain true new locator) made asked state
heads_by_plays s new item (Some other) locator made asked state = fetch_end s (with_unknown false new) [] silent made asked state
heads_by_plays s new item None locator made asked state =
    fetch_end s (with_unknown false new) (unless_remembered new (more_headers item)) (unless_plain new (more_headers item) (record { shorts = more_none is_short item rare_short; relays = more_none is_relay item rare_relay })) made asked state

short_told_plays : (s : SessionState) (hash : Hash256) (heads : Heads) → RepliesAt s (short_told s hash heads)
unfolding short_told
short_told_plays s hash heads =
    let found = is_orphan heads.refused in
    let sent = search found s heads.locator in
    let is = search_plain found s heads.locator in
    let t = seeking found s in
    let there : Outcome = ends (landing hash t) sent in
    by_test (RepliesAt s) (is_workless heads.refused) (ended reasons.BadBlock s) (cond (is_nil heads.lack) there (asks t sent Match)) (λ _. over_plays s s reasons.BadBlock)
    (λ _. by_test (RepliesAt s) (is_nil heads.lack) there (asks t sent Match) (λ _. fetch_end s (landing hash t) sent is refl refl refl) (λ _. next_plays s (asks t sent Match) refl (plain is refl refl (λ ready. ready))))

heads_for_plays : (s : SessionState) (item : Option Item) (short : Option HeaderAndShortIds) (heads : Heads) → RepliesAt s (heads_for s item short heads)
heads_for_plays s item None heads = heads_by_plays s (with_lacking heads.lack (before_first item) s) item heads.refused heads.locator refl refl refl
heads_for_plays s item (Some short) heads = short_told_plays s (block_hash short.header) heads

heads_plays : (s : SessionState) (item : Option Item) (heads : Heads) → RepliesAt s (heads_told s item heads)
unfolding heads_told
heads_plays s item heads = heads_for_plays s item (short_in item) heads

rebuilt_plays : (s : SessionState) (header : Header) (rebuilt : Rebuilt) → RepliesAt s (rebuilt_by s header rebuilt)
rebuilt_plays s header (rebuilts.Sound block) = quiet_next s _ (Some (Give block)) refl refl refl refl
rebuilt_plays s header (rebuilts.Lacking partial request) = fetch_end s (with_partial (Some partial) s) (asking_txs request ∷ []) (record { shorts = refl; relays = refl }) refl refl refl
rebuilt_plays s header rebuilts.Useless = falls_back_plays s s (block_hash header) header.prev refl refl refl

paired_plays : (s : SessionState) (short : Option HeaderAndShortIds) (pairs : List Pair) → RepliesAt s (paired s short pairs)
paired_plays s None pairs = quiet_next s s None refl refl refl refl
paired_plays s (Some short) pairs =
    by_test (RepliesAt s) (has_places short.txs) (rebuilt_by s short.header (rebuilt_of short pairs)) (ended reasons.BadMessage s)
    (λ _. rebuilt_plays s short.header (rebuilt_of short pairs)) (λ _. over_plays s s reasons.BadMessage)

pairs_plays : (s : SessionState) (item : Option Item) (pairs : List Pair) → RepliesAt s (pairs_told s item pairs)
unfolding pairs_told
pairs_plays s item pairs = paired_plays s (short_in item) pairs

orphaned_plays : (s : SessionState) (header : Option Header) (locator : List Hash256) → RepliesAt s (orphaned s header locator)
orphaned_plays s header locator =
    orphaned_cases (RepliesAt s) s header locator (fetch_end s (seeking true s) (search true s locator) (search_plain true s locator) refl refl refl)
    (λ of _ _. fetch_end s (with_child (block_hash of) of.prev s) [] silent refl refl refl)

taken_plays : (s : SessionState) (header : Option Header) (refused : Option Fault) (locator : List Hash256) → RepliesAt s (taken_told s header refused locator)
unfolding taken_told
taken_plays s header None locator = quiet_end s [] silent
taken_plays s header (Some faults.Known) locator = quiet_end s [] silent
taken_plays s header (Some faults.NoParent) locator = orphaned_plays s header locator
taken_plays s header (Some other) locator = over_plays s s reasons.BadBlock

given_plays : (s : SessionState) (header : Header) (refused : Option Fault) (locator : List Hash256) → RepliesAt s (given_told s header refused locator)
unfolding given_told
given_plays s header refused locator =
    by_test (RepliesAt s) (is_orphan refused) (orphaned s (Some header) locator) (ends s []) (λ _. orphaned_plays s (Some header) locator) (λ _. quiet_end s [] silent)

excerpt_plays : (s : SessionState) (excerpt : Excerpt) → RepliesAt s (excerpt_answered s excerpt)
unfolding excerpt_answered
excerpt_plays s (excerpts.Refused fault) = over_plays s s reasons.BadRequest
excerpt_plays s other = quiet_end s (excerpt_told other) (record { shorts = excerpt_none is_short other rare_short; relays = excerpt_none is_relay other rare_relay })

need_plays : (s : SessionState) (need : Need) → RepliesAt s (need_told s need)
unfolding need_told
need_plays s need =
    let found = list_any is_block need.entries in
    fetch_end s (seeking found s) (asking_for (filter_map tx_request need.entries) ++ search found s need.locator) (need_plain s need) refl refl refl

-- no wish is sent
no_turn : (high : Bool) (highs : List Bool) → highs ≡ [] → Turns high highs high
no_turn high [] e = refl
no_turn high (first ∷ others) e = absurd cc

served_plays : (s : SessionState) (pieces : List Piece) → RepliesAt s (served_told s pieces)
unfolding served_told
served_plays s pieces =
    let sent = served (next_nonce s) pieces in
    let none = no_highs sent (served_none is_relay (next_nonce s) pieces rare_relay (λ _. refl)) in
    ends_plays s (with_made (shorts pieces) s) sent refl (tells (shorts pieces) (served_nonces (next_nonce s) pieces) refl (no_turn s.compact.asked_high (highs_in sent) none) (λ _. none) (λ ready. ready))

form_nonce : (block : Block) (nonce : ℕ) → (shortened_of block nonce).nonce ≡ nonce
unfolding shortened_of
form_nonce block nonce = refl

tip_by_nonces : (s : SessionState) (news : News) (block : Option Block) → nonces_in (tip_by s news block) ≡ nonces_from (next_nonce s) (count_of block)
tip_by_nonces s news None =
    no_nonces (announcing (s.peer.by_headers && not news.long) news.tip news.path) (announcing_none is_short (s.peer.by_headers && not news.long) news.tip news.path rare_short)
tip_by_nonces s news (Some block) = ap (λ (n : ℕ). n ∷ []) (form_nonce block (next_nonce s))

tip_nonces : (s : SessionState) (news : News) → nonces_in (tip_told s news) ≡ nonces_from (next_nonce s) (tip_made s news)
tip_nonces s news = elim (cases_Bool (is_untold s news)) [ inl untold ↦ rw untold refl | inr new ↦ rw new (tip_by_nonces s news news.block) ]

wish_nonces : (s : SessionState) (high : Bool) → nonces_in (wish_told s high) ≡ []
wish_nonces s high = elim (cases_Bool (s.peer.capable && differ high s.compact.asked_high)) [ inl wished ↦ rw wished refl | inr quiet ↦ rw quiet refl ]

-- a wish is another one than before
wish_turns : (capable high asked : Bool) → Turns asked (highs_in (cond (capable && differ high asked) (wish high ∷ []) [])) (cond capable high asked)
wish_turns false high asked = refl
wish_turns true true true = refl
wish_turns true true false = (refl, refl)
wish_turns true false true = (refl, refl)
wish_turns true false false = refl

news_plays : (s : SessionState) (item : Option Item) (news : News) → is_ready s.state ≡ true → RepliesAt s (news_told s item news)
unfolding news_told
news_plays s item news ready =
    let tip = tip_told s news in
    let txs = txs_told s item news.txids in
    let asked = wish_told s news.high in
    let nonces : nonces_in ((tip ++ txs) ++ asked) ≡ nonces_from (next_nonce s) (tip_made s news) =
    filter_map-append nonce_in (tip ++ txs) asked
    ∙ ap (λ (l : List ℕ). l ++ nonces_in asked) (filter_map-append nonce_in tip txs)
    ∙ ap (λ (l : List ℕ). (nonces_in tip ++ l) ++ nonces_in asked) (no_nonces txs (txs_none is_short s item news.txids rare_short))
    ∙ ap (λ (l : List ℕ). (nonces_in tip ++ []) ++ l) (wish_nonces s news.high)
    ∙ append-nil (nonces_in tip ++ [])
    ∙ append-nil (nonces_in tip)
    ∙ tip_nonces s news in
    let highs : highs_in ((tip ++ txs) ++ asked) ≡ highs_in asked =
    filter_map-append high_in (tip ++ txs) asked
    ∙ ap (λ (l : List Bool). l ++ highs_in asked)
    (no_highs (tip ++ txs) (none_of_both is_relay tip txs (tip_none is_relay s news rare_relay (λ _. refl)) (txs_none is_relay s item news.txids rare_relay))) in
    next_plays s _ refl
    (tells (tip_made s news) nonces refl (rw highs (wish_turns s.peer.capable news.high s.compact.asked_high)) (λ early. absurd (let clash : true ≡ false = sym ready ∙ early in cc)) (λ r. r))

-- an answer, to whatever it is one
replied_plays : (s : SessionState) (item : Option Item) (stage : Stage) (answer : Answer) → (is_late (Some stage) ≡ true → is_ready s.state ≡ true) → RepliesAt s (replied s item stage answer)
unfolding replied wanted_told
replied_plays s item stage answers.Kicked late = over_plays s s reasons.Kicked
replied_plays s item Admit answers.Go late = processed_plays s item
replied_plays s item (About subject) (answers.Heads heads) late = heads_plays s item heads
replied_plays s item (About subject) (answers.Locator locator) late = quiet_end s (unless_remembered s (asking_headers locator ∷ [])) (unless_plain s (asking_headers locator ∷ []) (headers_asked locator))
replied_plays s item (About subject) (answers.Need need) late = need_plays s need
replied_plays s item (About subject) (answers.TxTaken refused) late = quiet_end s [] silent
replied_plays s item (About subject) (answers.Taken taken) late = taken_plays s (header_in item) taken.refused taken.locator
replied_plays s item (About subject) (answers.Served pieces) late = served_plays s pieces
replied_plays s item (About subject) (answers.Following headers) late = quiet_end s (messages.Headers headers ∷ []) (record { shorts = refl; relays = refl })
replied_plays s item (About subject) (answers.Excerpt excerpt) late = excerpt_plays s excerpt
replied_plays s item Match (answers.Pairs pairs) late = pairs_plays s item pairs
replied_plays s item (Give block) (answers.Taken taken) late = given_plays s block.header taken.refused taken.locator
replied_plays s item Wanted (answers.Need need) late =
    let ready = late refl in
    let fetch = taken_on (blocks_in need.entries) in
    let sent = asking_for (requests_of (need.near && s.peer.capable) fetch.flight) in
    let p : Plays s (with_fetch fetch s) sent = plain (asking_plain (requests_of (need.near && s.peer.capable) fetch.flight)) refl refl (λ r. r) in
    record { plays = p; late = λ _. ready; again = λ hash _. again_plays s (with_fetch fetch s) sent hash refl ready p }
replied_plays s item Fresh (answers.News news) late = news_plays s item news (late refl)
replied_plays s item stage other late = quiet_next s s None refl refl refl refl

pub answered_plays : (s : SessionState) (item : Option Item) (stage : Stage) (answer : Answer) → (is_late (Some stage) ≡ true → is_ready s.state ≡ true) → PlaysAt s (answered s item stage answer)
unfolding answered
answered_plays s item stage answer late =
    let outcome = replied s item stage answer in
    let at = replied_plays s item stage answer late in
    resuming_cases (PlaysAt s) outcome (record { plays = at.plays; late = at.late }) (λ hash news _ _. record { plays = at.again hash news; late = at.late })
