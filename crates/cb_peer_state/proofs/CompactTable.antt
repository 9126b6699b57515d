-- What a message or an answer does to what a session keeps for compact blocks, as a table.
use Rattle.std.proofs.Common.{◌≡◌, ◌∙◌, ℕ, ◌+◌, ◌^◌, Bool, true, false, cond, List, [], ◌∷◌, ◌++◌, Option, Some, None, Ok, Err, Result, length, refl, sym, ap, subst, arith}
use Rattle.std.specs.Prelude.{◌%◌, ◌&&◌, ◌==◌, pos, not, filter_map, int_lt}
use Rattle.std.proofs.lemmas.Bool.{and_parts}
use Rattle.std.specs.List.{list_any}
use Rattle.std.proofs.lemmas.List.{append-nil}
use Rattle.std.proofs.lemmas.List.Elements.{filter_map-append}
use Rattle.std.proofs.Math.Nat.{add-mod-mod, mod-add-mod}
use Rattle.cb_base.specs.declared.fault.Fault.{Fault}
use Rattle.cb_base.specs.declared.fault.Fault.TheVariants as faults
use Rattle.cb_base.specs.declared.hash.Hash256.{Hash256}
use Rattle.cb_block.specs.declared.block.Block.{Block}
use Rattle.cb_block.specs.declared.header.Header.{Header}
use Rattle.cb_block.specs.Decision.{is_sound_block}
use Rattle.cb_chain.specs.Entries.{block_hash, same}
use Rattle.cb_compact.specs.Slots.{Unfilled}
use Rattle.cb_compact.specs.declared.named_tx.Pair.{Pair}
use Rattle.cb_compact.specs.declared.partial.Filled.{Filled}
use Rattle.cb_compact.specs.declared.partial.Filled.TheVariants as filling
use Rattle.cb_peer_state.specs.Fetching.{asks_now, blocks_in, requests_of, taken_on}
use Rattle.cb_hall.specs.declared.answer.Answer.{Answer}
use Rattle.cb_hall.specs.declared.answer.Answer.TheVariants as answers
use Rattle.cb_wire.specs.declared.block_transactions.BlockTransactions.{BlockTransactions}
use Rattle.cb_wire.specs.declared.block_transactions.BlockTransactionsRequest.{BlockTransactionsRequest}
use Rattle.cb_wire.specs.declared.compact_block.HeaderAndShortIds.{HeaderAndShortIds}
use Rattle.cb_wire.specs.declared.inventory.Inventory.{Inventory}
use Rattle.cb_wire.specs.declared.requests.CompactRelay.{CompactRelay}
use Rattle.cb_wire.specs.declared.version.Version.{Version}
use Rattle.cb_compact.specs.Completing.{completed_of}
use Rattle.cb_compact.specs.Places.{has_places}
use Rattle.cb_compact.specs.Rebuilding.{rebuilt_of}
use Rattle.cb_compact.specs.Shortening.{shortened_of}
use Rattle.cb_compact.specs.declared.rebuilding.Rebuilt.{Rebuilt}
use Rattle.cb_compact.specs.declared.rebuilding.Rebuilt.TheVariants as rebuilts
use Rattle.cb_state.specs.declared.accepting.Heads.{Heads}
use Rattle.cb_state.specs.declared.news.News.{News}
use Rattle.cb_state.specs.declared.serving.Piece.{Piece}
use Rattle.cb_state.specs.declared.serving.Piece.TheVariants as piece
use Rattle.cb_state.specs.declared.serving_places.Excerpt.{Excerpt}
use Rattle.cb_state.specs.declared.serving_places.Excerpt.TheVariants as excerpts
use Rattle.cb_state.specs.declared.wanting.Need.{Need}
use Rattle.cb_peer_state.specs.Announcing.{announcing, telling}
use Rattle.cb_peer_state.specs.Greeting.{our_version, wish, wishes}
use Rattle.cb_peer_state.specs.Inventory.{asking_block, asking_for, asking_headers, asking_txs}
use Rattle.cb_peer_state.specs.Serving.{excerpt_told, lacking_in, nonce_in, nonces_from, nonces_in, not_found, sent, served, shorts}
use Rattle.cb_peer_state.proofs.Nonces.{served_nonces}
use Rattle.cb_wire.specs.declared.item.Item.{Item}
use Rattle.cb_wire.specs.declared.item.Item.TheVariants.{Good, Damaged, Bad}
use Rattle.cb_wire.specs.declared.message.Message.{Message}
use Rattle.cb_wire.specs.declared.message.Message.TheVariants as messages
use Rattle.cb_peer_state.specs.Compact.{IsNewWish, brings, high_in, highs_in, request_in, requests_in}
use Rattle.cb_peer_state.specs.declared.session_state.SessionState.{SessionState}
use Rattle.cb_peer_state.specs.declared.settings.Settings.{Settings}
use Rattle.cb_peer_state.specs.declared.stage.Stage.{Stage}
use Rattle.cb_peer_state.specs.declared.stage.Stage.TheVariants.{Admit, About, Match, Give, Wanted, Fresh}
use Rattle.cb_peer_state.specs.declared.stage.Subject.{Subject}
use Rattle.cb_peer_state.specs.declared.stage.Subject.TheVariants as subjects
use Rattle.cb_peer_state.specs.declared.state.CloseReason.{CloseReason}
use Rattle.cb_peer_state.specs.declared.state.CloseReason.TheVariants as reasons
use Rattle.cb_peer_state.specs.declared.state.State.{State}
use Rattle.cb_peer_state.specs.declared.state.State.TheVariants.{Start, Greeted, Ready, Closed}
use Rattle.cb_peer_state.specs.Questions.{is_nil, short_in, told_of}
use Rattle.cb_peer_state.specs.Receiving.{Outcome, asks, brought, by_compact, by_headers, by_phase, completed_by, ended, ends, falls_back, filled_by, given_up, gives, greeting, heard_of, in_greeted, in_ready, in_start, introduced, last_hash, processed, received, sends, short_heard, txs_heard}
use Rattle.cb_peer_state.specs.Replying.{answered, before_first, count_of, differ, excerpt_answered, given_told, heads_by, heads_for, heads_told, high_asked, is_block, is_untold, is_workless, more_behind, more_headers, need_told, news_told, paired, pairs_told, rebuilt_by, replied, resumed, served_told, short_told, taken_told, tip_by, tip_made, tip_told, tx_request, wanted_told, wish_told, without_brought, header_in, is_orphan, orphaned, search, txs_told}
use Rattle.cb_peer_state.specs.State.{dropping, is_closed, is_partial, is_ready, landing, next_nonce, over, unless_remembered, with_asked_high, with_fallen, with_fetch, with_lacking, with_made, with_marks, with_partial, with_peer, with_state, seeking, with_child, with_unknown}
use Rattle.cb_peer_state.specs.Laws.{but_headers}
use Rattle.cb_peer_state.proofs.Resuming.{resuming_cases}
use Rattle.cb_peer_state.proofs.Behind.{but_more, found_more, unless_all, orphaned_cases, search_all}
use Rattle.cb_peer_state.proofs.CompactSteps.{by_test, ends_by}

-- ---- which question an item may lead to

abbrev pub is_headers_subject : Subject → Bool
is_headers_subject subjects.Headers = true
is_headers_subject other = false

abbrev pub about_suits : Subject → Option Item → Bool
about_suits subject (Some (Good (messages.CmpctBlock short))) = is_headers_subject subject && has_places short.txs
about_suits subject (Some (Good (messages.BlockTxn given))) = false
about_suits subject item = true

abbrev pub match_suits : Option Item → Bool
match_suits (Some (Good (messages.CmpctBlock short))) = has_places short.txs
match_suits (Some (Good (messages.BlockTxn given))) = false
match_suits item = true

abbrev pub suits : Stage → Option Item → Bool
suits Admit item = true
suits (About subject) item = about_suits subject item
suits Match item = match_suits item
suits (Give block) item = true
suits Wanted item = true
suits Fresh item = true

abbrev pub next_suits : Option Stage → Option Item → Bool
next_suits None item = true
next_suits (Some stage) item = suits stage item

-- ---- one line of the table. What follows suits its item if what was asked before did (`fine`).

-- what becomes of the block that is being rebuilt
pub data Keeps (s : SessionState) (item : Option Item) (outcome : Outcome) : Type 0 where
  same_one : outcome.session.compact.partial ≡ s.compact.partial → Keeps s item outcome
  is_over : is_closed outcome.session.state ≡ true → Keeps s item outcome
  newer : (partial : Unfilled) (request : BlockTransactionsRequest) → outcome.session.compact.partial ≡ Some partial → but_headers outcome.messages ≡ messages.GetBlockTxn request ∷ [] → Keeps s item outcome
  came : ((partial : Unfilled) → s.compact.partial ≡ Some partial → brings (block_hash partial.header) item ≡ true) → Keeps s item outcome

-- which nonces are used
pub data Counts (s : SessionState) (outcome : Outcome) : Type 0 where
  stopped : is_closed outcome.session.state ≡ true → outcome.messages ≡ [] → outcome.next ≡ None → Counts s outcome
  used : (count : ℕ) → nonces_in outcome.messages ≡ nonces_from (next_nonce s) count → next_nonce outcome.session ≡ (next_nonce s + count) % 2 ^ 64 → Counts s outcome

-- which wishes are told
pub data Tells (s : SessionState) (outcome : Outcome) : Type 0 where
  no_wish : highs_in outcome.messages ≡ [] → Tells s outcome
  one_wish : (high : Bool) → highs_in outcome.messages ≡ high ∷ [] → IsNewWish s outcome.session high → Tells s outcome

-- what is requested for a compact block
pub data Asks (item : Option Item) (outcome : Outcome) : Type 0 where
  no_asking : requests_in outcome.messages ≡ [] → Asks item outcome
  asking : (short : HeaderAndShortIds) (pairs : List Pair) (partial : Unfilled) (request : BlockTransactionsRequest) → short_in item ≡ Some short → rebuilt_of short pairs ≡ rebuilts.Lacking partial request
      → requests_in outcome.messages ≡ request ∷ [] → outcome.session.compact.partial ≡ Some partial → Asks item outcome

pub record Turns (fine : Bool) (s : SessionState) (item : Option Item) (outcome : Outcome) : Type 0 where
  pub suited : fine ≡ true → next_suits outcome.next item ≡ true
  pub keeps : Keeps s item outcome
  pub counts : Counts s outcome
  pub tells : is_ready s.state ≡ true → Tells s outcome
  pub requested : Asks item outcome

-- ---- what is neither a compact block nor a wish

pub record IsPlain (sent : List Message) : Type 0 where
  pub no_nonce : nonces_in sent ≡ []
  pub no_high : highs_in sent ≡ []
  pub no_request : requests_in sent ≡ []

plain_nothing : IsPlain []
plain_nothing = record { no_nonce = refl; no_high = refl; no_request = refl }

plain_both : (first others : List Message) → IsPlain first → IsPlain others → IsPlain (first ++ others)
plain_both first others f o =
    record {
      no_nonce = filter_map-append nonce_in first others ∙ ap (λ (ns : List ℕ). ns ++ nonces_in others) f.no_nonce ∙ o.no_nonce;
      no_high = filter_map-append high_in first others ∙ ap (λ (hs : List Bool). hs ++ highs_in others) f.no_high ∙ o.no_high;
      no_request = filter_map-append request_in first others ∙ ap (λ (rs : List BlockTransactionsRequest). rs ++ requests_in others) f.no_request ∙ o.no_request;
    }

plain_headers : (locator : List Hash256) → IsPlain (asking_headers locator ∷ [])
plain_headers locator = record { no_nonce = refl; no_high = refl; no_request = refl }

plain_for : (entries : List Inventory) → IsPlain (asking_for entries)
plain_for [] = plain_nothing
plain_for (first ∷ others) = record { no_nonce = refl; no_high = refl; no_request = refl }

plain_if : (test : Bool) (sent : List Message) → IsPlain sent → IsPlain (cond test sent [])
plain_if test sent plain = by_test IsPlain test sent [] (λ _. plain) (λ _. plain_nothing)

plain_unless : (s : SessionState) (sent : List Message) → IsPlain sent → IsPlain (unless_remembered s sent)
plain_unless s sent plain = unless_all IsPlain s sent plain_nothing plain

plain_search : (found : Bool) (s : SessionState) (locator : List Hash256) → IsPlain (search found s locator)
plain_search found s locator = search_all IsPlain found s locator plain_nothing (plain_headers locator)

plain_behind : (headers : List Header) → IsPlain (more_behind headers)
plain_behind [] = plain_nothing
plain_behind (first ∷ others) = plain_if (length (first ∷ others) == 2000) (asking_headers (last_hash first others ∷ []) ∷ []) (plain_headers (last_hash first others ∷ []))

plain_more : (item : Option Item) → IsPlain (more_headers item)
plain_more (Some (Good (messages.Headers headers))) = plain_behind headers
plain_more item = plain_nothing

plain_excerpt : (excerpt : Excerpt) → IsPlain (excerpt_told excerpt)
plain_excerpt excerpts.Absent = plain_nothing
plain_excerpt (excerpts.Refused fault) = plain_nothing
plain_excerpt (excerpts.Part part) = record { no_nonce = refl; no_high = refl; no_request = refl }
plain_excerpt (excerpts.Whole block) = record { no_nonce = refl; no_high = refl; no_request = refl }

plain_announcing : (headers : Bool) (tip : Hash256) (path : List Header) → IsPlain (announcing headers tip path)
plain_announcing headers tip [] = plain_nothing
plain_announcing true tip (first ∷ others) = record { no_nonce = refl; no_high = refl; no_request = refl }
plain_announcing false tip (first ∷ others) = record { no_nonce = refl; no_high = refl; no_request = refl }

plain_telling : (txids : List Hash256) → IsPlain (telling txids)
plain_telling [] = plain_nothing
plain_telling (first ∷ others) = record { no_nonce = refl; no_high = refl; no_request = refl }

plain_txs : (s : SessionState) (item : Option Item) (txids : List Hash256) → IsPlain (txs_told s item txids)
plain_txs s item txids = plain_if s.peer.relays (telling (without_brought item txids)) (plain_telling (without_brought item txids))

plain_greeting : (settings : Settings) → IsPlain (greeting settings)
plain_greeting settings =
    by_test IsPlain settings.inbound (our_version settings.nonce settings.time settings.height ∷ messages.Verack ∷ []) (messages.Verack ∷ [])
    (λ _. record { no_nonce = refl; no_high = refl; no_request = refl }) (λ _. record { no_nonce = refl; no_high = refl; no_request = refl })

wishes_nonces : (a b : Bool) (relay : CompactRelay) → nonces_in (cond a [] (messages.SendHeaders ∷ []) ++ cond b [] (messages.SendCmpct relay ∷ [])) ≡ []
wishes_nonces true true relay = refl
wishes_nonces true false relay = refl
wishes_nonces false true relay = refl
wishes_nonces false false relay = refl

wishes_requests : (a b : Bool) (relay : CompactRelay) → requests_in (cond a [] (messages.SendHeaders ∷ []) ++ cond b [] (messages.SendCmpct relay ∷ [])) ≡ []
wishes_requests true true relay = refl
wishes_requests true false relay = refl
wishes_requests false true relay = refl
wishes_requests false false relay = refl

no_request_sent : (nonce : ℕ) (pieces : List Piece) → requests_in (sent nonce pieces) ≡ []
no_request_sent nonce [] = refl
no_request_sent nonce (piece.Tx tx ∷ pieces) = no_request_sent nonce pieces
no_request_sent nonce (piece.Whole block ∷ pieces) = no_request_sent nonce pieces
no_request_sent nonce (piece.Short block ∷ pieces) = no_request_sent ((nonce + 1) % 2 ^ 64) pieces
no_request_sent nonce (piece.Lacking asked ∷ pieces) = no_request_sent nonce pieces

no_request_lacking : (entries : List Inventory) → requests_in (not_found entries) ≡ []
no_request_lacking [] = refl
no_request_lacking (first ∷ others) = refl

no_request_served : (nonce : ℕ) (pieces : List Piece) → requests_in (served nonce pieces) ≡ []
no_request_served nonce pieces =
    filter_map-append request_in (sent nonce pieces) (not_found (filter_map lacking_in pieces))
    ∙ ap (λ (rs : List BlockTransactionsRequest). rs ++ requests_in (not_found (filter_map lacking_in pieces))) (no_request_sent nonce pieces) ∙ no_request_lacking (filter_map lacking_in pieces)

no_high_sent : (nonce : ℕ) (pieces : List Piece) → highs_in (sent nonce pieces) ≡ []
no_high_sent nonce [] = refl
no_high_sent nonce (piece.Tx tx ∷ pieces) = no_high_sent nonce pieces
no_high_sent nonce (piece.Whole block ∷ pieces) = no_high_sent nonce pieces
no_high_sent nonce (piece.Short block ∷ pieces) = no_high_sent ((nonce + 1) % 2 ^ 64) pieces
no_high_sent nonce (piece.Lacking asked ∷ pieces) = no_high_sent nonce pieces

no_high_lacking : (entries : List Inventory) → highs_in (not_found entries) ≡ []
no_high_lacking [] = refl
no_high_lacking (first ∷ others) = refl

no_high_served : (nonce : ℕ) (pieces : List Piece) → highs_in (served nonce pieces) ≡ []
no_high_served nonce pieces =
    filter_map-append high_in (sent nonce pieces) (not_found (filter_map lacking_in pieces))
    ∙ ap (λ (hs : List Bool). hs ++ highs_in (not_found (filter_map lacking_in pieces))) (no_high_sent nonce pieces) ∙ no_high_lacking (filter_map lacking_in pieces)

-- ---- nonces

next_made : (salt made count : ℕ) → (salt + (made + count) % 2 ^ 64) % 2 ^ 64 ≡ ((salt + made) % 2 ^ 64 + count) % 2 ^ 64
next_made salt made count =
    add-mod-mod salt (made + count) (2 ^ 64) ∙ ap (λ (n : ℕ). n % 2 ^ 64) (let moved : salt + (made + count) ≡ salt + made + count = omega arith in moved) ∙ sym (mod-add-mod (salt + made) (2 ^ 64) count)

pub next_stays : (salt made : ℕ) → (salt + made) % 2 ^ 64 ≡ ((salt + made) % 2 ^ 64 + 0) % 2 ^ 64
next_stays salt made = ap (λ (n : ℕ). n % 2 ^ 64) (let moved : salt + made ≡ salt + made + 0 = omega arith in moved) ∙ sym (mod-add-mod (salt + made) (2 ^ 64) 0)

-- ---- lines in which nothing of compact blocks changes

-- what a session keeps for compact blocks, and its settings, are the same
pub record IsAlike (s t : SessionState) : Type 0 where
  pub compact : t.compact ≡ s.compact
  pub settings : t.settings ≡ s.settings

alike : (s : SessionState) → IsAlike s s
alike s = record { compact = refl; settings = refl }

alike_nonce : (s t : SessionState) → IsAlike s t → next_nonce t ≡ (next_nonce s + 0) % 2 ^ 64
alike_nonce s t like =
    let first : next_nonce t ≡ (s.settings.salt + t.compact.made) % 2 ^ 64 = ap (λ (it : Settings). (it.salt + t.compact.made) % 2 ^ 64) like.settings in
    let second : (s.settings.salt + t.compact.made) % 2 ^ 64 ≡ next_nonce s = ap (λ it. (s.settings.salt + it.made) % 2 ^ 64) like.compact in
    first ∙ second ∙ next_stays s.settings.salt s.compact.made

calm : (fine : Bool) (s : SessionState) (item : Option Item) (outcome : Outcome) → IsAlike s outcome.session → IsPlain outcome.messages → next_suits outcome.next item ≡ true → Turns fine s item outcome
calm fine s item outcome like plain fits =
    record {
      suited = λ _. fits;
      keeps = same_one (ap (λ it. it.partial) like.compact);
      counts = used 0 plain.no_nonce (alike_nonce s outcome.session like);
      tells = λ _. no_wish plain.no_high;
      requested = no_asking plain.no_request;
    }

calm_end : (fine : Bool) (s t : SessionState) (item : Option Item) (list : List Message) → IsAlike s t → IsPlain list → Turns fine s item (ends t list)
calm_end fine s t item list like plain = ends_by (Turns fine s item) t list (calm fine s item (sends t list) like plain refl) (calm fine s item (asks t list Wanted) like plain refl) (calm fine s item (asks t list Fresh) like plain refl)

quiet : (fine : Bool) (s : SessionState) (item : Option Item) → Turns fine s item (sends s [])
quiet fine s item = calm fine s item (sends s []) (alike s) plain_nothing refl

over_turns : (fine : Bool) (s : SessionState) (item : Option Item) (why : CloseReason) → Turns fine s item (ended why s)
over_turns fine s item why = record { suited = λ _. refl; keeps = is_over refl; counts = stopped refl refl refl; tells = λ _. no_wish refl; requested = no_asking refl }

-- ---- messages

introduced_turns : (fine : Bool) (s : SessionState) (item : Option Item) (version : Version) → Turns fine s item (introduced s version)
unfolding introduced
introduced_turns fine s item version =
    let met = with_state Greeted (with_peer (record { version = version.version; relays = version.relay; by_headers = s.peer.by_headers; capable = s.peer.capable; wants_high = s.peer.wants_high }) s) in
    by_test (Turns fine s item) (version.nonce == s.settings.nonce) (ended reasons.SelfPeer s) (cond (int_lt version.version (pos 70001)) (ended reasons.OldPeer s) (sends met (greeting s.settings)))
    (λ _. over_turns fine s item reasons.SelfPeer)
    (λ _. by_test (Turns fine s item) (int_lt version.version (pos 70001)) (ended reasons.OldPeer s) (sends met (greeting s.settings))
    (λ _. over_turns fine s item reasons.OldPeer)
    (λ _. calm fine s item (sends met (greeting s.settings)) (record { compact = refl; settings = refl }) (plain_greeting s.settings) refl))

compact_alike : (relay : CompactRelay) (s : SessionState) → IsAlike s (by_compact relay s)
compact_alike relay s =
    by_test (IsAlike s) (relay.version == 1) (with_peer (record { version = s.peer.version; relays = s.peer.relays; by_headers = s.peer.by_headers; capable = true; wants_high = relay.high_bandwidth }) s) s
    (λ _. record { compact = refl; settings = refl }) (λ _. alike s)

-- a block drops one that is being rebuilt with its hash
dropping_keeps : (s : SessionState) (block : Block) (outcome : Outcome) → outcome.session.compact.partial ≡ (dropping (block_hash block.header) s).compact.partial → Keeps s (Some (Good (messages.Block block))) outcome
dropping_keeps s block outcome e = by_partial s.compact.partial refl
  where
    by_hash : (partial : Unfilled) → s.compact.partial ≡ Some partial → (test : Bool) → is_partial (block_hash block.header) s.compact.partial ≡ test → Keeps s (Some (Good (messages.Block block))) outcome
    by_hash partial at true is =
        came (λ other there.
        let one : partial ≡ other = (let both : Some partial ≡ Some other = sym at ∙ there in cc) in
        subst (λ (p : Unfilled). same (block_hash p.header) (block_hash block.header) ≡ true) one (sym (ap (is_partial (block_hash block.header)) at) ∙ is))
    by_hash partial at false is = same_one (e ∙ ap (λ (test : Bool). (cond test (with_partial None s) s).compact.partial) is)

    by_partial : (partial : Option Unfilled) → s.compact.partial ≡ partial → Keeps s (Some (Good (messages.Block block))) outcome
    by_partial None at = same_one (e ∙ ap (λ (p : Option Unfilled). (cond (is_partial (block_hash block.header) p) (with_partial None s) s).compact.partial) at)
    by_partial (Some partial) at = by_hash partial at (is_partial (block_hash block.header) s.compact.partial) refl

-- dropping changes nothing else
dropping_nonce : (s : SessionState) (hash : Hash256) → next_nonce (dropping hash s) ≡ next_nonce s
dropping_nonce s hash = by_test (λ (t : SessionState). next_nonce t ≡ next_nonce s) (is_partial hash s.compact.partial) (with_partial None s) s (λ _. refl) (λ _. refl)

dropping_partial : (s : SessionState) (hash : Hash256) → (dropping hash (landing hash s)).compact.partial ≡ (dropping hash s).compact.partial
dropping_partial s hash =
    either (is_partial hash s.compact.partial)
  where
    either : (test : Bool) → (cond test (with_partial None (landing hash s)) (landing hash s)).compact.partial ≡ (cond test (with_partial None s) s).compact.partial
    either true = refl
    either false = refl

brought_turns : (fine : Bool) (s : SessionState) (block : Block) → Turns fine s (Some (Good (messages.Block block))) (brought s block)
unfolding brought
brought_turns fine s block =
    let hash = block_hash block.header in
    let item : Option Item = Some (Good (messages.Block block)) in
    let outcome = asks (heard_of hash (dropping hash (landing hash s))) [] (About subjects.Block) in
    by_test (Turns fine s item) (is_sound_block block) outcome (ended reasons.BadBlock s)
    (λ _. record {
      suited = λ _. refl;
      keeps = dropping_keeps s block outcome (dropping_partial s hash);
      counts = used 0 refl (dropping_nonce (landing hash s) hash ∙ next_stays s.settings.salt s.compact.made);
      tells = λ _. no_wish refl;
      requested = no_asking refl;
    })
    (λ _. over_turns fine s item reasons.BadBlock)

short_turns : (fine : Bool) (s : SessionState) (short : HeaderAndShortIds) → Turns fine s (Some (Good (messages.CmpctBlock short))) (short_heard s short)
unfolding short_heard
short_turns fine s short =
    let item : Option Item = Some (Good (messages.CmpctBlock short)) in
    let heard = asks (heard_of (block_hash short.header) s) [] (About subjects.Headers) in
    by_test (Turns fine s item) (has_places short.txs) heard (ended reasons.BadMessage s)
    (λ has. calm fine s item heard (record { compact = refl; settings = refl }) plain_nothing has)
    (λ _. over_turns fine s item reasons.BadMessage)

-- a block that can't be rebuilt; `s` is the session before, `t` the one that falls back
falls_calm : (fine : Bool) (s t : SessionState) (item : Option Item) (hash before : Hash256) → IsAlike s t → Turns fine s item (falls_back t hash before)
unfolding falls_back
falls_calm fine s t item hash before like =
    calm_end fine s (with_fallen hash before t) item (cond (asks_now t.fetch hash) (asking_block hash ∷ []) []) (record { compact = like.compact; settings = like.settings }) (plain_if (asks_now t.fetch hash) (asking_block hash ∷ []) (record { no_nonce = refl; no_high = refl; no_request = refl }))

-- what completes or replaces the block that is being rebuilt
moved : (fine : Bool) (s t : SessionState) (item : Option Item) (outcome : Outcome) → next_nonce t ≡ next_nonce s → Turns fine t item outcome → Keeps s item outcome → (is_ready s.state ≡ true → Tells s outcome) → Turns fine s item outcome
moved fine s t item outcome nonce turns keeps tells = record { suited = turns.suited; keeps = keeps; counts = recount turns.counts; tells = tells; requested = turns.requested }
  where
    recount : Counts t outcome → Counts s outcome
    recount (stopped over silent none) = stopped over silent none
    recount (used count sent next) = used count (sent ∙ ap (λ (n : ℕ). nonces_from n count) nonce) (next ∙ ap (λ (n : ℕ). (n + count) % 2 ^ 64) nonce)

falls_plain : (t : SessionState) (hash before : Hash256) → IsPlain (falls_back t hash before).messages
unfolding falls_back
falls_plain t hash before =
    let list : List Message = cond (asks_now t.fetch hash) (asking_block hash ∷ []) [] in
    let plain = plain_if (asks_now t.fetch hash) (asking_block hash ∷ []) (record { no_nonce = refl; no_high = refl; no_request = refl }) in
    ends_by (λ (outcome : Outcome). IsPlain outcome.messages) (with_fallen hash before t) list plain plain plain

filled_silent : (fine : Bool) (t : SessionState) (hash before : Hash256) (result : Result Filled Fault) (item : Option Item) → Turns fine t item (filled_by t hash before result) × IsPlain (filled_by t hash before result).messages
filled_silent fine t hash before (Ok (filling.Sound block)) item = (calm fine t item (gives t block) (record { compact = refl; settings = refl }) plain_nothing refl, plain_nothing)
filled_silent fine t hash before (Ok filling.Wrong) item = (falls_calm fine t t item hash before (alike t), falls_plain t hash before)
filled_silent fine t hash before (Err fault) item = (over_turns fine t item reasons.BadMessage, plain_nothing)

completed_turns : (fine : Bool) (s : SessionState) (given : BlockTransactions) (partial : Option Unfilled) → s.compact.partial ≡ partial → Turns fine s (Some (Good (messages.BlockTxn given))) (completed_by s given partial)
completed_turns fine s given None at = calm_end fine s s (Some (Good (messages.BlockTxn given))) [] (alike s) plain_nothing
completed_turns fine s given (Some partial) at =
    let item : Option Item = Some (Good (messages.BlockTxn given)) in
    let t = with_partial None s in
    let outcome = filled_by t given.block partial.header.prev (completed_of partial given) in
    let both = filled_silent fine t given.block partial.header.prev (completed_of partial given) item in
    by_test (Turns fine s item) (same (block_hash partial.header) given.block) outcome (ends s [])
    (λ is. moved fine s t item outcome refl both.0
    (came (λ other there.
    let one : partial ≡ other = (let both : Some partial ≡ Some other = sym at ∙ there in cc) in
    subst (λ (p : Unfilled). same (block_hash p.header) given.block ≡ true) one is))
    (λ _. no_wish both.1.no_high))
    (λ _. calm_end fine s s item [] (alike s) plain_nothing)

txs_turns : (fine : Bool) (s : SessionState) (given : BlockTransactions) → Turns fine s (Some (Good (messages.BlockTxn given))) (txs_heard s given)
unfolding txs_heard
txs_turns fine s given = completed_turns fine s given s.compact.partial refl

start_turns : (fine : Bool) (s : SessionState) (message : Message) → Turns fine s (Some (Good message)) (in_start s message)
unfolding in_start
start_turns fine s (messages.Version version) = introduced_turns fine s (Some (Good (messages.Version version))) version
start_turns fine s other = quiet fine s (Some (Good other))

verack_turns : (fine : Bool) (s : SessionState) → is_ready s.state ≡ false → Turns fine s (Some (Good messages.Verack)) (asks (with_state Ready s) (wishes s.peer.version) (About subjects.Locator))
verack_turns fine s early =
    record {
      suited = λ _. refl;
      keeps = same_one refl;
      counts = used 0 (wishes_nonces (int_lt s.peer.version (pos 70012)) (int_lt s.peer.version (pos 70014)) (record { high_bandwidth = false; version = 1 })) (next_stays s.settings.salt s.compact.made);
      tells = λ ready. absurd (let clash : true ≡ false = sym ready ∙ early in cc);
      requested = no_asking (wishes_requests (int_lt s.peer.version (pos 70012)) (int_lt s.peer.version (pos 70014)) (record { high_bandwidth = false; version = 1 }));
    }

greeted_turns : (fine : Bool) (s : SessionState) (message : Message) → is_ready s.state ≡ false → Turns fine s (Some (Good message)) (in_greeted s message)
unfolding in_greeted
greeted_turns fine s messages.Verack early = verack_turns fine s early
greeted_turns fine s messages.SendHeaders early = calm fine s (Some (Good messages.SendHeaders)) (sends (by_headers s) []) (record { compact = refl; settings = refl }) plain_nothing refl
greeted_turns fine s (messages.SendCmpct relay) early = calm fine s (Some (Good (messages.SendCmpct relay))) (sends (by_compact relay s) []) (compact_alike relay s) plain_nothing refl
greeted_turns fine s other early = quiet fine s (Some (Good other))

ready_turns : (fine : Bool) (s : SessionState) (message : Message) → Turns fine s (Some (Good message)) (in_ready s message)
unfolding in_ready
ready_turns fine s messages.SendHeaders = calm_end fine s (by_headers s) (Some (Good messages.SendHeaders)) [] (record { compact = refl; settings = refl }) plain_nothing
ready_turns fine s (messages.SendCmpct relay) = calm_end fine s (by_compact relay s) (Some (Good (messages.SendCmpct relay))) [] (compact_alike relay s) plain_nothing
ready_turns fine s (messages.Headers []) = calm_end fine s (with_unknown false s) (Some (Good (messages.Headers []))) [] (record { compact = refl; settings = refl }) plain_nothing
ready_turns fine s (messages.Headers (first ∷ others)) =
    calm fine s (Some (Good (messages.Headers (first ∷ others)))) (asks (heard_of (last_hash first others) s) [] (About subjects.Headers)) (record { compact = refl; settings = refl }) plain_nothing refl
ready_turns fine s (messages.Inv entries) =
    by_test (Turns fine s (Some (Good (messages.Inv entries)))) (is_nil (told_of entries)) (ends s []) (asks s [] (About subjects.Inventory))
    (λ _. calm_end fine s s (Some (Good (messages.Inv entries))) [] (alike s) plain_nothing)
    (λ _. calm fine s (Some (Good (messages.Inv entries))) (asks s [] (About subjects.Inventory)) (alike s) plain_nothing refl)
ready_turns fine s (messages.GetData entries) = calm fine s (Some (Good (messages.GetData entries))) (asks s [] (About subjects.Items)) (alike s) plain_nothing refl
ready_turns fine s (messages.GetHeaders request) = calm fine s (Some (Good (messages.GetHeaders request))) (asks s [] (About subjects.After)) (alike s) plain_nothing refl
ready_turns fine s (messages.NotFound entries) = calm_end fine s (with_fetch (given_up entries s.fetch) s) (Some (Good (messages.NotFound entries))) [] (record { compact = refl; settings = refl }) plain_nothing
ready_turns fine s (messages.Tx tx) = calm fine s (Some (Good (messages.Tx tx))) (asks s [] (About subjects.Tx)) (alike s) plain_nothing refl
ready_turns fine s (messages.Block block) = brought_turns fine s block
ready_turns fine s (messages.CmpctBlock short) = short_turns fine s short
ready_turns fine s (messages.GetBlockTxn request) = calm fine s (Some (Good (messages.GetBlockTxn request))) (asks s [] (About subjects.Places)) (alike s) plain_nothing refl
ready_turns fine s (messages.BlockTxn given) = txs_turns fine s given
ready_turns fine s other = calm_end fine s s (Some (Good other)) [] (alike s) plain_nothing

phase_turns : (fine : Bool) (state : State) (s : SessionState) (message : Message) → s.state ≡ state → Turns fine s (Some (Good message)) (by_phase state s message)
phase_turns fine Start s message at = start_turns fine s message
phase_turns fine Greeted s message at = greeted_turns fine s message (ap is_ready at)
phase_turns fine Ready s message at = ready_turns fine s message
phase_turns fine (Closed why) s message at = quiet fine s (Some (Good message))

received_turns : (fine : Bool) (s : SessionState) (message : Message) → Turns fine s (Some (Good message)) (received s message)
unfolding received
received_turns fine s (messages.Ping nonce) = calm_end fine s s (Some (Good (messages.Ping nonce))) (messages.Pong nonce ∷ []) (alike s) (record { no_nonce = refl; no_high = refl; no_request = refl })
received_turns fine s other = phase_turns fine s.state s other refl

processed_turns : (fine : Bool) (s : SessionState) (item : Option Item) → Turns fine s item (processed s item)
unfolding processed
processed_turns fine s None = calm_end fine s s None [] (alike s) plain_nothing
processed_turns fine s (Some (Good message)) = received_turns fine s message
processed_turns fine s (Some Damaged) = calm_end fine s s (Some Damaged) [] (alike s) plain_nothing
processed_turns fine s (Some (Bad command fault)) = over_turns fine s (Some (Bad command fault)) reasons.BadMessage

-- ---- answers

heads_turns : (fine : Bool) (s t : SessionState) (item : Option Item) (refused : Option Fault) (locator : List Hash256) → IsAlike s t → Turns fine s item (heads_by t item refused locator)
heads_turns fine s t item (Some faults.BadWork) locator like = record { suited = λ _. refl; keeps = is_over refl; counts = stopped refl refl refl; tells = λ _. no_wish refl; requested = no_asking refl }
heads_turns fine s t item (Some faults.NoParent) locator like = calm_end fine s (seeking true t) item (search true t locator) (record { compact = like.compact; settings = like.settings }) (plain_search true t locator)
heads_turns fine s t item (Some other) locator like = calm_end fine s (with_unknown false t) item [] (record { compact = like.compact; settings = like.settings }) plain_nothing
heads_turns fine s t item None locator like =
    calm_end fine s (with_unknown false t) item (unless_remembered t (more_headers item)) (record { compact = like.compact; settings = like.settings }) (plain_unless t (more_headers item) (plain_more item))

orphaned_turns : (fine : Bool) (s : SessionState) (item : Option Item) (header : Option Header) (locator : List Hash256) → Turns fine s item (orphaned s header locator)
orphaned_turns fine s item header locator =
    orphaned_cases (Turns fine s item) s header locator (calm_end fine s (seeking true s) item (search true s locator) (record { compact = refl; settings = refl }) (plain_search true s locator))
    (λ of _ _. calm_end fine s (with_child (block_hash of) of.prev s) item [] (record { compact = refl; settings = refl }) plain_nothing)

taken_turns : (fine : Bool) (s : SessionState) (item : Option Item) (header : Option Header) (refused : Option Fault) (locator : List Hash256) → Turns fine s item (taken_told s header refused locator)
unfolding taken_told
taken_turns fine s item header None locator = calm_end fine s s item [] (alike s) plain_nothing
taken_turns fine s item header (Some faults.Known) locator = calm_end fine s s item [] (alike s) plain_nothing
taken_turns fine s item header (Some faults.NoParent) locator = orphaned_turns fine s item header locator
taken_turns fine s item header (Some other) locator = over_turns fine s item reasons.BadBlock

given_turns : (fine : Bool) (s : SessionState) (item : Option Item) (header : Header) (refused : Option Fault) (locator : List Hash256) → Turns fine s item (given_told s header refused locator)
unfolding given_told
given_turns fine s item header refused locator =
    by_test (Turns fine s item) (is_orphan refused) (orphaned s (Some header) locator) (ends s []) (λ _. orphaned_turns fine s item (Some header) locator) (λ _. calm_end fine s s item [] (alike s) plain_nothing)

-- the search of the mempool follows the header of a compact block, whose places were looked at
told_short_turns : (fine : Bool) (s : SessionState) (item : Option Item) (hash : Hash256) (heads : Heads) → (fine ≡ true → match_suits item ≡ true) → Turns fine s item (short_told s hash heads)
unfolding short_told
told_short_turns fine s item hash heads has =
    let found = is_orphan heads.refused in
    let sent = search found s heads.locator in
    let plain : IsPlain sent = plain_search found s heads.locator in
    let t = seeking found s in
    by_test (Turns fine s item) (is_workless heads.refused) (ended reasons.BadBlock s) (cond (is_nil heads.lack) (ends (landing hash t) sent) (asks t sent Match))
    (λ _. over_turns fine s item reasons.BadBlock)
    (λ _. by_test (Turns fine s item) (is_nil heads.lack) (ends (landing hash t) sent) (asks t sent Match)
    (λ _. calm_end fine s (landing hash t) item sent (record { compact = refl; settings = refl }) plain)
    (λ _. record {
      suited = has;
      keeps = same_one refl;
      counts = used 0 plain.no_nonce (next_stays s.settings.salt s.compact.made);
      tells = λ _. no_wish plain.no_high;
      requested = no_asking plain.no_request;
    }))

rebuilt_turns : (fine : Bool) (s : SessionState) (item : Option Item) (short : HeaderAndShortIds) (pairs : List Pair) (rebuilt : Rebuilt) → short_in item ≡ Some short → rebuilt_of short pairs ≡ rebuilt → Turns fine s item (rebuilt_by s short.header rebuilt)
rebuilt_turns fine s item short pairs (rebuilts.Sound block) is e = calm fine s item (gives s block) (record { compact = refl; settings = refl }) plain_nothing refl
rebuilt_turns fine s item short pairs (rebuilts.Lacking partial request) is e = ends_by (Turns fine s item) t list (line (sends t list) refl refl refl) (line (asks t list Wanted) refl refl refl) (line (asks t list Fresh) refl refl refl)
  where
    t : SessionState
    t = with_partial (Some partial) s

    list : List Message
    list = asking_txs request ∷ []

    line : (outcome : Outcome) → outcome.session ≡ with_partial (Some partial) s → outcome.messages ≡ asking_txs request ∷ [] → next_suits outcome.next item ≡ true → Turns fine s item outcome
    line outcome after sent next =
        record {
          suited = λ _. next;
          keeps = newer partial request (ap (λ (u : SessionState). u.compact.partial) after) (ap but_headers sent);
          counts = used 0 (ap nonces_in sent) (ap next_nonce after ∙ next_stays s.settings.salt s.compact.made);
          tells = λ _. no_wish (ap highs_in sent);
          requested = asking short pairs partial request is e (ap requests_in sent) (ap (λ (u : SessionState). u.compact.partial) after);
        }
rebuilt_turns fine s item short pairs rebuilts.Useless is e = falls_calm fine s s item (block_hash short.header) short.header.prev (alike s)

paired_turns : (fine : Bool) (s : SessionState) (item : Option Item) (short : Option HeaderAndShortIds) (pairs : List Pair) → short_in item ≡ short → Turns fine s item (paired s short pairs)
paired_turns fine s item None pairs is = quiet fine s item
paired_turns fine s item (Some short) pairs is =
    by_test (Turns fine s item) (has_places short.txs) (rebuilt_by s short.header (rebuilt_of short pairs)) (ended reasons.BadMessage s)
    (λ _. rebuilt_turns fine s item short pairs (rebuilt_of short pairs) is refl) (λ _. over_turns fine s item reasons.BadMessage)

excerpt_turns : (fine : Bool) (s : SessionState) (item : Option Item) (excerpt : Excerpt) → Turns fine s item (excerpt_answered s excerpt)
unfolding excerpt_answered
excerpt_turns fine s item (excerpts.Refused fault) = over_turns fine s item reasons.BadRequest
excerpt_turns fine s item excerpts.Absent = calm_end fine s s item (excerpt_told excerpts.Absent) (alike s) (plain_excerpt excerpts.Absent)
excerpt_turns fine s item (excerpts.Part part) = calm_end fine s s item (excerpt_told (excerpts.Part part)) (alike s) (plain_excerpt (excerpts.Part part))
excerpt_turns fine s item (excerpts.Whole block) = calm_end fine s s item (excerpt_told (excerpts.Whole block)) (alike s) (plain_excerpt (excerpts.Whole block))

served_turns : (fine : Bool) (s : SessionState) (item : Option Item) (pieces : List Piece) → Turns fine s item (served_told s pieces)
unfolding served_told
served_turns fine s item pieces = ends_by (Turns fine s item) t list (line (sends t list) refl refl refl) (line (asks t list Wanted) refl refl refl) (line (asks t list Fresh) refl refl refl)
  where
    t : SessionState
    t = with_made (shorts pieces) s

    list : List Message
    list = served (next_nonce s) pieces

    line : (outcome : Outcome) → outcome.session ≡ with_made (shorts pieces) s → outcome.messages ≡ served (next_nonce s) pieces → next_suits outcome.next item ≡ true → Turns fine s item outcome
    line outcome after sent next =
        record {
          suited = λ _. next;
          keeps = same_one (ap (λ (u : SessionState). u.compact.partial) after);
          counts = used (shorts pieces) (ap nonces_in sent ∙ served_nonces (next_nonce s) pieces) (ap next_nonce after ∙ next_made s.settings.salt s.compact.made (shorts pieces));
          tells = λ _. no_wish (ap highs_in sent ∙ no_high_served (next_nonce s) pieces);
          requested = no_asking (ap requests_in sent ∙ no_request_served (next_nonce s) pieces);
        }

need_turns : (fine : Bool) (s : SessionState) (item : Option Item) (need : Need) → Turns fine s item (need_told s need)
unfolding need_told
need_turns fine s item need =
    let asked = asking_for (filter_map tx_request need.entries) in
    let found = list_any is_block need.entries in
    let behind = search found s need.locator in
    calm_end fine s (seeking found s) item (asked ++ behind) (record { compact = refl; settings = refl }) (plain_both asked behind (plain_for (filter_map tx_request need.entries)) (plain_search found s need.locator))

wanted_turns : (fine : Bool) (s : SessionState) (item : Option Item) (need : Need) → Turns fine s item (wanted_told s need)
unfolding wanted_told
wanted_turns fine s item need =
    let fetch = taken_on (blocks_in need.entries) in
    let entries = requests_of (need.near && s.peer.capable) fetch.flight in
    calm fine s item (asks (with_fetch fetch s) (asking_for entries) Fresh) (record { compact = refl; settings = refl }) (plain_for entries) refl

-- ---- news

form_nonce : (block : Block) (nonce : ℕ) → (shortened_of block nonce).nonce ≡ nonce
unfolding shortened_of
form_nonce block nonce = refl

tip_by_nonces : (s : SessionState) (news : News) (block : Option Block) → nonces_in (tip_by s news block) ≡ nonces_from (next_nonce s) (count_of block)
tip_by_nonces s news (Some block) = ap (λ (n : ℕ). n ∷ []) (form_nonce block (next_nonce s))
tip_by_nonces s news None = (plain_announcing (s.peer.by_headers && not news.long) news.tip news.path).no_nonce

tip_by_highs : (s : SessionState) (news : News) (block : Option Block) → highs_in (tip_by s news block) ≡ []
tip_by_highs s news (Some block) = refl
tip_by_highs s news None = (plain_announcing (s.peer.by_headers && not news.long) news.tip news.path).no_high

tip_nonces : (s : SessionState) (news : News) → nonces_in (tip_told s news) ≡ nonces_from (next_nonce s) (tip_made s news)
tip_nonces s news = either (is_untold s news)
  where
    either : (untold : Bool) → nonces_in (cond untold [] (tip_by s news news.block)) ≡ nonces_from (next_nonce s) (cond untold 0 (count_of news.block))
    either true = refl
    either false = tip_by_nonces s news news.block

tip_highs : (s : SessionState) (news : News) → highs_in (tip_told s news) ≡ []
tip_highs s news = by_test (λ (list : List Message). highs_in list ≡ []) (is_untold s news) [] (tip_by s news news.block) (λ _. refl) (λ _. tip_by_highs s news news.block)

tip_by_requests : (s : SessionState) (news : News) (block : Option Block) → requests_in (tip_by s news block) ≡ []
tip_by_requests s news (Some block) = refl
tip_by_requests s news None = (plain_announcing (s.peer.by_headers && not news.long) news.tip news.path).no_request

tip_requests : (s : SessionState) (news : News) → requests_in (tip_told s news) ≡ []
tip_requests s news = by_test (λ (list : List Message). requests_in list ≡ []) (is_untold s news) [] (tip_by s news news.block) (λ _. refl) (λ _. tip_by_requests s news news.block)

wish_requests : (s : SessionState) (high : Bool) → requests_in (wish_told s high) ≡ []
wish_requests s high = by_test (λ (list : List Message). requests_in list ≡ []) (s.peer.capable && differ high s.compact.asked_high) (wish high ∷ []) [] (λ _. refl) (λ _. refl)

wish_nonces : (s : SessionState) (high : Bool) → nonces_in (wish_told s high) ≡ []
wish_nonces s high = by_test (λ (list : List Message). nonces_in list ≡ []) (s.peer.capable && differ high s.compact.asked_high) (wish high ∷ []) [] (λ _. refl) (λ _. refl)

differs : (high asked : Bool) → differ high asked ≡ true → asked ≡ not high
differs true true e = absurd cc
differs true false e = refl
differs false true e = refl
differs false false e = absurd cc

news_tells : (s : SessionState) (high : Bool) (outcome : Outcome) → highs_in outcome.messages ≡ highs_in (wish_told s high) → outcome.session.compact.asked_high ≡ high_asked s high → Tells s outcome
news_tells s high outcome sent kept =
    let wished : (test : Bool) → s.peer.capable && differ high s.compact.asked_high ≡ test → Tells s outcome =
    elim [
      | true ↦ λ is.
          let both = and_parts s.peer.capable (differ high s.compact.asked_high) is in
          one_wish high (sent ∙ ap (λ (b : Bool). highs_in (cond b (wish high ∷ []) [])) is)
          (record { capable = both.0; other = differs high s.compact.asked_high both.1; kept = kept ∙ ap (λ (b : Bool). cond b high s.compact.asked_high) both.0 })
      | false ↦ λ isnt. no_wish (sent ∙ ap (λ (b : Bool). highs_in (cond b (wish high ∷ []) [])) isnt)
    ] in
    wished (s.peer.capable && differ high s.compact.asked_high) refl

append_none : {A : Type 0} (xs ys zs : List A) → xs ≡ [] → ys ≡ [] → (xs ++ ys) ++ zs ≡ zs
append_none xs ys zs x y = rw (x, y) refl

append_only : {A : Type 0} (xs ys zs : List A) → ys ≡ [] → zs ≡ [] → (xs ++ ys) ++ zs ≡ xs
append_only xs ys zs y z = rw (y, z) (append-nil (xs ++ []) ∙ append-nil xs)

news_turns : (fine : Bool) (s : SessionState) (item : Option Item) (news : News) → Turns fine s item (news_told s item news)
unfolding news_told
news_turns fine s item news =
    let tip = tip_told s news in
    let txs = txs_told s item news.txids in
    let plain = plain_txs s item news.txids in
    let wished = wish_told s news.high in
    let parts : nonces_in ((tip ++ txs) ++ wished) ≡ (nonces_in tip ++ nonces_in txs) ++ nonces_in wished =
    filter_map-append nonce_in (tip ++ txs) wished ∙ ap (λ (ns : List ℕ). ns ++ nonces_in wished) (filter_map-append nonce_in tip txs) in
    let others : highs_in ((tip ++ txs) ++ wished) ≡ (highs_in tip ++ highs_in txs) ++ highs_in wished =
    filter_map-append high_in (tip ++ txs) wished ∙ ap (λ (hs : List Bool). hs ++ highs_in wished) (filter_map-append high_in tip txs) in
    let asked : requests_in ((tip ++ txs) ++ wished) ≡ (requests_in tip ++ requests_in txs) ++ requests_in wished =
    filter_map-append request_in (tip ++ txs) wished ∙ ap (λ (rs : List BlockTransactionsRequest). rs ++ requests_in wished) (filter_map-append request_in tip txs) in
    let outcome = sends (with_asked_high (high_asked s news.high) (with_made (tip_made s news) (with_marks (record { heard = s.marks.heard; tip = Some news.tip; next = news.next }) s))) ((tip ++ txs) ++ wished) in
    record {
      suited = λ _. refl;
      keeps = same_one refl;
      counts = used (tip_made s news) (parts ∙ append_only (nonces_in tip) (nonces_in txs) (nonces_in wished) plain.no_nonce (wish_nonces s news.high) ∙ tip_nonces s news) (next_made s.settings.salt s.compact.made (tip_made s news));
      tells = λ _. news_tells s news.high outcome (others ∙ append_none (highs_in tip) (highs_in txs) (highs_in wished) (tip_highs s news) plain.no_high) refl;
      requested = no_asking (asked ∙ append_none (requests_in tip) (requests_in txs) (requests_in wished) (tip_requests s news) plain.no_request ∙ wish_requests s news.high);
    }

-- ---- all answers

heads_told_turns : (fine : Bool) (s : SessionState) (item : Option Item) (subject : Subject) (heads : Heads) (short : Option HeaderAndShortIds) → short_in item ≡ short → (fine ≡ true → about_suits subject item ≡ true) → Turns fine s item (heads_for s item short heads)
heads_told_turns fine s item subject heads None is fits = heads_turns fine s (with_lacking heads.lack (before_first item) s) item heads.refused heads.locator (record { compact = refl; settings = refl })
heads_told_turns fine s item subject heads (Some short) is fits = told_short_turns fine s item (block_hash short.header) heads (λ is_fine. match_from item subject (fits is_fine))
  where
    match_from : (item : Option Item) (subject : Subject) → about_suits subject item ≡ true → match_suits item ≡ true
    match_from (Some (Good (messages.CmpctBlock short))) subject fits = (and_parts (is_headers_subject subject) (has_places short.txs) fits).1
    match_from (Some (Good (messages.BlockTxn given))) subject fits = fits
    match_from other subject fits = fits

replied_turns : (fine : Bool) (s : SessionState) (item : Option Item) (stage : Stage) (answer : Answer) → (fine ≡ true → suits stage item ≡ true) → Turns fine s item (replied s item stage answer)
unfolding replied heads_told pairs_told
replied_turns fine s item stage answers.Kicked fits = over_turns fine s item reasons.Kicked
replied_turns fine s item Admit answers.Go fits = processed_turns fine s item
replied_turns fine s item (About subject) (answers.Heads heads) fits = heads_told_turns fine s item subject heads (short_in item) refl fits
replied_turns fine s item (About subject) (answers.Locator locator) fits = calm_end fine s s item (unless_remembered s (asking_headers locator ∷ [])) (alike s) (plain_unless s (asking_headers locator ∷ []) (plain_headers locator))
replied_turns fine s item (About subject) (answers.Need need) fits = need_turns fine s item need
replied_turns fine s item (About subject) (answers.TxTaken refused) fits = calm_end fine s s item [] (alike s) plain_nothing
replied_turns fine s item (About subject) (answers.Taken taken) fits = taken_turns fine s item (header_in item) taken.refused taken.locator
replied_turns fine s item (About subject) (answers.Served pieces) fits = served_turns fine s item pieces
replied_turns fine s item (About subject) (answers.Following headers) fits = calm_end fine s s item (messages.Headers headers ∷ []) (alike s) (record { no_nonce = refl; no_high = refl; no_request = refl })
replied_turns fine s item (About subject) (answers.Excerpt excerpt) fits = excerpt_turns fine s item excerpt
replied_turns fine s item Match (answers.Pairs pairs) fits = paired_turns fine s item (short_in item) pairs refl
replied_turns fine s item (Give block) (answers.Taken taken) fits = given_turns fine s item block.header taken.refused taken.locator
replied_turns fine s item Wanted (answers.Need need) fits = wanted_turns fine s item need
replied_turns fine s item Fresh (answers.News news) fits = news_turns fine s item news
replied_turns fine s item stage other fits = quiet fine s item

-- ---- the end of an item

resumed_turns : (fine : Bool) (s : SessionState) (item : Option Item) (outcome : Outcome) (hash : Hash256) → outcome.next ≡ Some Fresh → Turns fine s item outcome → Turns fine s item (resumed hash outcome)
resumed_turns fine s item outcome hash news turns = record { suited = turns.suited; keeps = kept turns.keeps; counts = counted turns.counts; tells = λ ready. told (turns.tells ready); requested = asked turns.requested }
  where
    kept : Keeps s item outcome → Keeps s item (resumed hash outcome)
    kept (same_one e) = same_one e
    kept (is_over closed) = is_over closed
    kept (newer partial request at sent) = newer partial request at (but_more outcome.messages (hash ∷ []) ∙ sent)
    kept (came brought) = came brought

    counted : Counts s outcome → Counts s (resumed hash outcome)
    counted (stopped closed silent none) = absurd (let clash : Some Fresh ≡ None = sym news ∙ none in cc)
    counted (used count sent next) = used count (found_more nonce_in outcome.messages (hash ∷ []) refl ∙ sent) next

    told : Tells s outcome → Tells s (resumed hash outcome)
    told (no_wish silent) = no_wish (found_more high_in outcome.messages (hash ∷ []) refl ∙ silent)
    told (one_wish high sent new) = one_wish high (found_more high_in outcome.messages (hash ∷ []) refl ∙ sent) (record { capable = new.capable; other = new.other; kept = new.kept })

    asked : Asks item outcome → Asks item (resumed hash outcome)
    asked (no_asking silent) = no_asking (found_more request_in outcome.messages (hash ∷ []) refl ∙ silent)
    asked (asking short pairs partial request is lacks sent at) = asking short pairs partial request is lacks (found_more request_in outcome.messages (hash ∷ []) refl ∙ sent) at

pub answered_turns : (fine : Bool) (s : SessionState) (item : Option Item) (stage : Stage) (answer : Answer) → (fine ≡ true → suits stage item ≡ true) → Turns fine s item (answered s item stage answer)
unfolding answered
answered_turns fine s item stage answer fits =
    let outcome = replied s item stage answer in
    let turns = replied_turns fine s item stage answer fits in
    resuming_cases (Turns fine s item) outcome turns (λ hash news _ _. resumed_turns fine s item outcome hash news turns)
