-- What a step makes, as tables: it ends the session, or goes on, asks the question that is open after it, and leads to fewer answers.
use Rattle.std.proofs.Common.{◌≡◌, ◌≢◌, ℕ, ◌<◌, ◌≤◌, Bool, true, false, cond, List, [], ◌∷◌, ◌++◌, Option, Some, None, refl, sym, ap, subst, ◌∙◌, arith, inl, inr, ◌⊎◌}
use Rattle.std.specs.Prelude.{pos, not, ◌==◌, ◌&&◌, int_lt, length, filter_map, option_map, Result, Ok, Err}
use Rattle.std.specs.List.{list_any}
use Rattle.std.proofs.lemmas.List.Elements.{filter_map-append}
use Rattle.cb_base.specs.declared.fault.Fault.{Fault}
use Rattle.cb_base.specs.declared.fault.Fault.TheVariants as faults
use Rattle.cb_base.specs.declared.hash.Hash256.{Hash256}
use Rattle.cb_block.specs.declared.block.Block.{Block}
use Rattle.cb_block.specs.declared.header.Header.{Header}
use Rattle.cb_chain.specs.Entries.{block_hash, same}
use Rattle.cb_compact.specs.Slots.{Unfilled}
use Rattle.cb_compact.specs.declared.named_tx.Pair.{Pair}
use Rattle.cb_compact.specs.declared.partial.Filled.{Filled}
use Rattle.cb_compact.specs.declared.partial.Filled.TheVariants.{Sound, Wrong}
use Rattle.cb_peer_state.specs.Fetching.{asks_now, blocks_in, is_due, requests_of, taken_on}
use Rattle.cb_hall.specs.declared.answer.Answer.{Answer}
use Rattle.cb_hall.specs.declared.answer.Answer.TheVariants as answers
use Rattle.cb_hall.specs.declared.question.Question.{Question}
use Rattle.cb_wire.specs.declared.block_transactions.BlockTransactions.{BlockTransactions}
use Rattle.cb_wire.specs.declared.compact_block.HeaderAndShortIds.{HeaderAndShortIds}
use Rattle.cb_wire.specs.declared.inventory.Inventory.{Inventory}
use Rattle.cb_wire.specs.declared.requests.CompactRelay.{CompactRelay}
use Rattle.cb_wire.specs.declared.version.Version.{Version}
use Rattle.cb_compact.specs.Completing.{completed_of}
use Rattle.cb_compact.specs.Places.{has_places}
use Rattle.cb_compact.specs.Rebuilding.{rebuilt_of}
use Rattle.cb_compact.specs.declared.rebuilding.Rebuilt.{Rebuilt}
use Rattle.cb_compact.specs.declared.rebuilding.Rebuilt.TheVariants as rebuilts
use Rattle.cb_state.specs.declared.accepting.Heads.{Heads}
use Rattle.cb_state.specs.declared.news.News.{News}
use Rattle.cb_state.specs.declared.serving.Piece.{Piece}
use Rattle.cb_state.specs.declared.serving.Piece.TheVariants as piece
use Rattle.cb_state.specs.declared.serving_places.Excerpt.{Excerpt}
use Rattle.cb_state.specs.declared.serving_places.Excerpt.TheVariants as excerpts
use Rattle.cb_state.specs.declared.wanting.Need.{Need}
use Rattle.cb_peer_state.specs.Announcing.{announcing, telling}
use Rattle.cb_peer_state.specs.Greeting.{our_version, wish}
use Rattle.cb_peer_state.specs.Inventory.{asking_block, asking_for, asking_headers, asking_txs}
use Rattle.cb_peer_state.specs.Serving.{excerpt_told, lacking_in, nonce_behind, not_found, sent, served, shorts}
use Rattle.cb_wire.specs.declared.item.Item.{Item}
use Rattle.cb_wire.specs.declared.item.Item.TheVariants.{Good, Damaged, Bad}
use Rattle.cb_wire.specs.declared.message.Message.{Message}
use Rattle.cb_wire.specs.declared.message.Message.TheVariants as messages
use Rattle.cb_peer_state.specs.declared.stage.Stage.{Stage}
use Rattle.cb_peer_state.specs.declared.stage.Stage.TheVariants.{Admit, About, Match, Give, Wanted, Fresh}
use Rattle.cb_peer_state.specs.declared.stage.Subject.TheVariants as subjects
use Rattle.cb_peer_state.specs.declared.event.Event.{Event}
use Rattle.cb_peer_state.specs.declared.event.Event.TheVariants as events
use Rattle.cb_peer_state.specs.declared.settings.Settings.{Settings}
use Rattle.cb_peer_state.specs.declared.pending.Pending.{Pending}
use Rattle.cb_peer_state.specs.declared.state.CloseReason.{CloseReason}
use Rattle.cb_peer_state.specs.declared.state.CloseReason.TheVariants as reasons
use Rattle.cb_peer_state.specs.declared.state.Peer.{Peer}
use Rattle.cb_peer_state.specs.declared.state.State.{State}
use Rattle.cb_peer_state.specs.declared.state.State.TheVariants.{Start, Greeted, Ready, Closed}
use Rattle.cb_peer_state.specs.Questions.{fits, is_nil, question_at, question_left, question_of, questions_left, pending_question, short_in, told_of}
use Rattle.cb_peer_state.specs.Event.{ends_at_once, is_reader_end}
use Rattle.cb_peer_state.specs.Pings.{item_ping, ping_nonce, pong_nonce, pongs}
use Rattle.cb_peer_state.specs.Receiving.{Outcome, asks, brought, by_compact, by_headers, by_phase, completed_by, ended, ends, falls_back, filled_by, given_up, gives, greeting, heard_of, in_greeted, in_ready, in_start, introduced, last_hash, processed, received, sends, short_heard, txs_heard}
use Rattle.cb_peer_state.specs.Replying.{answered, before_first, differ, excerpt_answered, given_told, header_in, heads_by, heads_for, heads_told, is_block, is_orphan, is_untold, is_workless, more_behind, more_headers, need_told, news_told, orphaned, paired, pairs_told, rebuilt_by, replied, resumed, search, seeks, served_told, short_told, taken_told, tip_by, tip_told, tx_request, txs_told, wanted_told, wish_told, without_brought}
use Rattle.cb_peer_state.specs.Session.{Stepped, arrives, closes, for_item, open_step, pending_of, pinged, stays, told}
use Rattle.cb_peer_state.specs.declared.session_state.SessionState.{SessionState}
use Rattle.cb_peer_state.proofs.Cases.{brought_cases, dropping_cases}
use Rattle.cb_peer_state.proofs.Resuming.{resuming_cases}
use Rattle.cb_peer_state.proofs.Behind.{found_more, orphaned_cases, search_all, unless_all}
use Rattle.cb_peer_state.specs.State.{bare, freed, is_closed, is_ready, landing, next_nonce, seeking, unless_remembered, with_child, with_fallen, with_fetch, with_lacking, with_made, with_partial, with_peer, with_pending, with_probe, with_state, with_unknown}

-- one of two
if_either : {A : Type 0} (P : A → Type 0) (b : Bool) (x y : A) → P x → P y → P (cond b x y)
if_either P true x y p q = p
if_either P false x y p q = q

open_clash : {P : Type 0} (b : Bool) → b ≡ false → b ≡ true → P
open_clash b e f = absurd (let clash = sym e ∙ f in cc)

-- ---- what is made of an item or an answer

-- how many answers what is asked then still leads to
abbrev pub next_left : Option Stage → ℕ
next_left None = 0
next_left (Some stage) = question_left stage

-- the session is over, nothing is sent and nothing asked
abbrev pub stopped : Settings → CloseReason → Outcome
stopped settings why = record { session = bare settings (Closed why); messages = []; next = None }

-- what neither an item nor an answer changes: the settings, and how many times `ping` was sent
abbrev pub Fixed : Type 0
Fixed = Settings × ℕ

abbrev pub fixed_of : SessionState → Fixed
fixed_of s = (s.settings, s.probes)

-- What an outcome of a session that went on comes to. It goes on, leads to fewer answers than so many, and sends these pongs; or it
-- ends, in another way than by the peer's end.
pub data Comes (fixed : Fixed) (left : ℕ) (nonces : List ℕ) (outcome : Outcome) : Type 0 where
  goes : is_closed outcome.session.state ≡ false → fixed_of outcome.session ≡ fixed → next_left outcome.next < left → pongs outcome.messages ≡ nonces → Comes fixed left nonces outcome
  stops : (why : CloseReason) → why ≢ reasons.Bye → outcome ≡ stopped fixed.0 why → Comes fixed left nonces outcome

more : (fixed : Fixed) (left most : ℕ) (nonces : List ℕ) (outcome : Outcome) → left ≤ most → Comes fixed left nonces outcome → Comes fixed most nonces outcome
more fixed left most nonces outcome few (goes going same next sent) = goes going same (omega (arith, next, few)) sent
more fixed left most nonces outcome few (stops why other e) = stops why other e

renamed : (fixed : Fixed) (left : ℕ) (nonces nonces' : List ℕ) (outcome : Outcome) → nonces ≡ nonces' → Comes fixed left nonces outcome → Comes fixed left nonces' outcome
renamed fixed left nonces nonces' outcome e c = subst (λ (ns : List ℕ). Comes fixed left ns outcome) e c

-- the end of an item, or of a tick
ends_comes : (s : SessionState) (sent : List Message) → is_closed s.state ≡ false → Comes (fixed_of s) 3 (pongs sent) (ends s sent)
unfolding ends
ends_comes s sent going =
    if_either (Comes (fixed_of s) 3 (pongs sent)) (not (is_ready s.state)) (sends s sent) (cond (is_due s.fetch) (asks s sent Wanted) (asks s sent Fresh)) (goes going refl (omega arith) refl)
    (if_either (Comes (fixed_of s) 3 (pongs sent)) (is_due s.fetch) (asks s sent Wanted) (asks s sent Fresh) (goes going refl (omega arith) refl) (goes going refl (omega arith) refl))

unless_plain : (s : SessionState) (sent : List Message) → pongs sent ≡ [] → pongs (unless_remembered s sent) ≡ []
unless_plain s sent plain = unless_all (λ (list : List Message). pongs list ≡ []) s sent refl plain

ends_plain : (s : SessionState) (sent : List Message) → pongs sent ≡ [] → is_closed s.state ≡ false → Comes (fixed_of s) 3 [] (ends s sent)
ends_plain s sent plain going = renamed (fixed_of s) 3 (pongs sent) [] (ends s sent) plain (ends_comes s sent going)

ends_unless : (s : SessionState) (sent : List Message) → pongs sent ≡ [] → is_closed s.state ≡ false → Comes (fixed_of s) 3 [] (ends s (unless_remembered s sent))
ends_unless s sent plain going = ends_plain s (unless_remembered s sent) (unless_plain s sent plain) going

search_plain : (found : Bool) (s : SessionState) (locator : List Hash256) → pongs (search found s locator) ≡ []
search_plain found s locator = search_all (λ (list : List Message). pongs list ≡ []) found s locator refl refl

seeks_comes : (s : SessionState) (locator : List Hash256) → is_closed s.state ≡ false → Comes (fixed_of s) 3 [] (seeks s locator)
seeks_comes s locator going = ends_plain (seeking true s) (search true s locator) (search_plain true s locator) going

orphaned_comes : (s : SessionState) (header : Option Header) (locator : List Hash256) → is_closed s.state ≡ false → Comes (fixed_of s) 3 [] (orphaned s header locator)
orphaned_comes s header locator going =
    orphaned_cases (Comes (fixed_of s) 3 []) s header locator (seeks_comes s locator going) (λ of _ _. ends_comes (with_child (block_hash of) of.prev s) [] going)

-- ---- messages that are no pongs

greeting_plain : (settings : Settings) → pongs (greeting settings) ≡ []
greeting_plain settings =
    if_either (λ (sent : List Message). pongs sent ≡ []) settings.inbound (our_version settings.nonce settings.time settings.height ∷ messages.Verack ∷ []) (messages.Verack ∷ []) refl refl

wishes_by : (a b : Bool) (relay : CompactRelay) → pongs (cond a [] (messages.SendHeaders ∷ []) ++ cond b [] (messages.SendCmpct relay ∷ [])) ≡ []
wishes_by true true relay = refl
wishes_by true false relay = refl
wishes_by false true relay = refl
wishes_by false false relay = refl

more_plain : (headers : List Header) → pongs (more_behind headers) ≡ []
more_plain [] = refl
more_plain (first ∷ others) = if_either (λ (sent : List Message). pongs sent ≡ []) (length (first ∷ others) == 2000) (asking_headers (last_hash first others ∷ []) ∷ []) [] refl refl

more_headers_plain : (item : Option Item) → pongs (more_headers item) ≡ []
more_headers_plain (Some (Good (messages.Headers headers))) = more_plain headers
more_headers_plain item = refl

asking_plain : (entries : List Inventory) → pongs (asking_for entries) ≡ []
asking_plain [] = refl
asking_plain (first ∷ others) = refl

pongs_append : (xs ys : List Message) → pongs xs ≡ [] → pongs ys ≡ [] → pongs (xs ++ ys) ≡ []
pongs_append xs ys e f = filter_map-append pong_nonce xs ys ∙ ap (λ (ns : List ℕ). ns ++ pongs ys) e ∙ f

need_plain : (s : SessionState) (entries : List Inventory) (found : Bool) (locator : List Hash256) → pongs (asking_for entries ++ search found s locator) ≡ []
need_plain s entries found locator = pongs_append (asking_for entries) (search found s locator) (asking_plain entries) (search_plain found s locator)

not_found_plain : (entries : List Inventory) → pongs (not_found entries) ≡ []
not_found_plain [] = refl
not_found_plain (first ∷ others) = refl

there_plain : (nonce : ℕ) (pieces : List Piece) → pongs (sent nonce pieces) ≡ []
there_plain nonce [] = refl
there_plain nonce (piece.Tx tx ∷ pieces) = there_plain nonce pieces
there_plain nonce (piece.Whole block ∷ pieces) = there_plain nonce pieces
there_plain nonce (piece.Short block ∷ pieces) = there_plain (nonce_behind nonce (piece.Short block)) pieces
there_plain nonce (piece.Lacking asked ∷ pieces) = there_plain nonce pieces

served_plain : (nonce : ℕ) (pieces : List Piece) → pongs (served nonce pieces) ≡ []
served_plain nonce pieces = pongs_append (sent nonce pieces) (not_found (filter_map lacking_in pieces)) (there_plain nonce pieces) (not_found_plain (filter_map lacking_in pieces))

excerpt_plain : (excerpt : Excerpt) → pongs (excerpt_told excerpt) ≡ []
excerpt_plain excerpts.Absent = refl
excerpt_plain (excerpts.Refused fault) = refl
excerpt_plain (excerpts.Part part) = refl
excerpt_plain (excerpts.Whole block) = refl

announced_plain : (headers : Bool) (tip : Hash256) (path : List Header) → pongs (announcing headers tip path) ≡ []
announced_plain headers tip [] = refl
announced_plain true tip (first ∷ others) = refl
announced_plain false tip (first ∷ others) = refl

telling_plain : (txids : List Hash256) → pongs (telling txids) ≡ []
telling_plain [] = refl
telling_plain (first ∷ others) = refl

tip_by_plain : (s : SessionState) (news : News) (block : Option Block) → pongs (tip_by s news block) ≡ []
tip_by_plain s news (Some block) = refl
tip_by_plain s news None = announced_plain (s.peer.by_headers && not news.long) news.tip news.path

tip_plain : (s : SessionState) (news : News) → pongs (tip_told s news) ≡ []
tip_plain s news = if_either (λ (sent : List Message). pongs sent ≡ []) (is_untold s news) [] (tip_by s news news.block) refl (tip_by_plain s news news.block)

wish_plain : (s : SessionState) (high : Bool) → pongs (wish_told s high) ≡ []
wish_plain s high = if_either (λ (sent : List Message). pongs sent ≡ []) (s.peer.capable && differ high s.compact.asked_high) (wish high ∷ []) [] refl refl

txs_plain : (s : SessionState) (item : Option Item) (txids : List Hash256) → pongs (txs_told s item txids) ≡ []
txs_plain s item txids = if_either (λ (sent : List Message). pongs sent ≡ []) s.peer.relays (telling (without_brought item txids)) [] (telling_plain (without_brought item txids)) refl

news_plain : (s : SessionState) (item : Option Item) (news : News) → pongs ((tip_told s news ++ txs_told s item news.txids) ++ wish_told s news.high) ≡ []
news_plain s item news =
    pongs_append (tip_told s news ++ txs_told s item news.txids) (wish_told s news.high)
    (pongs_append (tip_told s news) (txs_told s item news.txids) (tip_plain s news) (txs_plain s item news.txids))
    (wish_plain s news.high)

-- ---- a message that was let in

introduced_comes : (s : SessionState) (version : Version) → is_closed s.state ≡ false → Comes (fixed_of s) 6 [] (introduced s version)
unfolding introduced
introduced_comes s version going =
    let greeted : SessionState =
    with_state Greeted (with_peer (record { version = version.version; relays = version.relay; by_headers = s.peer.by_headers; capable = s.peer.capable; wants_high = s.peer.wants_high }) s) in
    if_either (Comes (fixed_of s) 6 []) (version.nonce == s.settings.nonce) (ended reasons.SelfPeer s) (cond (int_lt version.version (pos 70001)) (ended reasons.OldPeer s) (sends greeted (greeting s.settings))) (stops reasons.SelfPeer (λ e. cc) refl)
    (if_either (Comes (fixed_of s) 6 []) (int_lt version.version (pos 70001)) (ended reasons.OldPeer s) (sends greeted (greeting s.settings)) (stops reasons.OldPeer (λ e. cc) refl) (goes refl refl (omega arith) (greeting_plain s.settings)))

in_start_comes : (s : SessionState) (message : Message) → is_closed s.state ≡ false → Comes (fixed_of s) 6 [] (in_start s message)
unfolding in_start
in_start_comes s (messages.Version version) going = introduced_comes s version going
in_start_comes s other going = goes going refl (omega arith) refl

compact_either : (P : SessionState → Type 0) (relay : CompactRelay) (s : SessionState) → ((peer : Peer) → P (with_peer peer s)) → P s → P (by_compact relay s)
compact_either P relay s changed same =
    let peer : Peer = record { version = s.peer.version; relays = s.peer.relays; by_headers = s.peer.by_headers; capable = true; wants_high = relay.high_bandwidth } in
    if_either P (relay.version == 1) (with_peer peer s) s (changed peer) same

in_greeted_comes : (s : SessionState) (message : Message) → is_closed s.state ≡ false → Comes (fixed_of s) 6 [] (in_greeted s message)
unfolding in_greeted
in_greeted_comes s messages.Verack going =
    goes refl refl (omega arith) (wishes_by (int_lt s.peer.version (pos 70012)) (int_lt s.peer.version (pos 70014)) (record { high_bandwidth = false; version = 1 }))
in_greeted_comes s messages.SendHeaders going = goes going refl (omega arith) refl
in_greeted_comes s (messages.SendCmpct relay) going =
    compact_either (λ (x : SessionState). Comes (fixed_of s) 6 [] (sends x [])) relay s (λ peer. goes going refl (omega arith) refl) (goes going refl (omega arith) refl)
in_greeted_comes s other going = goes going refl (omega arith) refl

brought_comes : (s : SessionState) (block : Block) → is_closed s.state ≡ false → Comes (fixed_of s) 6 [] (brought s block)
brought_comes s block going =
    let hash : Hash256 = block_hash block.header in
    brought_cases (Comes (fixed_of s) 6 []) s block
    (λ _. dropping_cases (λ (x : SessionState). Comes (fixed_of s) 6 [] (asks (heard_of hash x) [] (About subjects.Block))) hash (landing hash s) (goes going refl (omega arith) refl) (goes going refl (omega arith) refl))
    (stops reasons.BadBlock (λ e. cc) refl)

quiet_comes : (s : SessionState) → is_closed s.state ≡ false → Comes (fixed_of s) 6 [] (ends s [])
quiet_comes s going = more (fixed_of s) 3 6 [] (ends s []) (omega arith) (ends_comes s [] going)

-- ---- compact blocks

falls_back_comes : (s : SessionState) (hash before : Hash256) → is_closed s.state ≡ false → Comes (fixed_of s) 3 [] (falls_back s hash before)
unfolding falls_back
falls_back_comes s hash before going =
    let fallen : SessionState = with_fallen hash before s in
    let sent : List Message = cond (asks_now s.fetch hash) (asking_block hash ∷ []) [] in
    renamed (fixed_of s) 3 (pongs sent) [] (ends fallen sent) (if_either (λ (sent : List Message). pongs sent ≡ []) (asks_now s.fetch hash) (asking_block hash ∷ []) [] refl refl) (ends_comes fallen sent going)

gives_comes : (s : SessionState) (block : Block) → is_closed s.state ≡ false → Comes (fixed_of s) 4 [] (gives s block)
gives_comes s block going = goes going refl (omega arith) refl

short_heard_comes : (s : SessionState) (short : HeaderAndShortIds) → is_closed s.state ≡ false → Comes (fixed_of s) 6 [] (short_heard s short)
unfolding short_heard
short_heard_comes s short going =
    if_either (Comes (fixed_of s) 6 []) (has_places short.txs) (asks (heard_of (block_hash short.header) s) [] (About subjects.Headers)) (ended reasons.BadMessage s) (goes going refl (omega arith) refl) (stops reasons.BadMessage (λ e. cc) refl)

filled_by_comes : (s : SessionState) (hash before : Hash256) (filled : Result Filled Fault) → is_closed s.state ≡ false → Comes (fixed_of s) 4 [] (filled_by s hash before filled)
filled_by_comes s hash before (Ok (Sound block)) going = gives_comes s block going
filled_by_comes s hash before (Ok Wrong) going = more (fixed_of s) 3 4 [] (falls_back s hash before) (omega arith) (falls_back_comes s hash before going)
filled_by_comes s hash before (Err fault) going = stops reasons.BadMessage (λ e. cc) refl

completed_by_comes : (s : SessionState) (given : BlockTransactions) (partial : Option Unfilled) → is_closed s.state ≡ false → Comes (fixed_of s) 6 [] (completed_by s given partial)
completed_by_comes s given None going = quiet_comes s going
completed_by_comes s given (Some partial) going =
    let filled : Outcome = filled_by (with_partial None s) given.block partial.header.prev (completed_of partial given) in
    if_either (Comes (fixed_of s) 6 []) (same (block_hash partial.header) given.block) filled (ends s [])
    (more (fixed_of s) 4 6 [] filled (omega arith) (filled_by_comes (with_partial None s) given.block partial.header.prev (completed_of partial given) going)) (quiet_comes s going)

txs_heard_comes : (s : SessionState) (given : BlockTransactions) → is_closed s.state ≡ false → Comes (fixed_of s) 6 [] (txs_heard s given)
unfolding txs_heard
txs_heard_comes s given going = completed_by_comes s given s.compact.partial going

in_ready_comes : (s : SessionState) (message : Message) → is_closed s.state ≡ false → Comes (fixed_of s) 6 [] (in_ready s message)
unfolding in_ready
in_ready_comes s messages.SendHeaders going = quiet_comes (by_headers s) going
in_ready_comes s (messages.SendCmpct relay) going =
    compact_either (λ (x : SessionState). Comes (fixed_of s) 6 [] (ends x [])) relay s (λ peer. quiet_comes (with_peer peer s) going) (quiet_comes s going)
in_ready_comes s (messages.Headers []) going = quiet_comes (with_unknown false s) going
in_ready_comes s (messages.Headers (first ∷ others)) going = goes going refl (omega arith) refl
in_ready_comes s (messages.Inv entries) going =
    if_either (Comes (fixed_of s) 6 []) (is_nil (told_of entries)) (ends s []) (asks s [] (About subjects.Inventory)) (quiet_comes s going) (goes going refl (omega arith) refl)
in_ready_comes s (messages.GetData entries) going = goes going refl (omega arith) refl
in_ready_comes s (messages.GetHeaders request) going = goes going refl (omega arith) refl
in_ready_comes s (messages.NotFound entries) going = quiet_comes (with_fetch (given_up entries s.fetch) s) going
in_ready_comes s (messages.Tx tx) going = goes going refl (omega arith) refl
in_ready_comes s (messages.Block block) going = brought_comes s block going
in_ready_comes s (messages.CmpctBlock short) going = short_heard_comes s short going
in_ready_comes s (messages.GetBlockTxn request) going = goes going refl (omega arith) refl
in_ready_comes s (messages.BlockTxn given) going = txs_heard_comes s given going
in_ready_comes s other going = quiet_comes s going

by_phase_comes : (state : State) (s : SessionState) (message : Message) → is_closed s.state ≡ false → Comes (fixed_of s) 6 [] (by_phase state s message)
by_phase_comes Start s message going = in_start_comes s message going
by_phase_comes Greeted s message going = in_greeted_comes s message going
by_phase_comes Ready s message going = in_ready_comes s message going
by_phase_comes (Closed why) s message going = goes going refl (omega arith) refl

-- the nonce of a ping, as the list of the pongs that answer it
abbrev pub nonces_of : Option ℕ → List ℕ
nonces_of None = []
nonces_of (Some nonce) = nonce ∷ []

received_comes : (s : SessionState) (message : Message) → is_closed s.state ≡ false → Comes (fixed_of s) 6 (nonces_of (ping_nonce message)) (received s message)
unfolding received
received_comes s (messages.Ping nonce) going = more (fixed_of s) 3 6 (nonce ∷ []) (ends s (messages.Pong nonce ∷ [])) (omega arith) (ends_comes s (messages.Pong nonce ∷ []) going)
received_comes s other going = by_phase_comes s.state s other going

-- what an item owes in pongs, and a tick none
abbrev pub owed_by : Option Item → List ℕ
owed_by None = []
owed_by (Some item) = nonces_of (item_ping item)

processed_comes : (s : SessionState) (item : Option Item) → is_closed s.state ≡ false → Comes (fixed_of s) 6 (owed_by item) (processed s item)
unfolding processed
processed_comes s None going = quiet_comes s going
processed_comes s (Some (Good message)) going = received_comes s message going
processed_comes s (Some Damaged) going = quiet_comes s going
processed_comes s (Some (Bad command fault)) going = stops reasons.BadMessage (λ e. cc) refl

-- ---- an answer

heads_by_comes : (s : SessionState) (item : Option Item) (refused : Option Fault) (locator : List Hash256) → is_closed s.state ≡ false → Comes (fixed_of s) 3 [] (heads_by s item refused locator)
heads_by_comes s item (Some faults.BadWork) locator going = stops reasons.BadBlock (λ e. cc) refl
heads_by_comes s item (Some faults.NoParent) locator going = seeks_comes s locator going
heads_by_comes s item (Some other) locator going = ends_comes (with_unknown false s) [] going
heads_by_comes s item None locator going =
    ends_plain (with_unknown false s) (unless_remembered s (more_headers item)) (unless_plain s (more_headers item) (more_headers_plain item)) going

-- the header of a compact block
short_told_comes : (s : SessionState) (hash : Hash256) (heads : Heads) → is_closed s.state ≡ false → Comes (fixed_of s) 5 [] (short_told s hash heads)
unfolding short_told
short_told_comes s hash heads going =
    let found : Bool = is_orphan heads.refused in
    let sent : List Message = search found s heads.locator in
    let plain : pongs sent ≡ [] = search_plain found s heads.locator in
    let known : Outcome = ends (landing hash (seeking found s)) sent in
    let lacking : Outcome = asks (seeking found s) sent Match in
    if_either (Comes (fixed_of s) 5 []) (is_workless heads.refused) (ended reasons.BadBlock s) (cond (is_nil heads.lack) known lacking) (stops reasons.BadBlock (λ e. cc) refl)
    (if_either (Comes (fixed_of s) 5 []) (is_nil heads.lack) known lacking
    (more (fixed_of s) 3 5 [] known (omega arith) (ends_plain (landing hash (seeking found s)) sent plain going))
    (goes going refl (omega arith) plain))

heads_for_comes : (s : SessionState) (item : Option Item) (short : Option HeaderAndShortIds) (heads : Heads) → is_closed s.state ≡ false → Comes (fixed_of s) 5 [] (heads_for s item short heads)
heads_for_comes s item None heads going =
    let wanting : SessionState = with_lacking heads.lack (before_first item) s in
    more (fixed_of s) 3 5 [] (heads_by wanting item heads.refused heads.locator) (omega arith) (heads_by_comes wanting item heads.refused heads.locator going)
heads_for_comes s item (Some short) heads going = short_told_comes s (block_hash short.header) heads going

heads_told_comes : (s : SessionState) (item : Option Item) (heads : Heads) → is_closed s.state ≡ false → Comes (fixed_of s) 5 [] (heads_told s item heads)
unfolding heads_told
heads_told_comes s item heads going = heads_for_comes s item (short_in item) heads going

-- a block that is rebuilt
rebuilt_by_comes : (s : SessionState) (header : Header) (rebuilt : Rebuilt) → is_closed s.state ≡ false → Comes (fixed_of s) 4 [] (rebuilt_by s header rebuilt)
rebuilt_by_comes s header (rebuilts.Sound block) going = gives_comes s block going
rebuilt_by_comes s header (rebuilts.Lacking partial request) going =
    let kept : SessionState = with_partial (Some partial) s in
    more (fixed_of s) 3 4 [] (ends kept (asking_txs request ∷ [])) (omega arith) (ends_comes kept (asking_txs request ∷ []) going)
rebuilt_by_comes s header rebuilts.Useless going = more (fixed_of s) 3 4 [] (falls_back s (block_hash header) header.prev) (omega arith) (falls_back_comes s (block_hash header) header.prev going)

paired_comes : (s : SessionState) (short : Option HeaderAndShortIds) (pairs : List Pair) → is_closed s.state ≡ false → Comes (fixed_of s) 4 [] (paired s short pairs)
paired_comes s None pairs going = goes going refl (omega arith) refl
paired_comes s (Some short) pairs going =
    if_either (Comes (fixed_of s) 4 []) (has_places short.txs) (rebuilt_by s short.header (rebuilt_of short pairs)) (ended reasons.BadMessage s)
    (rebuilt_by_comes s short.header (rebuilt_of short pairs) going) (stops reasons.BadMessage (λ e. cc) refl)

pairs_told_comes : (s : SessionState) (item : Option Item) (pairs : List Pair) → is_closed s.state ≡ false → Comes (fixed_of s) 4 [] (pairs_told s item pairs)
unfolding pairs_told
pairs_told_comes s item pairs going = paired_comes s (short_in item) pairs going

given_told_comes : (s : SessionState) (header : Header) (refused : Option Fault) (locator : List Hash256) → is_closed s.state ≡ false → Comes (fixed_of s) 3 [] (given_told s header refused locator)
unfolding given_told
given_told_comes s header refused locator going =
    if_either (Comes (fixed_of s) 3 []) (is_orphan refused) (orphaned s (Some header) locator) (ends s []) (orphaned_comes s (Some header) locator going) (ends_comes s [] going)

-- what the peer requested
told_of_excerpt : (s : SessionState) (excerpt : Excerpt) → is_closed s.state ≡ false → Comes (fixed_of s) 3 [] (ends s (excerpt_told excerpt))
told_of_excerpt s excerpt going = renamed (fixed_of s) 3 (pongs (excerpt_told excerpt)) [] (ends s (excerpt_told excerpt)) (excerpt_plain excerpt) (ends_comes s (excerpt_told excerpt) going)

excerpt_answered_comes : (s : SessionState) (excerpt : Excerpt) → is_closed s.state ≡ false → Comes (fixed_of s) 3 [] (excerpt_answered s excerpt)
unfolding excerpt_answered
excerpt_answered_comes s (excerpts.Refused fault) going = stops reasons.BadRequest (λ e. cc) refl
excerpt_answered_comes s other going = told_of_excerpt s other going

served_told_comes : (s : SessionState) (pieces : List Piece) → is_closed s.state ≡ false → Comes (fixed_of s) 3 [] (served_told s pieces)
unfolding served_told
served_told_comes s pieces going =
    let sent : List Message = served (next_nonce s) pieces in
    renamed (fixed_of s) 3 (pongs sent) [] (ends (with_made (shorts pieces) s) sent) (served_plain (next_nonce s) pieces) (ends_comes (with_made (shorts pieces) s) sent going)

taken_told_comes : (s : SessionState) (header : Option Header) (refused : Option Fault) (locator : List Hash256) → is_closed s.state ≡ false → Comes (fixed_of s) 3 [] (taken_told s header refused locator)
unfolding taken_told
taken_told_comes s header None locator going = ends_comes s [] going
taken_told_comes s header (Some faults.Known) locator going = ends_comes s [] going
taken_told_comes s header (Some faults.NoParent) locator going = orphaned_comes s header locator going
taken_told_comes s header (Some other) locator going = stops reasons.BadBlock (λ e. cc) refl

need_told_comes : (s : SessionState) (need : Need) → is_closed s.state ≡ false → Comes (fixed_of s) 3 [] (need_told s need)
unfolding need_told
need_told_comes s need going =
    let found : Bool = list_any is_block need.entries in
    ends_plain (seeking found s) (asking_for (filter_map tx_request need.entries) ++ search found s need.locator) (need_plain s (filter_map tx_request need.entries) found need.locator) going

wanted_told_comes : (s : SessionState) (need : Need) → is_closed s.state ≡ false → Comes (fixed_of s) 2 [] (wanted_told s need)
unfolding wanted_told
wanted_told_comes s need going = goes going refl (omega arith) (asking_plain (requests_of (need.near && s.peer.capable) (taken_on (blocks_in need.entries)).flight))

news_told_comes : (s : SessionState) (item : Option Item) (news : News) → is_closed s.state ≡ false → Comes (fixed_of s) 1 [] (news_told s item news)
unfolding news_told
news_told_comes s item news going = goes going refl (omega arith) (news_plain s item news)

-- what comes to fewer than three is fewer than what an item leads to
later : (s : SessionState) (outcome : Outcome) → Comes (fixed_of s) 3 [] outcome → Comes (fixed_of s) 5 [] outcome
later s outcome c = more (fixed_of s) 3 5 [] outcome (omega arith) c

-- what is owed in pongs where something was asked for an item: it is pending until the hall's leave
abbrev pub owed_at : Stage → Option Item → List ℕ
owed_at Admit item = owed_by item
owed_at other item = []

replied_comes : (q s : SessionState) (item : Option Item) (stage : Stage) (answer : Answer) → fits (question_of q item stage) answer ≡ true → is_closed s.state ≡ false → Comes (fixed_of s) (question_left stage) (owed_at stage item) (replied s item stage answer)
unfolding replied
replied_comes q s item stage answers.Kicked fit going = stops reasons.Kicked (λ e. cc) refl
replied_comes q s item Admit answers.Go fit going = processed_comes s item going
replied_comes q s item Admit other fit going = absurd cc
replied_comes q s item (About subject) (answers.Heads heads) fit going = heads_told_comes s item heads going
replied_comes q s item (About subject) (answers.Locator locator) fit going = later s (ends s (unless_remembered s (asking_headers locator ∷ []))) (ends_unless s (asking_headers locator ∷ []) refl going)
replied_comes q s item (About subject) (answers.Need need) fit going = later s (need_told s need) (need_told_comes s need going)
replied_comes q s item (About subject) (answers.TxTaken refused) fit going = later s (ends s []) (ends_comes s [] going)
replied_comes q s item (About subject) (answers.Taken taken) fit going = later s (taken_told s (header_in item) taken.refused taken.locator) (taken_told_comes s (header_in item) taken.refused taken.locator going)
replied_comes q s item (About subject) (answers.Served pieces) fit going = later s (served_told s pieces) (served_told_comes s pieces going)
replied_comes q s item (About subject) (answers.Following headers) fit going = later s (ends s (messages.Headers headers ∷ [])) (ends_comes s (messages.Headers headers ∷ []) going)
replied_comes q s item (About subject) (answers.Excerpt excerpt) fit going = later s (excerpt_answered s excerpt) (excerpt_answered_comes s excerpt going)
replied_comes q s item Match (answers.Pairs pairs) fit going = pairs_told_comes s item pairs going
replied_comes q s item (Give block) (answers.Taken taken) fit going = given_told_comes s block.header taken.refused taken.locator going
replied_comes q s item Wanted (answers.Need need) fit going = wanted_told_comes s need going
replied_comes q s item Fresh (answers.News news) fit going = news_told_comes s item news going
replied_comes q s item stage other fit going = goes going refl (omega arith) refl

resumed_comes : (fixed : Fixed) (left : ℕ) (nonces : List ℕ) (outcome : Outcome) (hash : Hash256) → outcome.next ≡ Some Fresh → Comes fixed left nonces outcome → Comes fixed left nonces (resumed hash outcome)
resumed_comes fixed left nonces outcome hash news (goes going same next sent) = goes going same next (found_more pong_nonce outcome.messages (hash ∷ []) refl ∙ sent)
resumed_comes fixed left nonces outcome hash news (stops why other e) =
    absurd (let clash : Some Fresh ≡ None = sym news ∙ ap (λ (o : Outcome). o.next) e in cc)

-- an answer that fits leaves fewer to be waited for, and only leave answers a ping
pub answered_comes : (q s : SessionState) (item : Option Item) (stage : Stage) (answer : Answer) → fits (question_of q item stage) answer ≡ true → is_closed s.state ≡ false → Comes (fixed_of s) (question_left stage) (owed_at stage item) (answered s item stage answer)
unfolding answered
answered_comes q s item stage answer fit going =
    let outcome = replied s item stage answer in
    let comes = replied_comes q s item stage answer fit going in
    resuming_cases (Comes (fixed_of s) (question_left stage) (owed_at stage item)) outcome comes (λ hash news _ _. resumed_comes (fixed_of s) (question_left stage) (owed_at stage item) outcome hash news comes)

-- ---- what is asked is what is open

-- Nothing is asked, and what was open stays open: the event didn't fit, or was a probe.
abbrev pub AsksNothing : SessionState → Stepped → Type 0
AsksNothing s made = (made.question ≡ None) × (made.session.pending ≡ s.pending) × (pending_question made.session ≡ pending_question s)

-- The question that a step asks is the one that is open after it, or it asks nothing.
abbrev pub AsksIt : SessionState → Stepped → Type 0
AsksIt s made = (made.question ≡ pending_question made.session) ⊎ AsksNothing s made

question_same : (s : SessionState) (pending : Option Pending) (item : Option Item) (stage : Stage) → question_of s item stage ≡ question_of (with_pending pending s) item stage
question_same s pending item Admit = refl
question_same s pending item (About subjects.Headers) = refl
question_same s pending item (About subjects.Locator) = refl
question_same s pending item (About subjects.Inventory) = refl
question_same s pending item (About subjects.Tx) = refl
question_same s pending item (About subjects.Block) = refl
question_same s pending item (About subjects.Items) = refl
question_same s pending item (About subjects.After) = refl
question_same s pending item (About subjects.Places) = refl
question_same s pending item Match = refl
question_same s pending item (Give block) = refl
question_same s pending item Wanted = refl
question_same s pending item Fresh = refl

question_probed : (s : SessionState) (item : Option Item) (stage : Stage) → question_of (with_unknown false (with_probe s)) item stage ≡ question_of s item stage
question_probed s item Admit = refl
question_probed s item (About subjects.Headers) = refl
question_probed s item (About subjects.Locator) = refl
question_probed s item (About subjects.Inventory) = refl
question_probed s item (About subjects.Tx) = refl
question_probed s item (About subjects.Block) = refl
question_probed s item (About subjects.Items) = refl
question_probed s item (About subjects.After) = refl
question_probed s item (About subjects.Places) = refl
question_probed s item Match = refl
question_probed s item (Give block) = refl
question_probed s item Wanted = refl
question_probed s item Fresh = refl

-- a `ping` leaves an open question as it is
probed_same : (s : SessionState) (pending : Option Pending) → question_at (with_unknown false (with_probe s)) pending ≡ question_at s pending
probed_same s None = refl
probed_same s (Some pending) = ap (λ (question : Question). Some question) (question_probed s pending.item pending.stage)

asks_next : (item : Option Item) (s : SessionState) (next : Option Stage) → option_map (question_of s item) next ≡ pending_question (with_pending (pending_of item next) s)
asks_next item s None = refl
asks_next item s (Some stage) = ap (λ (question : Question). Some question) (question_same s (pending_of item (Some stage)) item stage)

arrives_asks : (pending : Option Pending) (s : SessionState) (item : Option Item) → AsksIt s (arrives pending s item)
arrives_asks None s item = inl refl
arrives_asks (Some other) s item = inr (refl, refl, refl)

told_asks : (pending : Option Pending) (s : SessionState) (answer : Answer) → AsksIt s (told pending s answer)
told_asks None s answer = inr (refl, refl, refl)
told_asks (Some pending) s answer =
    let outcome : Outcome = answered (freed s) pending.item pending.stage answer in
    if_either (AsksIt s) (fits (question_of s pending.item pending.stage) answer) (for_item pending.item outcome) (stays s) (inl (asks_next pending.item outcome.session outcome.next)) (inr (refl, refl, refl))

pub open_asks : (s : SessionState) (event : Event) → AsksIt s (open_step s event)
unfolding open_step
open_asks s (events.Said item) = arrives_asks s.pending s (Some item)
open_asks s (events.Broken fault) = inl refl
open_asks s events.Tick = arrives_asks s.pending s None
open_asks s events.Probe = if_either (AsksIt s) (is_ready s.state) (pinged s) (stays s) (inr (refl, refl, probed_same s s.pending)) (inr (refl, refl, refl))
open_asks s (events.Told answer) = told_asks s.pending s answer
open_asks s events.ReaderEnd = inl refl
open_asks s events.NoMemory = inl refl
open_asks s events.HallFull = inl refl
open_asks s events.WriteFault = inl refl

-- ---- how a step goes on

-- What a step of a session that went on makes: nothing, where the event doesn't fit; or the session goes on; or it ends, by the
-- peer's end where its reason is Bye.
pub data Steps (s : SessionState) (event : Event) (made : Stepped) : Type 0 where
  passes : made ≡ stays s → Steps s event made
  goes_on : is_closed made.session.state ≡ false → made.session.settings ≡ s.settings → Steps s event made
  ends_by : (why : CloseReason) → (why ≡ reasons.Bye → is_reader_end event ≡ true) → made ≡ closes why s → Steps s event made

outcome_steps : (s : SessionState) (event : Event) (item : Option Item) (left : ℕ) (nonces : List ℕ) (outcome : Outcome) → Comes (fixed_of s) left nonces outcome → Steps s event (for_item item outcome)
outcome_steps s event item left nonces outcome (goes going same next sent) = goes_on going (ap (λ (fixed : Fixed). fixed.0) same)
outcome_steps s event item left nonces outcome (stops why other e) = ends_by why (λ bye. absurd (other bye)) (ap (for_item item) e)

arrives_steps : (pending : Option Pending) (s : SessionState) (event : Event) (item : Option Item) → is_closed s.state ≡ false → Steps s event (arrives pending s item)
arrives_steps None s event item going = goes_on going refl
arrives_steps (Some other) s event item going = passes refl

told_steps : (pending : Option Pending) (s : SessionState) (answer : Answer) → is_closed s.state ≡ false → Steps s (events.Told answer) (told pending s answer)
told_steps None s answer going = passes refl
told_steps (Some pending) s answer going =
    let outcome : Outcome = answered (freed s) pending.item pending.stage answer in
    let by_fit : (b : Bool) → fits (question_of s pending.item pending.stage) answer ≡ b → Steps s (events.Told answer) (cond b (for_item pending.item outcome) (stays s)) =
    elim [
      | true ↦ λ fit. outcome_steps s (events.Told answer) pending.item (question_left pending.stage) (owed_at pending.stage pending.item) outcome (answered_comes s (freed s) pending.item pending.stage answer fit going)
      | false ↦ λ fit. passes refl
    ] in
    by_fit (fits (question_of s pending.item pending.stage) answer) refl

pub open_steps : (s : SessionState) (event : Event) → is_closed s.state ≡ false → Steps s event (open_step s event)
unfolding open_step
open_steps s (events.Said item) going = arrives_steps s.pending s (events.Said item) (Some item) going
open_steps s (events.Broken fault) going = ends_by reasons.BadStream (λ e. absurd cc) refl
open_steps s events.Tick going = arrives_steps s.pending s events.Tick None going
open_steps s events.Probe going = if_either (Steps s events.Probe) (is_ready s.state) (pinged s) (stays s) (goes_on going refl) (passes refl)
open_steps s (events.Told answer) going = told_steps s.pending s answer going
open_steps s events.ReaderEnd going = ends_by reasons.Bye (λ e. refl) refl
open_steps s events.NoMemory going = ends_by reasons.Memory (λ e. absurd cc) refl
open_steps s events.HallFull going = ends_by reasons.HallFull (λ e. absurd cc) refl
open_steps s events.WriteFault going = ends_by reasons.WriteFault (λ e. absurd cc) refl

-- a step that ends the session sends nothing, and leaves nothing to stand
pub record IsOver (made : Stepped) : Type 0 where
  pub silent : made.messages ≡ []
  pub clear : made.session.pending ≡ None

pub closes_over : (s : SessionState) (why : CloseReason) → IsOver (closes why s)
closes_over s why = record { silent = refl; clear = refl }

steps_over : (s : SessionState) (event : Event) (made : Stepped) → Steps s event made → is_closed s.state ≡ false → is_closed made.session.state ≡ true → IsOver made
steps_over s event made (passes e) going closed = open_clash (is_closed s.state) going (ap (λ (m : Stepped). is_closed m.session.state) (sym e) ∙ closed)
steps_over s event made (goes_on after same) going closed = open_clash (is_closed made.session.state) after closed
steps_over s event made (ends_by why bye e) going closed = subst IsOver (sym e) (closes_over s why)

pub open_over : (s : SessionState) (event : Event) → is_closed s.state ≡ false → is_closed (open_step s event).session.state ≡ true → IsOver (open_step s event)
open_over s event going closed = steps_over s event (open_step s event) (open_steps s event going) going closed

-- what a session was given stays
steps_settings : (s : SessionState) (event : Event) (made : Stepped) → Steps s event made → made.session.settings ≡ s.settings
steps_settings s event made (passes e) = ap (λ (m : Stepped). m.session.settings) e
steps_settings s event made (goes_on after same) = same
steps_settings s event made (ends_by why bye e) = ap (λ (m : Stepped). m.session.settings) e

pub open_settings : (s : SessionState) (event : Event) → is_closed s.state ≡ false → (open_step s event).session.settings ≡ s.settings
open_settings s event going = steps_settings s event (open_step s event) (open_steps s event going)

-- only the peer's end ends a session as such
reason_is : (a b : CloseReason) → Closed a ≡ Closed b → a ≡ b
reason_is a b e = cc

steps_bye : (s : SessionState) (event : Event) (made : Stepped) → Steps s event made → is_closed s.state ≡ false → made.session.state ≡ Closed reasons.Bye → is_reader_end event ≡ true
steps_bye s event made (passes e) going bye = open_clash (is_closed s.state) going (ap (λ (m : Stepped). is_closed m.session.state) (sym e) ∙ ap is_closed bye)
steps_bye s event made (goes_on after same) going bye = open_clash (is_closed made.session.state) after (ap is_closed bye)
steps_bye s event made (ends_by why by_end e) going bye = by_end (reason_is why reasons.Bye (ap (λ (m : Stepped). m.session.state) (sym e) ∙ bye))

pub open_bye : (s : SessionState) (event : Event) → is_closed s.state ≡ false → (open_step s event).session.state ≡ Closed reasons.Bye → is_reader_end event ≡ true
open_bye s event going bye = steps_bye s event (open_step s event) (open_steps s event going) going bye

-- an event that ends the session at once ends it
pub open_ends : (s : SessionState) (event : Event) → ends_at_once event ≡ true → is_closed (open_step s event).session.state ≡ true
unfolding open_step
open_ends s (events.Said item) e = absurd cc
open_ends s (events.Broken fault) e = refl
open_ends s events.Tick e = absurd cc
open_ends s events.Probe e = absurd cc
open_ends s (events.Told answer) e = absurd cc
open_ends s events.ReaderEnd e = refl
open_ends s events.NoMemory e = refl
open_ends s events.HallFull e = refl
open_ends s events.WriteFault e = refl

-- ---- fewer answers are needed

pending_left : (item : Option Item) (next : Option Stage) → questions_left (pending_of item next) ≡ next_left next
pending_left item None = refl
pending_left item (Some stage) = refl

outcome_fewer : (fixed : Fixed) (item : Option Item) (left : ℕ) (nonces : List ℕ) (outcome : Outcome) → Comes fixed left nonces outcome → is_closed (for_item item outcome).session.state ≡ false → questions_left (for_item item outcome).session.pending < left
outcome_fewer fixed item left nonces outcome (goes going same next sent) after = (let is = pending_left item outcome.next in omega (arith, is, next))
outcome_fewer fixed item left nonces outcome (stops why other e) after = open_clash (is_closed outcome.session.state) after (ap (λ (p : Outcome). is_closed p.session.state) e)

told_fits : (s : SessionState) (pending : Pending) (answer : Answer) → fits (question_of s pending.item pending.stage) answer ≡ true → told (Some pending) s answer ≡ for_item pending.item (answered (freed s) pending.item pending.stage answer)
told_fits s pending answer fit = ap (λ (b : Bool). cond b (for_item pending.item (answered (freed s) pending.item pending.stage answer)) (stays s)) fit

told_fewer : (s : SessionState) (pending : Pending) (answer : Answer) → is_closed s.state ≡ false → fits (question_of s pending.item pending.stage) answer ≡ true → is_closed (told (Some pending) s answer).session.state ≡ false
    → questions_left (told (Some pending) s answer).session.pending < question_left pending.stage
told_fewer s pending answer going fit =
    subst (λ (made : Stepped). is_closed made.session.state ≡ false → questions_left made.session.pending < question_left pending.stage) (sym (told_fits s pending answer fit))
    (outcome_fewer (fixed_of s) pending.item (question_left pending.stage) (owed_at pending.stage pending.item) (answered (freed s) pending.item pending.stage answer) (answered_comes s (freed s) pending.item pending.stage answer fit going))

fewer_of : (pending : Option Pending) (s : SessionState) (question : Question) (answer : Answer) → is_closed s.state ≡ false → question_at s pending ≡ Some question → fits question answer ≡ true
    → is_closed (told pending s answer).session.state ≡ false → questions_left (told pending s answer).session.pending < questions_left pending
fewer_of None s question answer going asked fit after = absurd cc
fewer_of (Some pending) s question answer going asked fit after =
    let same : question_of s pending.item pending.stage ≡ question = (let e : Some (question_of s pending.item pending.stage) ≡ Some question = asked in cc) in
    told_fewer s pending answer going (ap (λ (q : Question). fits q answer) same ∙ fit) after

-- an answer that fits the open question leaves fewer to be waited for
pub open_fewer : (s : SessionState) (question : Question) (answer : Answer) → is_closed s.state ≡ false → pending_question s ≡ Some question → fits question answer ≡ true
    → is_closed (open_step s (events.Told answer)).session.state ≡ false → questions_left (open_step s (events.Told answer)).session.pending < questions_left s.pending
unfolding open_step
open_fewer s question answer going asked fit after = fewer_of s.pending s question answer going asked fit after

left_some : (stage : Stage) → 1 ≤ question_left stage
left_some Admit = omega arith
left_some (About subject) = omega arith
left_some Match = omega arith
left_some (Give block) = omega arith
left_some Wanted = omega arith
left_some Fresh = omega arith

some_of : (pending : Option Pending) (s : SessionState) (question : Question) → question_at s pending ≡ Some question → 1 ≤ questions_left pending
some_of None s question asked = absurd cc
some_of (Some pending) s question asked = left_some pending.stage

-- what is pending leads to one answer at least
pub some_left : (s : SessionState) (question : Question) → pending_question s ≡ Some question → 1 ≤ questions_left s.pending
some_left s question asked = some_of s.pending s question asked

left_few : (stage : Stage) → question_left stage ≤ 6
left_few Admit = omega arith
left_few (About subject) = omega arith
left_few Match = omega arith
left_few (Give block) = omega arith
left_few Wanted = omega arith
left_few Fresh = omega arith

-- and to six at the most
pub few_left : (pending : Option Pending) → questions_left pending ≤ 6
few_left None = omega arith
few_left (Some pending) = left_few pending.stage

none_of : (pending : Option Pending) (s : SessionState) → question_at s pending ≡ None → pending ≡ None
none_of None s e = refl
none_of (Some pending) s e = absurd cc

-- nothing is pending where no question is open
pub none_pending : (s : SessionState) → pending_question s ≡ None → s.pending ≡ None
none_pending s e = none_of s.pending s e

pub no_question : (s : SessionState) → s.pending ≡ None → pending_question s ≡ None
no_question s e = ap (question_at s) e
