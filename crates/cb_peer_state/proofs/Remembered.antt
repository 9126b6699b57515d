-- What becomes of a remembered header, and of blocks that have no room among the wanted ones.
use Rattle.std.proofs.Common.{◌≡◌, ◌⊎◌, Bool, true, false, cond, List, [], ◌∷◌, ◌++◌, Option, Some, None, Result, Ok, Err, refl, sym, ap, subst, ◌∙◌, inl, inr}
use Rattle.std.specs.Prelude.{◌==◌, ◌&&◌, ◌||◌, not, filter_map, int_lt, is_some, length, nat_lt, pos}
use Rattle.std.specs.List.{list_any}
use Rattle.std.proofs.lemmas.Bool.{or_cases}
use Rattle.std.proofs.lemmas.List.Folds.{list_any-append}
use Rattle.cb_base.specs.declared.fault.Fault.{Fault}
use Rattle.cb_base.specs.declared.fault.Fault.TheVariants as faults
use Rattle.cb_base.specs.declared.hash.Hash256.{Hash256}
use Rattle.cb_block.specs.declared.block.Block.{Block}
use Rattle.cb_block.specs.declared.header.Header.{Header}
use Rattle.cb_chain.specs.Entries.{block_hash, same}
use Rattle.cb_compact.specs.Slots.{Unfilled}
use Rattle.cb_compact.specs.declared.named_tx.Pair.{Pair}
use Rattle.cb_compact.specs.declared.partial.Filled.{Filled}
use Rattle.cb_compact.specs.declared.partial.Filled.TheVariants as filling
use Rattle.cb_peer_state.specs.Fetching.{FetchState, asks_now, blocks_in, fallen_back, has, is_fetched, leaves_out, requests_of, taken_on, wanting_all, wants_none, with_flight, with_wanted}
use Rattle.cb_peer_state.proofs.Rooms.{each_fetched}
use Rattle.cb_hall.specs.declared.answer.Answer.{Answer}
use Rattle.cb_hall.specs.declared.answer.Answer.TheVariants as answers
use Rattle.cb_wire.specs.declared.block_transactions.BlockTransactions.{BlockTransactions}
use Rattle.cb_wire.specs.declared.compact_block.HeaderAndShortIds.{HeaderAndShortIds}
use Rattle.cb_wire.specs.declared.inventory.Inventory.{Inventory}
use Rattle.cb_wire.specs.declared.inventory.Inventory.TheVariants as entry
use Rattle.cb_wire.specs.declared.requests.CompactRelay.{CompactRelay}
use Rattle.cb_wire.specs.declared.version.Version.{Version}
use Rattle.cb_compact.specs.Completing.{completed_of}
use Rattle.cb_compact.specs.Places.{has_places}
use Rattle.cb_compact.specs.Rebuilding.{rebuilt_of}
use Rattle.cb_compact.specs.declared.rebuilding.Rebuilt.{Rebuilt}
use Rattle.cb_compact.specs.declared.rebuilding.Rebuilt.TheVariants as rebuilts
use Rattle.cb_state.specs.declared.accepting.Heads.{Heads}
use Rattle.cb_state.specs.declared.news.News.{News}
use Rattle.cb_state.specs.declared.serving_places.Excerpt.{Excerpt}
use Rattle.cb_state.specs.declared.serving_places.Excerpt.TheVariants as excerpts
use Rattle.cb_state.specs.declared.wanting.Need.{Need}
use Rattle.cb_peer_state.specs.Announcing.{announcing, telling}
use Rattle.cb_peer_state.specs.Greeting.{wish, wishes}
use Rattle.cb_peer_state.specs.Inventory.{asking_block, asking_for, asking_headers, asking_txs}
use Rattle.cb_peer_state.specs.Serving.{excerpt_told, served, shorts}
use Rattle.cb_wire.specs.declared.item.Item.{Item}
use Rattle.cb_wire.specs.declared.item.Item.TheVariants.{Good, Damaged, Bad}
use Rattle.cb_wire.specs.declared.message.Message.{Message}
use Rattle.cb_wire.specs.declared.message.Message.TheVariants as messages
use Rattle.cb_peer_state.specs.declared.event.Event.{Event}
use Rattle.cb_peer_state.specs.declared.event.Event.TheVariants as events
use Rattle.cb_peer_state.specs.declared.pending.Pending.{Pending}
use Rattle.cb_peer_state.specs.declared.session_state.SessionState.{SessionState}
use Rattle.cb_peer_state.specs.declared.settings.Settings.{Settings}
use Rattle.cb_peer_state.specs.declared.stage.Stage.{Stage}
use Rattle.cb_peer_state.specs.declared.stage.Stage.TheVariants.{Admit, About, Match, Give, Wanted, Fresh}
use Rattle.cb_peer_state.specs.declared.stage.Subject.TheVariants as subjects
use Rattle.cb_peer_state.specs.declared.state.CloseReason.{CloseReason}
use Rattle.cb_peer_state.specs.declared.state.CloseReason.TheVariants as reasons
use Rattle.cb_peer_state.specs.declared.state.State.{State}
use Rattle.cb_peer_state.specs.declared.state.State.TheVariants.{Start, Greeted, Ready, Closed}
use Rattle.cb_peer_state.specs.Questions.{is_nil, short_in, told_of}
use Rattle.cb_peer_state.specs.Receiving.{Outcome, asks, brought, by_compact, by_headers, by_phase, completed_by, ended, ends, falls_back, filled_by, given_up, gives_up, greeting, heard_of, in_greeted, in_ready, in_start, introduced, processed, received, sends, short_heard, txs_heard}
use Rattle.cb_peer_state.specs.Replying.{answered, asks_news, before_first, differ, excerpt_answered, given_told, heads_by, heads_for, heads_told, is_block, is_untold, is_workless, more_headers, need_told, news_told, paired, pairs_told, rebuilt_by, replied, resumed, resumes, resuming, served_told, short_told, taken_told, tip_by, tip_told, tx_request, wanted_told, wish_told, without_brought, header_in, is_orphan, orphaned, search, seeks, txs_told}
use Rattle.cb_peer_state.specs.Session.{Stepped, arrives, for_item, open_step, pending_of, pinged, stays, step_of}
use Rattle.cb_peer_state.specs.State.{freed, is_closed, is_ready, landing, next_nonce, remembers, unless_remembered, with_fallen, with_fetch, with_lacking, with_made, with_partial, with_peer, with_pending, with_state, may_seek, seeking, with_unknown}
use Rattle.cb_peer_state.proofs.Cases.{brought_cases, by_test, dropping_cases, ends_cases}
use Rattle.cb_peer_state.proofs.Resuming.{resuming_cases}
use Rattle.cb_peer_state.specs.Laws.{IsReached, asks_for_headers, completes, is_short_of, rebuilds_at, rebuilds_by}
use Rattle.cb_peer_state.specs.Laws.IsReached.{opens, steps, stops}
use Rattle.cb_peer_state.specs.Resuming.{IsKept, IsWantedBy, Resumes, header_before, header_requests}
use Rattle.cb_peer_state.specs.Resuming.IsKept.{fetched, remembered, asked}
use Rattle.cb_peer_state.specs.Resuming.IsWantedBy.{was, falls, needed}
use Rattle.cb_peer_state.specs.Resuming.Resumes.{waits, asks as resumes_now, ends as is_ended}
use Rattle.cb_peer_state.proofs.Behind.{same_fetch, orphaned_cases}
use Rattle.cb_peer_state.proofs.CompactHonest.{told_goes, waiting}
use Rattle.cb_peer_state.proofs.CompactSteps.{end_session, sent_at_end, step_by, told_by}
use Rattle.cb_peer_state.proofs.LawLemmas.{no_asking_served}
use Rattle.cb_peer_state.proofs.Sending.{None_of, none_of_both}

-- ---- a `headers` whose blocks are missing

unless_quiet : (u : SessionState) (sent : List Message) → remembers u ≡ true → unless_remembered u sent ≡ []
unless_quiet u sent e = ap (λ (b : Bool). cond b [] sent) e

nothing_sought : (found may : Bool) → found && (may && false) ≡ false
nothing_sought true true = refl
nothing_sought true false = refl
nothing_sought false may = refl

search_quiet : (found : Bool) (u : SessionState) (locator : List Hash256) → remembers u ≡ true → search found u locator ≡ []
search_quiet found u locator e =
    ap (λ (b : Bool). cond (found && (not u.unknown && not b)) (asking_headers locator ∷ []) []) e
    ∙ ap (λ (b : Bool). cond b (asking_headers locator ∷ []) []) (nothing_sought found (not u.unknown))

heads_ends : (P : Outcome → Type 0) (u : SessionState) (item : Option Item) (refused : Option Fault) (locator : List Hash256) → is_workless refused ≡ false → ((unknown : Bool) (sent : List Message) → (remembers u ≡ true → sent ≡ []) → P (ends (with_unknown unknown u) sent)) → P (heads_by u item refused locator)
heads_ends P u item (Some faults.BadWork) locator works all = absurd cc
heads_ends P u item (Some faults.NoParent) locator works all = all ((true && may_seek u) || u.unknown) (search true u locator) (search_quiet true u locator)
heads_ends P u item (Some other) locator works all = all false [] (λ _. refl)
heads_ends P u item None locator works all = all false (unless_remembered u (more_headers item)) (unless_quiet u (more_headers item))

some_same : (a b : Hash256) → Some a ≡ Some b → a ≡ b
some_same a b e = cc

pub kept_end : (hash header : Hash256) (u : SessionState) (item : Option Item) (sent : List Message) → u.resume_from ≡ Some header → sent ≡ [] → IsKept hash (Some header) (for_item item (resuming (ends u sent)))
kept_end hash header u item sent at none =
    let outcome = ends u sent in
    let there : outcome.session.resume_from ≡ Some header = ap (λ (t : SessionState). t.resume_from) (end_session u sent) ∙ at in
    let silent : outcome.messages ≡ [] = sent_at_end u sent ∙ none in
    resuming_cases (λ (o : Outcome). IsKept hash (Some header) (for_item item o)) outcome (remembered header refl there)
    (λ other _ is _.
    asked header refl
    (ap (λ (list : List Message). header_requests (list ++ asking_headers (other ∷ []) ∷ [])) silent
    ∙ ap (λ (h : Hash256). asking_headers (h ∷ []) ∷ []) (some_same other header (sym is ∙ there))))

pub fetched_end : (hash : Hash256) (before : Option Hash256) (u : SessionState) (item : Option Item) (sent : List Message) → is_fetched u.fetch hash ≡ true → IsKept hash before (for_item item (resuming (ends u sent)))
fetched_end hash before u item sent e =
    fetched (ap (λ (fetch : FetchState). is_fetched fetch hash) (same_fetch (ends u sent) ∙ ap (λ (t : SessionState). t.fetch) (end_session u sent)) ∙ e)

some_of : (rest : Option Hash256) → is_some rest ≡ true → (header : Hash256) × (rest ≡ Some header)
some_of None e = absurd cc
some_of (Some header) e = (header, refl)

kept_heads : (t : SessionState) (item : Option Item) (first : Header) (heads : Heads) (hash : Hash256) → before_first item ≡ Some first.prev → is_workless heads.refused ≡ false → has heads.lack hash ≡ true
    → IsKept hash (header_before t first) (for_item item (resuming (heads_by (with_lacking heads.lack (before_first item) t) item heads.refused heads.locator)))
kept_heads t item first heads hash front works lacks =
    heads_ends (λ (o : Outcome). IsKept hash (header_before t first) (for_item item (resuming o))) u item heads.refused heads.locator works
    (λ unknown sent quiet. by_memory (remembers t) refl unknown sent quiet)
  where
    u : SessionState
    u = with_lacking heads.lack (before_first item) t

    all : FetchState
    all = wanting_all t.fetch heads.lack

    at_header : (header : Hash256) (unknown : Bool) (sent : List Message) → u.resume_from ≡ Some header → (remembers u ≡ true → sent ≡ []) → IsKept hash (Some header) (for_item item (resuming (ends (with_unknown unknown u) sent)))
    at_header header unknown sent at quiet = kept_end hash header (with_unknown unknown u) item sent at (quiet (ap is_some at))

    by_room : (unknown : Bool) (sent : List Message) → (remembers u ≡ true → sent ≡ []) → remembers t ≡ false → (left : Bool) → leaves_out all heads.lack ≡ left → IsKept hash (header_before t first) (for_item item (resuming (ends (with_unknown unknown u) sent)))
    by_room unknown sent quiet free true out =
        let at : u.resume_from ≡ Some first.prev = ap (λ (b : Bool). cond b t.resume_from (cond (leaves_out all heads.lack) (before_first item) None)) free ∙ ap (λ (b : Bool). cond b (before_first item) None) out ∙ front in
        let same : Some first.prev ≡ header_before t first = sym (ap (λ (b : Bool). cond b t.resume_from (Some first.prev)) free) in
        subst (λ (before : Option Hash256). IsKept hash before (for_item item (resuming (ends (with_unknown unknown u) sent)))) same (at_header first.prev unknown sent at quiet)
    by_room unknown sent quiet free false out =
        let is : is_fetched all hash ≡ true = each_fetched all heads.lack hash out lacks in
        fetched_end hash (header_before t first) (with_unknown unknown u) item sent (ap (λ (b : Bool). is_fetched (cond b t.fetch all) hash) free ∙ is)

    by_memory : (remembered : Bool) → remembers t ≡ remembered → (unknown : Bool) (sent : List Message) → (remembers u ≡ true → sent ≡ []) → IsKept hash (header_before t first) (for_item item (resuming (ends (with_unknown unknown u) sent)))
    by_memory true e unknown sent quiet =
        let (header, is) = some_of t.resume_from e in
        let at : u.resume_from ≡ Some header = ap (λ (b : Bool). cond b t.resume_from (cond (leaves_out all heads.lack) (before_first item) None)) e ∙ is in
        let same : Some header ≡ header_before t first = sym is ∙ sym (ap (λ (b : Bool). cond b t.resume_from (Some first.prev)) e) in
        subst (λ (before : Option Hash256). IsKept hash before (for_item item (resuming (ends (with_unknown unknown u) sent)))) same (at_header header unknown sent at quiet)
    by_memory false e unknown sent quiet = by_room unknown sent quiet e (leaves_out all heads.lack) refl

headers_answered : (t : SessionState) (first : Header) (others : List Header) (heads : Heads) → answered t (Some (Good (messages.Headers (first ∷ others)))) (About subjects.Headers) (answers.Heads heads)
    ≡ resuming (heads_by (with_lacking heads.lack (Some first.prev) t) (Some (Good (messages.Headers (first ∷ others)))) heads.refused heads.locator)
unfolding answered replied heads_told
headers_answered t first others heads = refl

pub none_left_out : (s : SessionState) (first : Header) (others : List Header) (heads : Heads) (hash : Hash256) → is_closed s.state ≡ false → s.pending ≡ Some (record { item = Some (Good (messages.Headers (first ∷ others))); stage = About subjects.Headers })
    → is_workless heads.refused ≡ false → has heads.lack hash ≡ true → IsKept hash (header_before s first) (step_of s (events.Told (answers.Heads heads)))
none_left_out s first others heads hash going at works lacks =
    let item : Option Item = Some (Good (messages.Headers (first ∷ others))) in
    let is : s ≡ waiting s item (About subjects.Headers) = ap (λ (pending : Option Pending). with_pending pending s) at in
    let goes = told_goes s item (About subjects.Headers) (answers.Heads heads) going refl ∙ ap (for_item item) (headers_answered (freed s) first others heads) in
    subst (IsKept hash (header_before s first)) (sym (ap (λ (t : SessionState). step_of t (events.Told (answers.Heads heads))) is ∙ goes)) (kept_heads (freed s) item first heads hash refl works lacks)

-- ---- where news are asked for

abbrev Calm : SessionState → Type 0
Calm t = (pending : Pending) → t.pending ≡ Some pending → pending.stage ≡ Fresh → wants_none t.fetch ≡ true → t.resume_from ≡ None

asks_it : (item : Option Item) (next : Option Stage) (pending : Pending) → pending_of item next ≡ Some pending → pending.stage ≡ Fresh → asks_news next ≡ true
asks_it item None pending e fresh = absurd cc
asks_it item (Some stage) pending e fresh =
    let is : record { item = item; stage = stage } ≡ pending = cc in
    ap (λ (st : Stage). asks_news (Some st)) (ap (λ (p : Pending). p.stage) is ∙ fresh)

resumes_calm : (item : Option Item) (outcome : Outcome) (rest : Option Hash256) → outcome.session.resume_from ≡ rest → Calm (for_item item (resumes rest outcome)).session
resumes_calm item outcome None at = λ _ _ _ _. at
resumes_calm item outcome (Some hash) at =
    by_test (λ (o : Outcome). Calm (for_item item o).session) (wants_none outcome.session.fetch) (resumed hash outcome) outcome (λ _ _ _ _ _. refl)
    (λ some _ _ _ none. absurd (let clash : true ≡ false = sym none ∙ some in cc))

resuming_calm : (item : Option Item) (outcome : Outcome) → Calm (for_item item (resuming outcome)).session
unfolding resuming
resuming_calm item outcome =
    by_test (λ (o : Outcome). Calm (for_item item o).session) (asks_news outcome.next) (resumes outcome.session.resume_from outcome) outcome (λ _. resumes_calm item outcome outcome.session.resume_from refl)
    (λ other pending e fresh none. absurd (let clash : true ≡ false = sym (asks_it item outcome.next pending e fresh) ∙ other in cc))

answered_calm : (s : SessionState) (item : Option Item) (stage : Stage) (answer : Answer) (inner : Option Item) → Calm (for_item inner (answered s item stage answer)).session
unfolding answered
answered_calm s item stage answer inner = resuming_calm inner (replied s item stage answer)

pub none_remembered : (s : SessionState) (pending : Pending) → IsReached s → s.pending ≡ Some pending → pending.stage ≡ Fresh → wants_none s.fetch ≡ true → s.resume_from ≡ None
none_remembered s pending (opens settings) e fresh none = refl
none_remembered s pending (steps old event reached) e fresh none =
    step_by (λ (step : Stepped). Calm step.session) old event (λ waits same news nothing. none_remembered old waits reached same news nothing) (λ waits same news nothing. none_remembered old waits reached same news nothing) (λ why _ _ _ _. refl)
    (λ item waits same news _. absurd (let is : record { item = item; stage = Admit } ≡ waits = cc in let clash : Admit ≡ Fresh = ap (λ (p : Pending). p.stage) is ∙ news in cc))
    (λ answer waits same fit going. answered_calm (freed old) waits.item waits.stage answer waits.item) pending e fresh none
none_remembered s pending (stops old why reached) e fresh none = refl

-- ---- while a header is remembered

-- Why a block is wanted then: it was before, or else it joined for a reason.
abbrev WantedOr : List Hash256 → (Hash256 → Type 0) → List Hash256 → Type 0
WantedOr old joins new = (hash : Hash256) → has new hash ≡ true → (has old hash ≡ true) ⊎ joins hash

-- The header is still remembered, and no headers are requested; or the session is over.
data Rests (before : Hash256) (old : List Hash256) (joins : Hash256 → Type 0) (outcome : Outcome) : Type 0 where
  rests : outcome.session.resume_from ≡ Some before → None_of asks_for_headers outcome.messages → WantedOr old joins outcome.session.fetch.wanted → Rests before old joins outcome
  over : is_closed outcome.session.state ≡ true → outcome.messages ≡ [] → outcome.next ≡ None → outcome.session.fetch.wanted ≡ [] → Rests before old joins outcome

end_rests : (before : Hash256) (old : List Hash256) (joins : Hash256 → Type 0) (t : SessionState) (sent : List Message) → t.resume_from ≡ Some before → None_of asks_for_headers sent → WantedOr old joins t.fetch.wanted → Rests before old joins (ends t sent)
end_rests before old joins t sent at none wants = ends_cases (Rests before old joins) t sent (λ _. rests at none wants) (λ _ _. rests at none wants) (λ _ _. rests at none wants)

quiet_rests : (before : Hash256) (joins : Hash256 → Type 0) (t : SessionState) (sent : List Message) → t.resume_from ≡ Some before → None_of asks_for_headers sent → Rests before t.fetch.wanted joins (ends t sent)
quiet_rests before joins t sent at none = end_rests before t.fetch.wanted joins t sent at none (λ _ e. inl e)

unless_rests : (before : Hash256) (joins : Hash256 → Type 0) (t : SessionState) (sent : List Message) → t.resume_from ≡ Some before → Rests before t.fetch.wanted joins (ends t (unless_remembered t sent))
unless_rests before joins t sent at = quiet_rests before joins t (unless_remembered t sent) at (ap (λ (list : List Message). list_any asks_for_headers list) (unless_quiet t sent (ap is_some at)))

seeks_rests : (before : Hash256) (joins : Hash256 → Type 0) (t : SessionState) (locator : List Hash256) → t.resume_from ≡ Some before → Rests before t.fetch.wanted joins (seeks t locator)
seeks_rests before joins t locator at =
    quiet_rests before joins (seeking true t) (search true t locator) at (ap (λ (list : List Message). list_any asks_for_headers list) (search_quiet true t locator (ap is_some at)))

-- no child is queued while a header is remembered
orphaned_rests : (before : Hash256) (joins : Hash256 → Type 0) (t : SessionState) (header : Option Header) (locator : List Hash256) → t.resume_from ≡ Some before → Rests before t.fetch.wanted joins (orphaned t header locator)
orphaned_rests before joins t header locator at =
    orphaned_cases (Rests before t.fetch.wanted joins) t header locator (seeks_rests before joins t locator at)
    (λ of _ waits. absurd (let clash : false ≡ true = sym (ap (λ (b : Bool). not b && is_fetched t.fetch of.prev) (ap is_some at)) ∙ waits in cc))

-- what is sent or asked, where nothing of it changes
next_rests : (before : Hash256) (joins : Hash256 → Type 0) (t : SessionState) (sent : List Message) (next : Option Stage) → t.resume_from ≡ Some before → None_of asks_for_headers sent → Rests before t.fetch.wanted joins (record { session = t; messages = sent; next = next })
next_rests before joins t sent next at none = rests at none (λ _ e. inl e)

over_rests : (before : Hash256) (old : List Hash256) (joins : Hash256 → Type 0) (why : CloseReason) (t : SessionState) → Rests before old joins (ended why t)
over_rests before old joins why t = over refl refl refl refl

-- ---- messages that are no `getheaders`

quiet_greeting : (settings : Settings) → None_of asks_for_headers (greeting settings)
quiet_greeting settings = by_test (None_of asks_for_headers) settings.inbound _ (messages.Verack ∷ []) (λ _. refl) (λ _. refl)

quiet_wishes : (a b : Bool) (relay : CompactRelay) → None_of asks_for_headers (cond a [] (messages.SendHeaders ∷ []) ++ cond b [] (messages.SendCmpct relay ∷ []))
quiet_wishes true true relay = refl
quiet_wishes true false relay = refl
quiet_wishes false true relay = refl
quiet_wishes false false relay = refl

pub quiet_for : (entries : List Inventory) → None_of asks_for_headers (asking_for entries)
quiet_for [] = refl
quiet_for (first ∷ others) = refl

quiet_excerpt : (excerpt : Excerpt) → None_of asks_for_headers (excerpt_told excerpt)
quiet_excerpt excerpts.Absent = refl
quiet_excerpt (excerpts.Refused fault) = refl
quiet_excerpt (excerpts.Part part) = refl
quiet_excerpt (excerpts.Whole block) = refl

quiet_announcing : (headers : Bool) (tip : Hash256) (path : List Header) → None_of asks_for_headers (announcing headers tip path)
quiet_announcing headers tip [] = refl
quiet_announcing true tip (first ∷ others) = refl
quiet_announcing false tip (first ∷ others) = refl

quiet_telling : (txids : List Hash256) → None_of asks_for_headers (telling txids)
quiet_telling [] = refl
quiet_telling (first ∷ others) = refl

quiet_tip_by : (s : SessionState) (news : News) (block : Option Block) → None_of asks_for_headers (tip_by s news block)
quiet_tip_by s news (Some block) = refl
quiet_tip_by s news None = quiet_announcing (s.peer.by_headers && not news.long) news.tip news.path

quiet_txs : (s : SessionState) (item : Option Item) (txids : List Hash256) → None_of asks_for_headers (txs_told s item txids)
quiet_txs s item txids = by_test (None_of asks_for_headers) s.peer.relays (telling (without_brought item txids)) [] (λ _. quiet_telling (without_brought item txids)) (λ _. refl)

quiet_news : (s : SessionState) (item : Option Item) (news : News) → None_of asks_for_headers ((tip_told s news ++ txs_told s item news.txids) ++ wish_told s news.high)
quiet_news s item news =
    let tip = tip_told s news in
    let txs = txs_told s item news.txids in
    none_of_both asks_for_headers (tip ++ txs) (wish_told s news.high)
    (none_of_both asks_for_headers tip txs (by_test (None_of asks_for_headers) (is_untold s news) [] (tip_by s news news.block) (λ _. refl) (λ _. quiet_tip_by s news news.block)) (quiet_txs s item news.txids))
    (by_test (None_of asks_for_headers) (s.peer.capable && differ news.high s.compact.asked_high) (wish news.high ∷ []) [] (λ _. refl) (λ _. refl))

-- ---- messages of the peer

introduced_rests : (before : Hash256) (joins : Hash256 → Type 0) (s : SessionState) (version : Version) → s.resume_from ≡ Some before → Rests before s.fetch.wanted joins (introduced s version)
unfolding introduced
introduced_rests before joins s version at =
    let P = Rests before s.fetch.wanted joins in
    let met = with_state Greeted (with_peer (record { version = version.version; relays = version.relay; by_headers = s.peer.by_headers; capable = s.peer.capable; wants_high = s.peer.wants_high }) s) in
    by_test (λ (o : Outcome). P o) (version.nonce == s.settings.nonce) (ended reasons.SelfPeer s) (cond (int_lt version.version (pos 70001)) (ended reasons.OldPeer s) (sends met (greeting s.settings))) (λ _. over_rests before s.fetch.wanted joins reasons.SelfPeer s)
    (λ _. by_test (λ (o : Outcome). P o) (int_lt version.version (pos 70001)) (ended reasons.OldPeer s) (sends met (greeting s.settings)) (λ _. over_rests before s.fetch.wanted joins reasons.OldPeer s)
    (λ _. next_rests before joins met (greeting s.settings) None at (quiet_greeting s.settings)))

start_rests : (before : Hash256) (joins : Hash256 → Type 0) (s : SessionState) (message : Message) → s.resume_from ≡ Some before → Rests before s.fetch.wanted joins (in_start s message)
unfolding in_start
start_rests before joins s (messages.Version version) at = introduced_rests before joins s version at
start_rests before joins s other at = next_rests before joins s [] None at refl

compact_rests : (before : Hash256) (joins : Hash256 → Type 0) (s : SessionState) (relay : CompactRelay) (make : SessionState → Outcome) → Rests before s.fetch.wanted joins (make (with_peer (record { version = s.peer.version; relays = s.peer.relays; by_headers = s.peer.by_headers; capable = true; wants_high = relay.high_bandwidth }) s))
    → Rests before s.fetch.wanted joins (make s) → Rests before s.fetch.wanted joins (make (by_compact relay s))
compact_rests before joins s relay make changed same =
    by_test (λ (t : SessionState). Rests before s.fetch.wanted joins (make t)) (relay.version == 1) (with_peer (record { version = s.peer.version; relays = s.peer.relays; by_headers = s.peer.by_headers; capable = true; wants_high = relay.high_bandwidth }) s) s (λ _. changed) (λ _. same)

greeted_rests : (before : Hash256) (joins : Hash256 → Type 0) (s : SessionState) (message : Message) → s.resume_from ≡ Some before → Rests before s.fetch.wanted joins (in_greeted s message)
unfolding in_greeted
greeted_rests before joins s messages.Verack at =
    next_rests before joins (with_state Ready s) (wishes s.peer.version) (Some (About subjects.Locator)) at (quiet_wishes (int_lt s.peer.version (pos 70012)) (int_lt s.peer.version (pos 70014)) (record { high_bandwidth = false; version = 1 }))
greeted_rests before joins s messages.SendHeaders at = next_rests before joins (by_headers s) [] None at refl
greeted_rests before joins s (messages.SendCmpct relay) at =
    compact_rests before joins s relay (λ (t : SessionState). sends t []) (next_rests before joins (with_peer _ s) [] None at refl) (next_rests before joins s [] None at refl)
greeted_rests before joins s other at = next_rests before joins s [] None at refl

one_given_up : (fetch : FetchState) (e : Inventory) → (gives_up fetch e).wanted ≡ fetch.wanted
one_given_up fetch (entry.Block hash) = refl
one_given_up fetch (entry.CompactBlock hash) = refl
one_given_up fetch (entry.Tx txid) = refl
one_given_up fetch (entry.Other kind hash) = refl

given_up_wanted : (entries : List Inventory) (fetch : FetchState) → (given_up entries fetch).wanted ≡ fetch.wanted
given_up_wanted [] fetch = refl
given_up_wanted (e ∷ entries) fetch = given_up_wanted entries (gives_up fetch e) ∙ one_given_up fetch e

brought_rests : (before : Hash256) (joins : Hash256 → Type 0) (s : SessionState) (block : Block) → s.resume_from ≡ Some before → Rests before s.fetch.wanted joins (brought s block)
brought_rests before joins s block at =
    let hash = block_hash block.header in
    brought_cases (Rests before s.fetch.wanted joins) s block
    (λ _. dropping_cases (λ (x : SessionState). Rests before s.fetch.wanted joins (asks (heard_of hash x) [] (About subjects.Block))) hash (landing hash s) (rests at refl (λ _ e. inl e)) (rests at refl (λ _ e. inl e)))
    (over_rests before s.fetch.wanted joins reasons.BadBlock s)

last_or : (old : List Hash256) (hash other : Hash256) → has (old ++ hash ∷ []) other ≡ true → (has old other ≡ true) ⊎ (same other hash ≡ true)
last_or old hash other e =
    elim (or_cases (has old other) (same other hash || false) (sym (list_any-append (same other) old (hash ∷ [])) ∙ e)) [
      | inl there ↦ inl there
      | inr last ↦ elim (or_cases (same other hash) false last) [ inl is ↦ inr is | inr isnt ↦ absurd (let clash : false ≡ true = isnt in cc) ]
    ]

fallen_wanted : (fetch : FetchState) (hash other : Hash256) → has (fallen_back hash fetch).wanted other ≡ true → (has fetch.wanted other ≡ true) ⊎ (same other hash ≡ true)
fallen_wanted fetch hash other =
    let queued : FetchState = cond (has fetch.wanted hash) fetch (with_wanted fetch hash) in
    by_test (λ (f : FetchState). has f.wanted other ≡ true → (has fetch.wanted other ≡ true) ⊎ (same other hash ≡ true)) (has fetch.flight hash) fetch (cond (nat_lt (length fetch.flight) 16) (with_flight fetch hash) queued) (λ _ e. inl e)
    (λ _. by_test (λ (f : FetchState). has f.wanted other ≡ true → (has fetch.wanted other ≡ true) ⊎ (same other hash ≡ true)) (nat_lt (length fetch.flight) 16) (with_flight fetch hash) queued (λ _ e. inl e)
    (λ _. by_test (λ (f : FetchState). has f.wanted other ≡ true → (has fetch.wanted other ≡ true) ⊎ (same other hash ≡ true)) (has fetch.wanted hash) fetch (with_wanted fetch hash) (λ _ e. inl e)
    (λ _. by_test (λ (f : FetchState). has f.wanted other ≡ true → (has fetch.wanted other ≡ true) ⊎ (same other hash ≡ true)) (nat_lt (length fetch.wanted) 2000) (record { flight = fetch.flight; wanted = fetch.wanted ++ hash ∷ [] }) fetch (λ _ e. last_or fetch.wanted hash other e) (λ _ e. inl e))))

-- a block that can't be rebuilt
falls_rests : (before : Hash256) (joins : Hash256 → Type 0) (s : SessionState) (hash other : Hash256) → s.resume_from ≡ Some before → ((name : Hash256) → same name hash ≡ true → joins name) → Rests before s.fetch.wanted joins (falls_back s hash other)
unfolding falls_back
falls_rests before joins s hash other at joining =
    let still : (with_fallen hash other s).resume_from ≡ Some before = ap (λ (b : Bool). cond b s.resume_from (cond (is_fetched (fallen_back hash s.fetch) hash) None (Some other))) (ap is_some at) ∙ at in
    let quiet = by_test (None_of asks_for_headers) (asks_now s.fetch hash) (asking_block hash ∷ []) [] (λ _. refl) (λ _. refl) in
    end_rests before s.fetch.wanted joins (with_fallen hash other s) (cond (asks_now s.fetch hash) (asking_block hash ∷ []) []) still quiet
    (λ name e. elim (fallen_wanted s.fetch hash name e) [ inl there ↦ inl there | inr is ↦ inr (joining name is) ])

filled_rests : (before : Hash256) (joins : Hash256 → Type 0) (s : SessionState) (hash other : Hash256) (filled : Result Filled Fault) → s.resume_from ≡ Some before → ((name : Hash256) → same name hash ≡ true → joins name) → Rests before s.fetch.wanted joins (filled_by s hash other filled)
filled_rests before joins s hash other (Ok (filling.Sound block)) at joining = rests at refl (λ _ e. inl e)
filled_rests before joins s hash other (Ok filling.Wrong) at joining = falls_rests before joins s hash other at joining
filled_rests before joins s hash other (Err fault) at joining = over_rests before s.fetch.wanted joins reasons.BadMessage s

both_true : (a b : Bool) → a ≡ true → b ≡ true → (a && b) ≡ true
both_true true b e f = f
both_true false b e f = absurd cc

completed_rests : (before : Hash256) (joins : Hash256 → Type 0) (s : SessionState) (given : BlockTransactions) (partial : Option Unfilled) → s.resume_from ≡ Some before → ((name : Hash256) → completes name partial (Some (Good (messages.BlockTxn given))) ≡ true → joins name)
    → Rests before s.fetch.wanted joins (completed_by s given partial)
completed_rests before joins s given None at joining = quiet_rests before joins s [] at refl
completed_rests before joins s given (Some partial) at joining =
    by_test (Rests before s.fetch.wanted joins) (same (block_hash partial.header) given.block) (filled_by (with_partial None s) given.block partial.header.prev (completed_of partial given)) (ends s [])
    (λ is. filled_rests before joins (with_partial None s) given.block partial.header.prev (completed_of partial given) at (λ name e. joining name (both_true (same name given.block) (same (block_hash partial.header) given.block) e is)))
    (λ _. quiet_rests before joins s [] at refl)

txs_rests : (before : Hash256) (joins : Hash256 → Type 0) (s : SessionState) (given : BlockTransactions) → s.resume_from ≡ Some before → ((name : Hash256) → completes name s.compact.partial (Some (Good (messages.BlockTxn given))) ≡ true → joins name) → Rests before s.fetch.wanted joins (txs_heard s given)
unfolding txs_heard
txs_rests before joins s given at joining = completed_rests before joins s given s.compact.partial at joining

short_rests : (before : Hash256) (joins : Hash256 → Type 0) (s : SessionState) (short : HeaderAndShortIds) → s.resume_from ≡ Some before → Rests before s.fetch.wanted joins (short_heard s short)
unfolding short_heard
short_rests before joins s short at =
    by_test (Rests before s.fetch.wanted joins) (has_places short.txs) (asks (heard_of (block_hash short.header) s) [] (About subjects.Headers)) (ended reasons.BadMessage s) (λ _. rests at refl (λ _ e. inl e)) (λ _. over_rests before s.fetch.wanted joins reasons.BadMessage s)

ready_rests : (before : Hash256) (joins : Hash256 → Type 0) (s : SessionState) (message : Message) → s.resume_from ≡ Some before → ((name : Hash256) → completes name s.compact.partial (Some (Good message)) ≡ true → joins name) → Rests before s.fetch.wanted joins (in_ready s message)
unfolding in_ready
ready_rests before joins s messages.SendHeaders at joining = quiet_rests before joins (by_headers s) [] at refl
ready_rests before joins s (messages.SendCmpct relay) at joining =
    compact_rests before joins s relay (λ (t : SessionState). ends t []) (quiet_rests before joins (with_peer _ s) [] at refl) (quiet_rests before joins s [] at refl)
ready_rests before joins s (messages.Headers []) at joining = quiet_rests before joins (with_unknown false s) [] at refl
ready_rests before joins s (messages.Headers (first ∷ others)) at joining = rests at refl (λ _ e. inl e)
ready_rests before joins s (messages.Inv entries) at joining =
    by_test (Rests before s.fetch.wanted joins) (is_nil (told_of entries)) (ends s []) (asks s [] (About subjects.Inventory)) (λ _. quiet_rests before joins s [] at refl) (λ _. rests at refl (λ _ e. inl e))
ready_rests before joins s (messages.GetData entries) at joining = rests at refl (λ _ e. inl e)
ready_rests before joins s (messages.GetHeaders request) at joining = rests at refl (λ _ e. inl e)
ready_rests before joins s (messages.NotFound entries) at joining =
    end_rests before s.fetch.wanted joins (with_fetch (given_up entries s.fetch) s) [] at refl (λ hash e. inl (sym (ap (λ (list : List Hash256). has list hash) (given_up_wanted entries s.fetch)) ∙ e))
ready_rests before joins s (messages.Tx tx) at joining = rests at refl (λ _ e. inl e)
ready_rests before joins s (messages.Block block) at joining = brought_rests before joins s block at
ready_rests before joins s (messages.CmpctBlock short) at joining = short_rests before joins s short at
ready_rests before joins s (messages.GetBlockTxn request) at joining = rests at refl (λ _ e. inl e)
ready_rests before joins s (messages.BlockTxn given) at joining = txs_rests before joins s given at joining
ready_rests before joins s other at joining = quiet_rests before joins s [] at refl

phase_rests : (before : Hash256) (joins : Hash256 → Type 0) (state : State) (s : SessionState) (message : Message) → s.resume_from ≡ Some before → ((name : Hash256) → completes name s.compact.partial (Some (Good message)) ≡ true → joins name) → Rests before s.fetch.wanted joins (by_phase state s message)
phase_rests before joins Start s message at joining = start_rests before joins s message at
phase_rests before joins Greeted s message at joining = greeted_rests before joins s message at
phase_rests before joins Ready s message at joining = ready_rests before joins s message at joining
phase_rests before joins (Closed why) s message at joining = rests at refl (λ _ e. inl e)

received_rests : (before : Hash256) (joins : Hash256 → Type 0) (s : SessionState) (message : Message) → s.resume_from ≡ Some before → ((name : Hash256) → completes name s.compact.partial (Some (Good message)) ≡ true → joins name) → Rests before s.fetch.wanted joins (received s message)
unfolding received
received_rests before joins s (messages.Ping nonce) at joining = quiet_rests before joins s (messages.Pong nonce ∷ []) at refl
received_rests before joins s other at joining = phase_rests before joins s.state s other at joining

processed_rests : (before : Hash256) (joins : Hash256 → Type 0) (s : SessionState) (item : Option Item) → s.resume_from ≡ Some before → ((name : Hash256) → completes name s.compact.partial item ≡ true → joins name) → Rests before s.fetch.wanted joins (processed s item)
unfolding processed
processed_rests before joins s None at joining = quiet_rests before joins s [] at refl
processed_rests before joins s (Some (Good message)) at joining = received_rests before joins s message at joining
processed_rests before joins s (Some Damaged) at joining = quiet_rests before joins s [] at refl
processed_rests before joins s (Some (Bad command fault)) at joining = over_rests before s.fetch.wanted joins reasons.BadMessage s

-- ---- answers

heads_by_rests : (before : Hash256) (old : List Hash256) (joins : Hash256 → Type 0) (u : SessionState) (item : Option Item) (refused : Option Fault) (locator : List Hash256) → u.resume_from ≡ Some before → WantedOr old joins u.fetch.wanted → Rests before old joins (heads_by u item refused locator)
heads_by_rests before old joins u item (Some faults.BadWork) locator at wants = over_rests before old joins reasons.BadBlock u
heads_by_rests before old joins u item (Some faults.NoParent) locator at wants =
    end_rests before old joins (seeking true u) (search true u locator) at (ap (λ (list : List Message). list_any asks_for_headers list) (search_quiet true u locator (ap is_some at))) wants
heads_by_rests before old joins u item (Some other) locator at wants = end_rests before old joins (with_unknown false u) [] at refl wants
heads_by_rests before old joins u item None locator at wants =
    end_rests before old joins (with_unknown false u) (unless_remembered u (more_headers item)) at (ap (λ (list : List Message). list_any asks_for_headers list) (unless_quiet u (more_headers item) (ap is_some at))) wants

short_told_rests : (before : Hash256) (joins : Hash256 → Type 0) (s : SessionState) (hash : Hash256) (heads : Heads) → s.resume_from ≡ Some before → Rests before s.fetch.wanted joins (short_told s hash heads)
unfolding short_told
short_told_rests before joins s hash heads at =
    let found = is_orphan heads.refused in
    let sent = search found s heads.locator in
    let quiet : None_of asks_for_headers sent = ap (λ (list : List Message). list_any asks_for_headers list) (search_quiet found s heads.locator (ap is_some at)) in
    let t = seeking found s in
    by_test (Rests before s.fetch.wanted joins) (is_workless heads.refused) (ended reasons.BadBlock s) (cond (is_nil heads.lack) (ends (landing hash t) sent) (asks t sent Match)) (λ _. over_rests before s.fetch.wanted joins reasons.BadBlock s)
    (λ _. by_test (Rests before s.fetch.wanted joins) (is_nil heads.lack) (ends (landing hash t) sent) (asks t sent Match) (λ _. quiet_rests before joins (landing hash t) sent at quiet) (λ _. rests at quiet (λ _ e. inl e)))

heads_for_rests : (before : Hash256) (joins : Hash256 → Type 0) (s : SessionState) (item : Option Item) (short : Option HeaderAndShortIds) (heads : Heads) → s.resume_from ≡ Some before → Rests before s.fetch.wanted joins (heads_for s item short heads)
heads_for_rests before joins s item None heads at =
    let all = wanting_all s.fetch heads.lack in
    let still : (with_lacking heads.lack (before_first item) s).resume_from ≡ Some before = ap (λ (b : Bool). cond b s.resume_from (cond (leaves_out all heads.lack) (before_first item) None)) (ap is_some at) ∙ at in
    heads_by_rests before s.fetch.wanted joins (with_lacking heads.lack (before_first item) s) item heads.refused heads.locator still
    (λ hash e. inl (sym (ap (λ (b : Bool). has (cond b s.fetch all).wanted hash) (ap is_some at)) ∙ e))
heads_for_rests before joins s item (Some short) heads at = short_told_rests before joins s (block_hash short.header) heads at

rebuilt_rests : (before : Hash256) (joins : Hash256 → Type 0) (s : SessionState) (header : Header) (rebuilt : Rebuilt) → s.resume_from ≡ Some before → ((name : Hash256) → same name (block_hash header) ≡ true → joins name) → Rests before s.fetch.wanted joins (rebuilt_by s header rebuilt)
rebuilt_rests before joins s header (rebuilts.Sound block) at joining = rests at refl (λ _ e. inl e)
rebuilt_rests before joins s header (rebuilts.Lacking partial request) at joining = quiet_rests before joins (with_partial (Some partial) s) (asking_txs request ∷ []) at refl
rebuilt_rests before joins s header rebuilts.Useless at joining = falls_rests before joins s (block_hash header) header.prev at joining

paired_rests : (before : Hash256) (joins : Hash256 → Type 0) (s : SessionState) (short : Option HeaderAndShortIds) (pairs : List Pair) → s.resume_from ≡ Some before → ((name : Hash256) → is_short_of name short ≡ true → joins name) → Rests before s.fetch.wanted joins (paired s short pairs)
paired_rests before joins s None pairs at joining = rests at refl (λ _ e. inl e)
paired_rests before joins s (Some short) pairs at joining =
    by_test (Rests before s.fetch.wanted joins) (has_places short.txs) (rebuilt_by s short.header (rebuilt_of short pairs)) (ended reasons.BadMessage s) (λ _. rebuilt_rests before joins s short.header (rebuilt_of short pairs) at joining)
    (λ _. over_rests before s.fetch.wanted joins reasons.BadMessage s)

taken_rests : (before : Hash256) (joins : Hash256 → Type 0) (s : SessionState) (header : Option Header) (refused : Option Fault) (locator : List Hash256) → s.resume_from ≡ Some before → Rests before s.fetch.wanted joins (taken_told s header refused locator)
unfolding taken_told
taken_rests before joins s header None locator at = quiet_rests before joins s [] at refl
taken_rests before joins s header (Some faults.Known) locator at = quiet_rests before joins s [] at refl
taken_rests before joins s header (Some faults.NoParent) locator at = orphaned_rests before joins s header locator at
taken_rests before joins s header (Some other) locator at = over_rests before s.fetch.wanted joins reasons.BadBlock s

given_rests : (before : Hash256) (joins : Hash256 → Type 0) (s : SessionState) (header : Header) (refused : Option Fault) (locator : List Hash256) → s.resume_from ≡ Some before → Rests before s.fetch.wanted joins (given_told s header refused locator)
unfolding given_told
given_rests before joins s header refused locator at =
    by_test (Rests before s.fetch.wanted joins) (is_orphan refused) (orphaned s (Some header) locator) (ends s []) (λ _. orphaned_rests before joins s (Some header) locator at) (λ _. quiet_rests before joins s [] at refl)

excerpt_rests : (before : Hash256) (joins : Hash256 → Type 0) (s : SessionState) (excerpt : Excerpt) → s.resume_from ≡ Some before → Rests before s.fetch.wanted joins (excerpt_answered s excerpt)
unfolding excerpt_answered
excerpt_rests before joins s (excerpts.Refused fault) at = over_rests before s.fetch.wanted joins reasons.BadRequest s
excerpt_rests before joins s other at = quiet_rests before joins s (excerpt_told other) at (quiet_excerpt other)

-- why a block joins the wanted ones at an answer
abbrev Joining : SessionState → Option Item → Stage → Answer → (Hash256 → Type 0) → Type 0
Joining s item stage answer joins = (name : Hash256) → rebuilds_by name s.compact.partial item stage answer ≡ true → joins name

abbrev Needing : Answer → (Hash256 → Type 0) → Type 0
Needing answer joins = (need : Need) → answer ≡ answers.Need need → (name : Hash256) → joins name

replied_rests : (before : Hash256) (joins : Hash256 → Type 0) (s : SessionState) (item : Option Item) (stage : Stage) (answer : Answer) → s.resume_from ≡ Some before → Joining s item stage answer joins → Needing answer joins → Rests before s.fetch.wanted joins (replied s item stage answer)
unfolding replied heads_told need_told served_told pairs_told wanted_told news_told
replied_rests before joins s item stage answers.Kicked at joining needing = over_rests before s.fetch.wanted joins reasons.Kicked s
replied_rests before joins s item Admit answers.Go at joining needing = processed_rests before joins s item at joining
replied_rests before joins s item (About subject) (answers.Heads heads) at joining needing = heads_for_rests before joins s item (short_in item) heads at
replied_rests before joins s item (About subject) (answers.Locator locator) at joining needing = unless_rests before joins s (asking_headers locator ∷ []) at
replied_rests before joins s item (About subject) (answers.Need need) at joining needing =
    let found = list_any is_block need.entries in
    let behind = search found s need.locator in
    quiet_rests before joins (seeking found s) (asking_for (filter_map tx_request need.entries) ++ behind) at
    (none_of_both asks_for_headers (asking_for (filter_map tx_request need.entries)) behind (quiet_for (filter_map tx_request need.entries)) (ap (λ (list : List Message). list_any asks_for_headers list) (search_quiet found s need.locator (ap is_some at))))
replied_rests before joins s item (About subject) (answers.TxTaken refused) at joining needing = quiet_rests before joins s [] at refl
replied_rests before joins s item (About subject) (answers.Taken taken) at joining needing = taken_rests before joins s (header_in item) taken.refused taken.locator at
replied_rests before joins s item (About subject) (answers.Served pieces) at joining needing = quiet_rests before joins (with_made (shorts pieces) s) (served (next_nonce s) pieces) at (no_asking_served (next_nonce s) pieces)
replied_rests before joins s item (About subject) (answers.Following headers) at joining needing = quiet_rests before joins s (messages.Headers headers ∷ []) at refl
replied_rests before joins s item (About subject) (answers.Excerpt excerpt) at joining needing = excerpt_rests before joins s excerpt at
replied_rests before joins s item Match (answers.Pairs pairs) at joining needing = paired_rests before joins s (short_in item) pairs at joining
replied_rests before joins s item (Give block) (answers.Taken taken) at joining needing = given_rests before joins s block.header taken.refused taken.locator at
replied_rests before joins s item Wanted (answers.Need need) at joining needing =
    rests at (quiet_for (requests_of (need.near && s.peer.capable) (taken_on (blocks_in need.entries)).flight)) (λ name _. inr (needing need refl name))
replied_rests before joins s item Fresh (answers.News news) at joining needing = rests at (quiet_news s item news) (λ _ e. inl e)
replied_rests before joins s item stage other at joining needing = rests at refl (λ _ e. inl e)

-- ---- the end of an item, and a step

requests_more : (sent : List Message) (locator : List Hash256) → None_of asks_for_headers sent → header_requests (sent ++ asking_headers locator ∷ []) ≡ asking_headers locator ∷ []
requests_more [] locator none = refl
requests_more (message ∷ sent) locator none = first (asks_for_headers message) none (requests_more sent locator)
  where
    first : (asking : Bool) → (asking || list_any asks_for_headers sent) ≡ false → (None_of asks_for_headers sent → header_requests (sent ++ asking_headers locator ∷ []) ≡ asking_headers locator ∷ [])
        → cond asking (message ∷ header_requests (sent ++ asking_headers locator ∷ [])) (header_requests (sent ++ asking_headers locator ∷ [])) ≡ asking_headers locator ∷ []
    first true quiet later = absurd cc
    first false quiet later = later quiet

resumes_by : (before : Hash256) (old : List Hash256) (joins : Hash256 → Type 0) (item : Option Item) (outcome : Outcome) → Rests before old joins outcome → Resumes before (for_item item (resuming outcome))
resumes_by before old joins item outcome (rests at none wants) =
    resuming_cases (λ (o : Outcome). Resumes before (for_item item o)) outcome (waits at none)
    (λ hash _ is empty.
    resumes_now refl (requests_more outcome.messages (hash ∷ []) none ∙ ap (λ (h : Hash256). asking_headers (h ∷ []) ∷ []) (some_same hash before (sym is ∙ at))) empty)
resumes_by before old joins item outcome (over closed silent none idle) =
    resuming_cases (λ (o : Outcome). Resumes before (for_item item o)) outcome (is_ended closed silent)
    (λ hash news _ _. absurd (let clash : Some Fresh ≡ None = sym news ∙ none in cc))

abbrev Anything : Hash256 → Type 0
Anything hash = Unit {0}

answered_resumes : (before : Hash256) (s : SessionState) (item inner : Option Item) (stage : Stage) (answer : Answer) → s.resume_from ≡ Some before → Resumes before (for_item inner (answered s item stage answer))
unfolding answered
answered_resumes before s item inner stage answer at = resumes_by before s.fetch.wanted Anything inner (replied s item stage answer) (replied_rests before Anything s item stage answer at (λ _ _. tt) (λ _ _ _. tt))

pub resumes_of : (s : SessionState) (event : Event) (before : Hash256) → s.resume_from ≡ Some before → Resumes before (step_of s event)
resumes_of s event before at =
    step_by (Resumes before) s event (waits at refl) (waits at refl) (λ why. is_ended refl refl) (λ item. waits at refl) (λ answer pending e fit going. answered_resumes before (freed s) pending.item pending.item pending.stage answer at)

wanted_of : (before : Hash256) (old : List Hash256) (joins : Hash256 → Type 0) (outcome : Outcome) (hash : Hash256) → Rests before old joins outcome → has outcome.session.fetch.wanted hash ≡ true → (has old hash ≡ true) ⊎ joins hash
wanted_of before old joins outcome hash (rests at none wants) there = wants hash there
wanted_of before old joins outcome hash (over closed silent none idle) there = absurd (let clash : false ≡ true = sym (ap (λ (list : List Hash256). has list hash) idle) ∙ there in cc)

answered_wanted : (s : SessionState) (item inner : Option Item) (stage : Stage) (answer : Answer) (hash : Hash256) (joins : Hash256 → Type 0) → remembers s ≡ true → Joining s item stage answer joins → Needing answer joins
    → has (for_item inner (answered s item stage answer)).session.fetch.wanted hash ≡ true → (has s.fetch.wanted hash ≡ true) ⊎ joins hash
unfolding answered
answered_wanted s item inner stage answer hash joins e joining needing there =
    let (before, at) = some_of s.resume_from e in
    let outcome = replied s item stage answer in
    wanted_of before s.fetch.wanted joins outcome hash (replied_rests before joins s item stage answer at joining needing) (sym (ap (λ (fetch : FetchState). has fetch.wanted hash) (same_fetch outcome)) ∙ there)

told_wanted : (s : SessionState) (answer : Answer) (hash : Hash256) → remembers s ≡ true → has (step_of s (events.Told answer)).session.fetch.wanted hash ≡ true → IsWantedBy hash s (events.Told answer)
told_wanted s answer hash e =
    told_by (λ (step : Stepped). has step.session.fetch.wanted hash ≡ true → IsWantedBy hash s (events.Told answer)) s answer was
    (λ pending at fit going there.
    elim
    (answered_wanted (freed s) pending.item pending.item pending.stage answer hash (λ (name : Hash256). IsWantedBy name s (events.Told answer)) e
    (λ name made. falls (ap (rebuilds_at name s answer) at ∙ made)) (λ need is name. needed need (ap events.Told is)) there) [
      | inl there ↦ was there
      | inr why ↦ why
    ])

arrives_wanted : (hash : Hash256) (s : SessionState) (pending : Option Pending) (item : Option Item) → has (arrives pending s item).session.fetch.wanted hash ≡ true → has s.fetch.wanted hash ≡ true
arrives_wanted hash s None item there = there
arrives_wanted hash s (Some pending) item there = there

opens_wanted : (hash : Hash256) (s : SessionState) (event : Event) → ((answer : Answer) → event ≡ events.Told answer → ⊥) → has (open_step s event).session.fetch.wanted hash ≡ true → has s.fetch.wanted hash ≡ true
unfolding open_step
opens_wanted hash s (events.Said item) other there = arrives_wanted hash s s.pending (Some item) there
opens_wanted hash s events.Tick other there = arrives_wanted hash s s.pending None there
opens_wanted hash s events.Probe other there = by_test (λ (step : Stepped). has step.session.fetch.wanted hash ≡ true → has s.fetch.wanted hash ≡ true) (is_ready s.state) (pinged s) (stays s) (λ _ kept. kept) (λ _ kept. kept) there
opens_wanted hash s (events.Told answer) other there = absurd (other answer refl)
opens_wanted hash s (events.Broken fault) other there = absurd (let clash : false ≡ true = there in cc)
opens_wanted hash s events.ReaderEnd other there = absurd (let clash : false ≡ true = there in cc)
opens_wanted hash s events.NoMemory other there = absurd (let clash : false ≡ true = there in cc)
opens_wanted hash s events.HallFull other there = absurd (let clash : false ≡ true = there in cc)
opens_wanted hash s events.WriteFault other there = absurd (let clash : false ≡ true = there in cc)

other_wanted : (s : SessionState) (event : Event) (hash : Hash256) → ((answer : Answer) → event ≡ events.Told answer → ⊥) → has (step_of s event).session.fetch.wanted hash ≡ true → has s.fetch.wanted hash ≡ true
unfolding step_of
other_wanted s event hash other =
    by_test (λ (step : Stepped). has step.session.fetch.wanted hash ≡ true → has s.fetch.wanted hash ≡ true) (is_closed s.state) (stays s) (open_step s event) (λ _ there. there) (λ _. opens_wanted hash s event other)

pub wanted_by : (s : SessionState) (event : Event) (hash : Hash256) → remembers s ≡ true → has (step_of s event).session.fetch.wanted hash ≡ true → IsWantedBy hash s event
wanted_by s (events.Told answer) hash e there = told_wanted s answer hash e there
wanted_by s event hash e there = was (other_wanted s event hash (λ answer is. cc) there)
