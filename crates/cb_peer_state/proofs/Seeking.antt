-- What is unknown, what is requested for it, and what answers that; and what a peer isn't told.
use Rattle.std.proofs.Common.{◌≡◌, ◌⊎◌, Bool, true, false, cond, List, [], ◌∷◌, ◌++◌, Option, Some, None, Result, Ok, Err, refl, sym, ap, subst, ◌∙◌, inl, inr, ℕ, ◌≤◌, ◌≢◌, arith}
use Rattle.std.specs.Prelude.{◌==◌, ◌&&◌, ◌||◌, not, filter_map, int_lt, is_some, length, nat_lt, pos}
use Rattle.std.specs.List.{list_any}
use Rattle.std.proofs.lemmas.Bool.{cases_Bool}
use Rattle.cb_base.specs.declared.fault.Fault.{Fault}
use Rattle.cb_base.specs.declared.fault.Fault.TheVariants as faults
use Rattle.cb_base.specs.declared.hash.Hash256.{Hash256}
use Rattle.cb_block.specs.declared.block.Block.{Block}
use Rattle.cb_block.specs.declared.header.Header.{Header}
use Rattle.cb_chain.specs.Entries.{block_hash, same}
use Rattle.cb_compact.specs.Slots.{Unfilled}
use Rattle.cb_compact.specs.declared.named_tx.Pair.{Pair}
use Rattle.cb_compact.specs.declared.partial.Filled.{Filled}
use Rattle.cb_compact.specs.declared.partial.Filled.TheVariants as filling
use Rattle.cb_peer_state.specs.Fetching.{FetchState, blocks_in, has, is_fetched, leaves_out, requests_of, taken_on, wanting_all, wants_none, with_wanted}
use Rattle.cb_hall.specs.declared.answer.Answer.{Answer}
use Rattle.cb_hall.specs.declared.answer.Answer.TheVariants as answers
use Rattle.cb_wire.specs.declared.block_transactions.BlockTransactions.{BlockTransactions}
use Rattle.cb_wire.specs.declared.compact_block.HeaderAndShortIds.{HeaderAndShortIds}
use Rattle.cb_wire.specs.declared.inventory.Inventory.{Inventory}
use Rattle.cb_wire.specs.declared.requests.CompactRelay.{CompactRelay}
use Rattle.cb_wire.specs.declared.version.Version.{Version}
use Rattle.cb_compact.specs.Completing.{completed_of}
use Rattle.cb_compact.specs.Places.{has_places}
use Rattle.cb_compact.specs.Rebuilding.{rebuilt_of}
use Rattle.cb_compact.specs.declared.rebuilding.Rebuilt.{Rebuilt}
use Rattle.cb_compact.specs.declared.rebuilding.Rebuilt.TheVariants as rebuilts
use Rattle.cb_state.specs.declared.accepting.Heads.{Heads}
use Rattle.cb_state.specs.declared.serving_places.Excerpt.{Excerpt}
use Rattle.cb_state.specs.declared.serving_places.Excerpt.TheVariants as excerpts
use Rattle.cb_state.specs.declared.wanting.Need.{Need}
use Rattle.cb_peer_state.specs.Announcing.{telling}
use Rattle.cb_peer_state.specs.Inventory.{asking_for, asking_headers, asking_txs}
use Rattle.cb_peer_state.specs.Serving.{excerpt_told, shorts}
use Rattle.cb_wire.specs.declared.item.Item.{Item}
use Rattle.cb_wire.specs.declared.item.Item.TheVariants.{Good, Damaged, Bad}
use Rattle.cb_wire.specs.declared.message.Message.{Message}
use Rattle.cb_wire.specs.declared.message.Message.TheVariants as messages
use Rattle.cb_peer_state.specs.declared.event.Event.{Event}
use Rattle.cb_peer_state.specs.declared.event.Event.TheVariants as events
use Rattle.cb_peer_state.specs.declared.pending.Pending.{Pending}
use Rattle.cb_peer_state.specs.declared.session_state.SessionState.{SessionState}
use Rattle.cb_peer_state.specs.declared.stage.Stage.{Stage}
use Rattle.cb_peer_state.specs.declared.stage.Stage.TheVariants.{Admit, About, Match, Give, Wanted, Fresh}
use Rattle.cb_peer_state.specs.declared.stage.Subject.TheVariants as subjects
use Rattle.cb_peer_state.specs.declared.state.CloseReason.TheVariants as reasons
use Rattle.cb_peer_state.specs.declared.state.State.{State}
use Rattle.cb_peer_state.specs.declared.state.State.TheVariants.{Start, Greeted, Ready, Closed}
use Rattle.cb_peer_state.specs.Questions.{is_nil, short_in, told_of}
use Rattle.cb_peer_state.specs.Receiving.{Outcome, asks, brought, by_compact, by_headers, by_phase, completed_by, ended, ends, falls_back, filled_by, given_up, greeting, heard_of, in_greeted, in_ready, in_start, introduced, processed, received, sends, short_heard, txs_heard}
use Rattle.cb_peer_state.specs.Replying.{answered, before_first, excerpt_answered, given_told, heads_by, heads_for, heads_told, is_block, is_workless, need_told, news_told, paired, pairs_told, rebuilt_by, replied, resuming, served_told, short_told, taken_told, tx_request, wanted_told, without_brought, header_in, is_orphan, orphaned, search, seeks}
use Rattle.cb_peer_state.specs.Session.{Stepped, arrives, for_item, open_step, stays, step_of}
use Rattle.cb_peer_state.specs.State.{freed, is_closed, landing, remembers, with_fallen, with_fetch, with_lacking, with_made, with_partial, with_peer, with_pending, with_state, may_seek, seeking}
use Rattle.cb_peer_state.proofs.Cases.{brought_cases, by_test, dropping_cases, ends_cases}
use Rattle.cb_peer_state.proofs.Resuming.{resuming_cases}
use Rattle.cb_peer_state.specs.Laws.{IsReached, asks_for_headers}
use Rattle.cb_peer_state.specs.Resuming.{IsKept}
use Rattle.cb_peer_state.proofs.Behind.{orphaned_cases}
use Rattle.cb_peer_state.proofs.CompactHonest.{told_goes, waiting}
use Rattle.cb_peer_state.proofs.CompactSteps.{end_session, told_by}
use Rattle.cb_peer_state.proofs.Sending.{None_of, none_of_both}
use Rattle.std.proofs.lemmas.Bool.{cases_Bool, eqb-true, ltb-false}
use Rattle.cb_peer_state.proofs.Falling.{last_there}
use Rattle.cb_peer_state.proofs.Rooms.{left_where_full}
use Rattle.cb_peer_state.specs.Fetching.{wanting}
use Rattle.cb_state.specs.declared.accepting.Taken.{Taken}
use Rattle.cb_peer_state.specs.Questions.{fits, question_of}
use Rattle.cb_peer_state.specs.declared.stage.Subject.{Subject}
use Rattle.cb_peer_state.specs.State.{awaits, with_child}
use Rattle.cb_peer_state.specs.Seeking.{Answered, announces_tx, finds_unknown, given_header}
use Rattle.cb_peer_state.specs.Seeking.Answered.{headers, nothing, probe}
use Rattle.cb_peer_state.proofs.LawLemmas.{limits_of}
use Rattle.cb_peer_state.proofs.Remembered.{fetched_end, kept_end, quiet_for}
use Rattle.cb_peer_state.proofs.Sending.{IsMild, step_none, tip_none}

-- ---- requests while one is waited for

orphan_is : (refused : Option Fault) → is_orphan refused ≡ true → refused ≡ Some faults.NoParent
orphan_is (Some faults.NoParent) e = refl
orphan_is other e = absurd cc

not_none : (n : ℕ) → 2000 ≤ n → (n == 0) ≡ false
not_none n many = elim (cases_Bool (n == 0)) [ inl none ↦ absurd (omega (arith, many, eqb-true n 0 none)) | inr some ↦ some ]

-- a block that had no room found the queue full
full_where_left : (fetch : FetchState) (hash : Hash256) → is_fetched (wanting fetch hash) hash ≡ false → wants_none (wanting fetch hash) ≡ false
full_where_left fetch hash =
    let P : FetchState → Type 0 = λ (f : FetchState). is_fetched f hash ≡ false → wants_none f ≡ false in
    by_test P (is_fetched fetch hash) fetch (with_wanted fetch hash) (λ there out. absurd (let clash : true ≡ false = sym there ∙ out in cc))
    (λ _. by_test P (nat_lt (length fetch.wanted) 2000) (record { flight = fetch.flight; wanted = fetch.wanted ++ hash ∷ [] }) fetch
    (λ _ out. absurd (let clash : true ≡ false = sym (or_later (has fetch.flight hash) (has (fetch.wanted ++ hash ∷ []) hash) (last_there fetch.wanted hash)) ∙ out in cc))
    (λ full _. not_none (length fetch.wanted) (ltb-false (length fetch.wanted) 2000 full)))
  where
    or_later : (a b : Bool) → b ≡ true → (a || b) ≡ true
    or_later true b e = refl
    or_later false b e = e

-- No `getheaders` is sent, and none follows from a remembered header: there is none, or something is wanted.
data Quiet (outcome : Outcome) : Type 0 where
  none_rests : None_of asks_for_headers outcome.messages → outcome.session.resume_from ≡ None → Quiet outcome
  still_busy : None_of asks_for_headers outcome.messages → wants_none outcome.session.fetch ≡ false → Quiet outcome

quiet_end : (u : SessionState) (sent : List Message) → None_of asks_for_headers sent → u.resume_from ≡ None → Quiet (ends u sent)
quiet_end u sent none at = ends_cases Quiet u sent (λ _. none_rests none at) (λ _ _. none_rests none at) (λ _ _. none_rests none at)

busy_end : (u : SessionState) (sent : List Message) → None_of asks_for_headers sent → wants_none u.fetch ≡ false → Quiet (ends u sent)
busy_end u sent none wants = ends_cases Quiet u sent (λ _. still_busy none wants) (λ _ _. still_busy none wants) (λ _ _. still_busy none wants)

either_end : (u : SessionState) (sent : List Message) → None_of asks_for_headers sent → (u.resume_from ≡ None) ⊎ (wants_none u.fetch ≡ false) → Quiet (ends u sent)
either_end u sent none (inl at) = quiet_end u sent none at
either_end u sent none (inr wants) = busy_end u sent none wants

seek_quiet : (found : Bool) (u : SessionState) (locator : List Hash256) → u.unknown ≡ true → None_of asks_for_headers (search found u locator)
seek_quiet found u locator e =
    ap (λ (b : Bool). list_any asks_for_headers (cond (found && (not b && not (remembers u))) (asking_headers locator ∷ []) [])) e
    ∙ ap (λ (b : Bool). list_any asks_for_headers (cond b (asking_headers locator ∷ []) [])) (and_none found)
  where
    and_none : (found : Bool) → found && false ≡ false
    and_none true = refl
    and_none false = refl

seeks_quiet : (u : SessionState) (locator : List Hash256) → u.unknown ≡ true → (u.resume_from ≡ None) ⊎ (wants_none u.fetch ≡ false) → Quiet (seeks u locator)
seeks_quiet u locator e rest = either_end (seeking true u) (search true u locator) (seek_quiet true u locator e) rest

none_remembered : (s : SessionState) → s.resume_from ≡ None → remembers s ≡ false
none_remembered s at = ap is_some at

child_rest : (s : SessionState) (hash parent : Hash256) → s.resume_from ≡ None → ((with_child hash parent s).resume_from ≡ None) ⊎ (wants_none (with_child hash parent s).fetch ≡ false)
child_rest s hash parent at =
    elim (cases_Bool (is_fetched (wanting s.fetch hash) hash)) [
      | inl there ↦ inl (ap (λ (b : Bool). cond b s.resume_from (Some parent)) there ∙ at)
      | inr out ↦ inr (full_where_left s.fetch hash out)
    ]

orphaned_quiet : (s : SessionState) (header : Option Header) (locator : List Hash256) → s.unknown ≡ true → s.resume_from ≡ None → Quiet (orphaned s header locator)
orphaned_quiet s header locator e at =
    orphaned_cases Quiet s header locator (seeks_quiet s locator e (inl at)) (λ of _ _. either_end (with_child (block_hash of) of.prev s) [] refl (child_rest s (block_hash of) of.prev at))

lacking_rest : (s : SessionState) (lack : List Hash256) (before : Option Hash256) → s.resume_from ≡ None → length s.fetch.wanted ≤ 2000 → ((with_lacking lack before s).resume_from ≡ None) ⊎ (wants_none (with_lacking lack before s).fetch ≡ false)
lacking_rest s lack before at few =
    let all : FetchState = wanting_all s.fetch lack in
    let free : remembers s ≡ false = none_remembered s at in
    elim (cases_Bool (leaves_out all lack)) [
      | inl left ↦
          inr
          (ap (λ (b : Bool). wants_none (cond b s.fetch all)) free
          ∙ not_none (length all.wanted) (let full : length all.wanted ≡ 2000 = left_where_full s.fetch lack few left in omega (arith, full)))
      | inr none ↦
          inl
          (ap (λ (b : Bool). cond b s.resume_from (cond (leaves_out all lack) before None)) free
          ∙ ap (λ (b : Bool). cond b before None) none)
    ]

heads_quiet : (u : SessionState) (item : Option Item) (refused : Option Fault) (locator : List Hash256) → is_orphan refused ≡ true → u.unknown ≡ true → (u.resume_from ≡ None) ⊎ (wants_none u.fetch ≡ false) → Quiet (heads_by u item refused locator)
heads_quiet u item refused locator orphan e rest = subst (λ (r : Option Fault). Quiet (heads_by u item r locator)) (sym (orphan_is refused orphan)) (seeks_quiet u locator e rest)

short_quiet : (s : SessionState) (hash : Hash256) (heads : Heads) → s.unknown ≡ true → s.resume_from ≡ None → Quiet (short_told s hash heads)
unfolding short_told
short_quiet s hash heads e at =
    let found = is_orphan heads.refused in
    let sent = search found s heads.locator in
    let none : None_of asks_for_headers sent = seek_quiet found s heads.locator e in
    let t = seeking found s in
    by_test Quiet (is_workless heads.refused) (ended reasons.BadBlock s) (cond (is_nil heads.lack) (ends (landing hash t) sent) (asks t sent Match)) (λ _. none_rests refl refl)
    (λ _. by_test Quiet (is_nil heads.lack) (ends (landing hash t) sent) (asks t sent Match) (λ _. quiet_end (landing hash t) sent none at) (λ _. none_rests none at))

heads_for_quiet : (s : SessionState) (item : Option Item) (short : Option HeaderAndShortIds) (heads : Heads) → is_orphan heads.refused ≡ true → s.unknown ≡ true → s.resume_from ≡ None → length s.fetch.wanted ≤ 2000 → Quiet (heads_for s item short heads)
heads_for_quiet s item None heads orphan e at few =
    heads_quiet (with_lacking heads.lack (before_first item) s) item heads.refused heads.locator orphan e (lacking_rest s heads.lack (before_first item) at few)
heads_for_quiet s item (Some short) heads orphan e at few = short_quiet s (block_hash short.header) heads e at

taken_quiet : (s : SessionState) (header : Option Header) (refused : Option Fault) (locator : List Hash256) → is_orphan refused ≡ true → s.unknown ≡ true → s.resume_from ≡ None → Quiet (taken_told s header refused locator)
unfolding taken_told
taken_quiet s header refused locator orphan e at = subst (λ (r : Option Fault). Quiet (taken_told s header r locator)) (sym (orphan_is refused orphan)) (orphaned_quiet s header locator e at)

given_quiet : (s : SessionState) (header : Header) (refused : Option Fault) (locator : List Hash256) → s.unknown ≡ true → s.resume_from ≡ None → Quiet (given_told s header refused locator)
unfolding given_told
given_quiet s header refused locator e at =
    by_test Quiet (is_orphan refused) (orphaned s (Some header) locator) (ends s []) (λ _. orphaned_quiet s (Some header) locator e at) (λ _. quiet_end s [] refl at)

need_quiet : (s : SessionState) (need : Need) → s.unknown ≡ true → s.resume_from ≡ None → Quiet (need_told s need)
unfolding need_told
need_quiet s need e at =
    let found = list_any is_block need.entries in
    quiet_end (seeking found s) (asking_for (filter_map tx_request need.entries) ++ search found s need.locator)
    (none_of_both asks_for_headers (asking_for (filter_map tx_request need.entries)) (search found s need.locator) (quiet_for (filter_map tx_request need.entries)) (seek_quiet found s need.locator e)) at

replied_quiet : (s : SessionState) (item : Option Item) (stage : Stage) (answer : Answer) → finds_unknown answer ≡ true → s.unknown ≡ true → s.resume_from ≡ None → length s.fetch.wanted ≤ 2000 → Quiet (replied s item stage answer)
unfolding replied heads_told wanted_told
replied_quiet s item (About subject) (answers.Heads heads) finds e at few = heads_for_quiet s item (short_in item) heads finds e at few
replied_quiet s item (About subject) (answers.Need need) finds e at few = need_quiet s need e at
replied_quiet s item (About subject) (answers.Taken taken) finds e at few = taken_quiet s (header_in item) taken.refused taken.locator finds e at
replied_quiet s item (Give block) (answers.Taken taken) finds e at few = given_quiet s block.header taken.refused taken.locator e at
replied_quiet s item Wanted (answers.Need need) finds e at few = none_rests (quiet_for (requests_of (need.near && s.peer.capable) (taken_on (blocks_in need.entries)).flight)) at
replied_quiet s item stage answers.Kicked finds e at few = absurd cc
replied_quiet s item stage answers.Go finds e at few = absurd cc
replied_quiet s item stage (answers.Locator locator) finds e at few = absurd cc
replied_quiet s item stage (answers.TxTaken refused) finds e at few = absurd cc
replied_quiet s item stage (answers.Served pieces) finds e at few = absurd cc
replied_quiet s item stage (answers.Following list) finds e at few = absurd cc
replied_quiet s item stage (answers.News news) finds e at few = absurd cc
replied_quiet s item stage (answers.Excerpt excerpt) finds e at few = absurd cc
replied_quiet s item stage (answers.Pairs pairs) finds e at few = absurd cc
replied_quiet s item stage other finds e at few = none_rests refl at

quiet_resuming : (outcome : Outcome) → Quiet outcome → None_of asks_for_headers (resuming outcome).messages
quiet_resuming outcome (none_rests none at) =
    resuming_cases (λ (o : Outcome). None_of asks_for_headers o.messages) outcome none (λ hash _ is _. absurd (let clash : Some hash ≡ None = sym is ∙ at in cc))
quiet_resuming outcome (still_busy none wants) =
    resuming_cases (λ (o : Outcome). None_of asks_for_headers o.messages) outcome none (λ hash _ _ empty. absurd (let clash : true ≡ false = sym empty ∙ wants in cc))

answered_quiet : (s : SessionState) (item inner : Option Item) (stage : Stage) (answer : Answer) → finds_unknown answer ≡ true → s.unknown ≡ true → s.resume_from ≡ None → length s.fetch.wanted ≤ 2000 → None_of asks_for_headers (for_item inner (answered s item stage answer)).messages
unfolding answered
answered_quiet s item inner stage answer finds e at few = quiet_resuming (replied s item stage answer) (replied_quiet s item stage answer finds e at few)

pub asked_once : (s : SessionState) (answer : Answer) → IsReached s → s.unknown ≡ true → s.resume_from ≡ None → finds_unknown answer ≡ true → None_of asks_for_headers (step_of s (events.Told answer)).messages
asked_once s answer reached e at finds =
    told_by (λ (step : Stepped). None_of asks_for_headers step.messages) s answer refl (λ pending _ _ _. answered_quiet (freed s) pending.item pending.item pending.stage answer finds e at (limits_of s reached).wanted)

-- ---- what answers a request

-- The request is still waited for, or the session is over, or this answers it.
data Waits (reason : Type 0) (outcome : Outcome) : Type 0 where
  waits_on : outcome.session.unknown ≡ true → Waits reason outcome
  is_over : is_closed outcome.session.state ≡ true → Waits reason outcome
  for_reason : reason → Waits reason outcome

end_waits : (reason : Type 0) (u : SessionState) (sent : List Message) → u.unknown ≡ true → Waits reason (ends u sent)
end_waits reason u sent e = ends_cases (Waits reason) u sent (λ _. waits_on e) (λ _ _. waits_on e) (λ _ _. waits_on e)

or_known : (a b : Bool) → b ≡ true → (a || b) ≡ true
or_known true b e = refl
or_known false b e = e

seek_waits : (found : Bool) (u : SessionState) → u.unknown ≡ true → (seeking found u).unknown ≡ true
seek_waits found u e = or_known (found && may_seek u) u.unknown e

seeks_waits : (reason : Type 0) (u : SessionState) (locator : List Hash256) → u.unknown ≡ true → Waits reason (seeks u locator)
seeks_waits reason u locator e = end_waits reason (seeking true u) (search true u locator) (seek_waits true u e)

orphaned_waits : (reason : Type 0) (u : SessionState) (header : Option Header) (locator : List Hash256) → u.unknown ≡ true → Waits reason (orphaned u header locator)
orphaned_waits reason u header locator e =
    orphaned_cases (Waits reason) u header locator (seeks_waits reason u locator e) (λ of _ _. end_waits reason (with_child (block_hash of) of.prev u) [] e)

introduced_waits : (reason : Type 0) (s : SessionState) (version : Version) → s.unknown ≡ true → Waits reason (introduced s version)
unfolding introduced
introduced_waits reason s version e =
    let met = with_state Greeted (with_peer (record { version = version.version; relays = version.relay; by_headers = s.peer.by_headers; capable = s.peer.capable; wants_high = s.peer.wants_high }) s) in
    by_test (Waits reason) (version.nonce == s.settings.nonce) (ended reasons.SelfPeer s) (cond (int_lt version.version (pos 70001)) (ended reasons.OldPeer s) (sends met (greeting s.settings))) (λ _. is_over refl)
    (λ _. by_test (Waits reason) (int_lt version.version (pos 70001)) (ended reasons.OldPeer s) (sends met (greeting s.settings)) (λ _. is_over refl) (λ _. waits_on e))

start_waits : (reason : Type 0) (s : SessionState) (message : Message) → s.unknown ≡ true → Waits reason (in_start s message)
unfolding in_start
start_waits reason s (messages.Version version) e = introduced_waits reason s version e
start_waits reason s other e = waits_on e

compact_unknown : (s : SessionState) (relay : CompactRelay) → s.unknown ≡ true → (by_compact relay s).unknown ≡ true
compact_unknown s relay e =
    by_test (λ (t : SessionState). t.unknown ≡ true) (relay.version == 1) (with_peer (record { version = s.peer.version; relays = s.peer.relays; by_headers = s.peer.by_headers; capable = true; wants_high = relay.high_bandwidth }) s) s (λ _. e) (λ _. e)

greeted_waits : (reason : Type 0) (s : SessionState) (message : Message) → s.unknown ≡ true → Waits reason (in_greeted s message)
unfolding in_greeted
greeted_waits reason s messages.Verack e = waits_on e
greeted_waits reason s messages.SendHeaders e = waits_on e
greeted_waits reason s (messages.SendCmpct relay) e = waits_on (compact_unknown s relay e)
greeted_waits reason s other e = waits_on e

brought_waits : (reason : Type 0) (s : SessionState) (block : Block) → s.unknown ≡ true → Waits reason (brought s block)
brought_waits reason s block e =
    let hash = block_hash block.header in
    brought_cases (Waits reason) s block
    (λ _. dropping_cases (λ (x : SessionState). Waits reason (asks (heard_of hash x) [] (About subjects.Block))) hash (landing hash s) (waits_on e) (waits_on e)) (is_over refl)

falls_waits : (reason : Type 0) (s : SessionState) (hash before : Hash256) → s.unknown ≡ true → Waits reason (falls_back s hash before)
unfolding falls_back
falls_waits reason s hash before e = end_waits reason (with_fallen hash before s) _ e

filled_waits : (reason : Type 0) (s : SessionState) (hash before : Hash256) (filled : Result Filled Fault) → s.unknown ≡ true → Waits reason (filled_by s hash before filled)
filled_waits reason s hash before (Ok (filling.Sound block)) e = waits_on e
filled_waits reason s hash before (Ok filling.Wrong) e = falls_waits reason s hash before e
filled_waits reason s hash before (Err fault) e = is_over refl

completed_waits : (reason : Type 0) (s : SessionState) (given : BlockTransactions) (partial : Option Unfilled) → s.unknown ≡ true → Waits reason (completed_by s given partial)
completed_waits reason s given None e = end_waits reason s [] e
completed_waits reason s given (Some partial) e =
    by_test (Waits reason) (same (block_hash partial.header) given.block) (filled_by (with_partial None s) given.block partial.header.prev (completed_of partial given)) (ends s [])
    (λ _. filled_waits reason (with_partial None s) given.block partial.header.prev (completed_of partial given) e) (λ _. end_waits reason s [] e)

txs_waits : (reason : Type 0) (s : SessionState) (given : BlockTransactions) → s.unknown ≡ true → Waits reason (txs_heard s given)
unfolding txs_heard
txs_waits reason s given e = completed_waits reason s given s.compact.partial e

short_heard_waits : (reason : Type 0) (s : SessionState) (short : HeaderAndShortIds) → s.unknown ≡ true → Waits reason (short_heard s short)
unfolding short_heard
short_heard_waits reason s short e =
    by_test (Waits reason) (has_places short.txs) (asks (heard_of (block_hash short.header) s) [] (About subjects.Headers)) (ended reasons.BadMessage s) (λ _. waits_on e) (λ _. is_over refl)

-- an empty `headers` is a reason
ready_waits : (reason : Type 0) (s : SessionState) (message : Message) → s.unknown ≡ true → (message ≡ messages.Headers [] → reason) → Waits reason (in_ready s message)
unfolding in_ready
ready_waits reason s messages.SendHeaders e empty = end_waits reason (by_headers s) [] e
ready_waits reason s (messages.SendCmpct relay) e empty = end_waits reason (by_compact relay s) [] (compact_unknown s relay e)
ready_waits reason s (messages.Headers []) e empty = for_reason (empty refl)
ready_waits reason s (messages.Headers (first ∷ others)) e empty = waits_on e
ready_waits reason s (messages.Inv entries) e empty =
    by_test (Waits reason) (is_nil (told_of entries)) (ends s []) (asks s [] (About subjects.Inventory)) (λ _. end_waits reason s [] e) (λ _. waits_on e)
ready_waits reason s (messages.GetData entries) e empty = waits_on e
ready_waits reason s (messages.GetHeaders request) e empty = waits_on e
ready_waits reason s (messages.NotFound entries) e empty = end_waits reason (with_fetch (given_up entries s.fetch) s) [] e
ready_waits reason s (messages.Tx tx) e empty = waits_on e
ready_waits reason s (messages.Block block) e empty = brought_waits reason s block e
ready_waits reason s (messages.CmpctBlock short) e empty = short_heard_waits reason s short e
ready_waits reason s (messages.GetBlockTxn request) e empty = waits_on e
ready_waits reason s (messages.BlockTxn given) e empty = txs_waits reason s given e
ready_waits reason s other e empty = end_waits reason s [] e

phase_waits : (reason : Type 0) (state : State) (s : SessionState) (message : Message) → s.unknown ≡ true → (message ≡ messages.Headers [] → reason) → Waits reason (by_phase state s message)
phase_waits reason Start s message e empty = start_waits reason s message e
phase_waits reason Greeted s message e empty = greeted_waits reason s message e
phase_waits reason Ready s message e empty = ready_waits reason s message e empty
phase_waits reason (Closed why) s message e empty = waits_on e

received_waits : (reason : Type 0) (s : SessionState) (message : Message) → s.unknown ≡ true → (message ≡ messages.Headers [] → reason) → Waits reason (received s message)
unfolding received
received_waits reason s (messages.Ping nonce) e empty = end_waits reason s (messages.Pong nonce ∷ []) e
received_waits reason s other e empty = phase_waits reason s.state s other e empty

processed_waits : (reason : Type 0) (s : SessionState) (item : Option Item) → s.unknown ≡ true → (item ≡ Some (Good (messages.Headers [])) → reason) → Waits reason (processed s item)
unfolding processed
processed_waits reason s None e empty = end_waits reason s [] e
processed_waits reason s (Some (Good message)) e empty = received_waits reason s message e (λ is. empty (ap (λ (m : Message). Some (Good m)) is))
processed_waits reason s (Some Damaged) e empty = end_waits reason s [] e
processed_waits reason s (Some (Bad command fault)) e empty = is_over refl

heads_waits : (reason : Type 0) (u : SessionState) (item : Option Item) (refused : Option Fault) (locator : List Hash256) → u.unknown ≡ true → (is_orphan refused ≡ false → reason) → Waits reason (heads_by u item refused locator)
heads_waits reason u item (Some faults.BadWork) locator e known = is_over refl
heads_waits reason u item (Some faults.NoParent) locator e known = seeks_waits reason u locator e
heads_waits reason u item (Some other) locator e known = for_reason (known refl)
heads_waits reason u item None locator e known = for_reason (known refl)

short_waits : (reason : Type 0) (s : SessionState) (hash : Hash256) (heads : Heads) → s.unknown ≡ true → Waits reason (short_told s hash heads)
unfolding short_told
short_waits reason s hash heads e =
    let found = is_orphan heads.refused in
    let sent = search found s heads.locator in
    let t = seeking found s in
    by_test (Waits reason) (is_workless heads.refused) (ended reasons.BadBlock s) (cond (is_nil heads.lack) (ends (landing hash t) sent) (asks t sent Match)) (λ _. is_over refl)
    (λ _. by_test (Waits reason) (is_nil heads.lack) (ends (landing hash t) sent) (asks t sent Match) (λ _. end_waits reason (landing hash t) sent (seek_waits found s e)) (λ _. waits_on (seek_waits found s e)))

heads_for_waits : (reason : Type 0) (s : SessionState) (item : Option Item) (short : Option HeaderAndShortIds) (heads : Heads) → s.unknown ≡ true → (short ≡ None → is_orphan heads.refused ≡ false → reason) → Waits reason (heads_for s item short heads)
heads_for_waits reason s item None heads e known = heads_waits reason (with_lacking heads.lack (before_first item) s) item heads.refused heads.locator e (known refl)
heads_for_waits reason s item (Some short) heads e known = short_waits reason s (block_hash short.header) heads e

taken_waits : (reason : Type 0) (s : SessionState) (header : Option Header) (refused : Option Fault) (locator : List Hash256) → s.unknown ≡ true → Waits reason (taken_told s header refused locator)
unfolding taken_told
taken_waits reason s header None locator e = end_waits reason s [] e
taken_waits reason s header (Some faults.Known) locator e = end_waits reason s [] e
taken_waits reason s header (Some faults.NoParent) locator e = orphaned_waits reason s header locator e
taken_waits reason s header (Some other) locator e = is_over refl

given_waits : (reason : Type 0) (s : SessionState) (header : Header) (refused : Option Fault) (locator : List Hash256) → s.unknown ≡ true → Waits reason (given_told s header refused locator)
unfolding given_told
given_waits reason s header refused locator e =
    by_test (Waits reason) (is_orphan refused) (orphaned s (Some header) locator) (ends s []) (λ _. orphaned_waits reason s (Some header) locator e) (λ _. end_waits reason s [] e)

rebuilt_waits : (reason : Type 0) (s : SessionState) (header : Header) (rebuilt : Rebuilt) → s.unknown ≡ true → Waits reason (rebuilt_by s header rebuilt)
rebuilt_waits reason s header (rebuilts.Sound block) e = waits_on e
rebuilt_waits reason s header (rebuilts.Lacking partial request) e = end_waits reason (with_partial (Some partial) s) (asking_txs request ∷ []) e
rebuilt_waits reason s header rebuilts.Useless e = falls_waits reason s (block_hash header) header.prev e

paired_waits : (reason : Type 0) (s : SessionState) (short : Option HeaderAndShortIds) (pairs : List Pair) → s.unknown ≡ true → Waits reason (paired s short pairs)
paired_waits reason s None pairs e = waits_on e
paired_waits reason s (Some short) pairs e =
    by_test (Waits reason) (has_places short.txs) (rebuilt_by s short.header (rebuilt_of short pairs)) (ended reasons.BadMessage s) (λ _. rebuilt_waits reason s short.header (rebuilt_of short pairs) e) (λ _. is_over refl)

excerpt_waits : (reason : Type 0) (s : SessionState) (excerpt : Excerpt) → s.unknown ≡ true → Waits reason (excerpt_answered s excerpt)
unfolding excerpt_answered
excerpt_waits reason s (excerpts.Refused fault) e = is_over refl
excerpt_waits reason s other e = end_waits reason s (excerpt_told other) e

-- Leave for an empty `headers` is a reason, and so is what the hall says of headers with a known parent.
record Reasons (reason : Type 0) (item : Option Item) (stage : Stage) (answer : Answer) : Type 0 where
  empty : stage ≡ Admit → answer ≡ answers.Go → item ≡ Some (Good (messages.Headers [])) → reason
  known : (subject : Subject) (heads : Heads) → stage ≡ About subject → answer ≡ answers.Heads heads → short_in item ≡ None → is_orphan heads.refused ≡ false → reason

replied_waits : (reason : Type 0) (s : SessionState) (item : Option Item) (stage : Stage) (answer : Answer) → s.unknown ≡ true → Reasons reason item stage answer → Waits reason (replied s item stage answer)
unfolding replied heads_told need_told served_told pairs_told wanted_told news_told
replied_waits reason s item stage answers.Kicked e why = is_over refl
replied_waits reason s item Admit answers.Go e why = processed_waits reason s item e (why.empty refl refl)
replied_waits reason s item (About subject) (answers.Heads heads) e why = heads_for_waits reason s item (short_in item) heads e (why.known subject heads refl refl)
replied_waits reason s item (About subject) (answers.Locator locator) e why = end_waits reason s _ e
replied_waits reason s item (About subject) (answers.Need need) e why = end_waits reason (seeking (list_any is_block need.entries) s) _ (seek_waits (list_any is_block need.entries) s e)
replied_waits reason s item (About subject) (answers.TxTaken refused) e why = end_waits reason s [] e
replied_waits reason s item (About subject) (answers.Taken taken) e why = taken_waits reason s (header_in item) taken.refused taken.locator e
replied_waits reason s item (About subject) (answers.Served pieces) e why = end_waits reason (with_made (shorts pieces) s) _ e
replied_waits reason s item (About subject) (answers.Following list) e why = end_waits reason s _ e
replied_waits reason s item (About subject) (answers.Excerpt excerpt) e why = excerpt_waits reason s excerpt e
replied_waits reason s item Match (answers.Pairs pairs) e why = paired_waits reason s (short_in item) pairs e
replied_waits reason s item (Give block) (answers.Taken taken) e why = given_waits reason s block.header taken.refused taken.locator e
replied_waits reason s item Wanted (answers.Need need) e why = waits_on e
replied_waits reason s item Fresh (answers.News news) e why = waits_on e
replied_waits reason s item stage other e why = waits_on e

-- only headers are answered so
heads_fit : (q : SessionState) (item : Option Item) (subject : Subject) (heads : Heads) → fits (question_of q item (About subject)) (answers.Heads heads) ≡ true → subject ≡ subjects.Headers
heads_fit q item subjects.Headers heads fit = refl
heads_fit q item subjects.Locator heads fit = absurd cc
heads_fit q item subjects.Inventory heads fit = absurd cc
heads_fit q item subjects.Tx heads fit = absurd cc
heads_fit q item subjects.Block heads fit = absurd cc
heads_fit q item subjects.Items heads fit = absurd cc
heads_fit q item subjects.After heads fit = absurd cc
heads_fit q item subjects.Places heads fit = absurd cc

pending_is : (s : SessionState) (pending : Pending) (item : Option Item) (stage : Stage) → s.pending ≡ Some pending → pending.item ≡ item → pending.stage ≡ stage → s.pending ≡ Some (record { item = item; stage = stage })
pending_is s pending item stage at is staged =
    at ∙ ap (λ (i : Option Item). Some (record { item = i; stage = pending.stage })) is ∙ ap (λ (st : Stage). Some (record { item = item; stage = st })) staged

reasons_of : (s : SessionState) (pending : Pending) (answer : Answer) → s.pending ≡ Some pending → fits (question_of s pending.item pending.stage) answer ≡ true → Reasons (Answered s (events.Told answer)) pending.item pending.stage answer
reasons_of s pending answer at fit =
    record {
      empty = λ staged go is. subst (λ (a : Answer). Answered s (events.Told a)) (sym go) (nothing (pending_is s pending (Some (Good (messages.Headers []))) Admit at is staged));
      known = λ subject heads staged is plain orphan.
          (let fitting : fits (question_of s pending.item (About subject)) (answers.Heads heads) ≡ true =
          ap (λ (st : Stage). fits (question_of s pending.item st) (answers.Heads heads)) (sym staged) ∙ ap (fits (question_of s pending.item pending.stage)) (sym is) ∙ fit in
          let about_headers : pending.stage ≡ About subjects.Headers = staged ∙ ap About (heads_fit s pending.item subject heads fitting) in
          subst (λ (a : Answer). Answered s (events.Told a)) (sym is) (headers pending.item heads (pending_is s pending pending.item (About subjects.Headers) at refl about_headers) plain orphan));
    }

same_unknown : (outcome : Outcome) → (resuming outcome).session.unknown ≡ outcome.session.unknown
same_unknown outcome = resuming_cases (λ (o : Outcome). o.session.unknown ≡ outcome.session.unknown) outcome refl (λ _ _ _ _. refl)

same_state : (outcome : Outcome) → (resuming outcome).session.state ≡ outcome.session.state
same_state outcome = resuming_cases (λ (o : Outcome). o.session.state ≡ outcome.session.state) outcome refl (λ _ _ _ _. refl)

by_reason : (reason : Type 0) (outcome : Outcome) → Waits reason outcome → is_closed (resuming outcome).session.state ≡ false → (resuming outcome).session.unknown ≡ false → reason
by_reason reason outcome (waits_on e) going gone = absurd (let clash : true ≡ false = sym e ∙ sym (same_unknown outcome) ∙ gone in cc)
by_reason reason outcome (is_over closed) going gone = absurd (let clash : true ≡ false = sym closed ∙ ap is_closed (sym (same_state outcome)) ∙ going in cc)
by_reason reason outcome (for_reason why) going gone = why

answered_by : (reason : Type 0) (s : SessionState) (item inner : Option Item) (stage : Stage) (answer : Answer) → s.unknown ≡ true → Reasons reason item stage answer → is_closed (for_item inner (answered s item stage answer)).session.state ≡ false → (for_item inner (answered s item stage answer)).session.unknown ≡ false → reason
unfolding answered
answered_by reason s item inner stage answer e why going gone = by_reason reason (replied s item stage answer) (replied_waits reason s item stage answer e why) going gone

told_waited : (s : SessionState) (answer : Answer) → s.unknown ≡ true → is_closed (step_of s (events.Told answer)).session.state ≡ false → (step_of s (events.Told answer)).session.unknown ≡ false → Answered s (events.Told answer)
told_waited s answer e =
    told_by (λ (step : Stepped). is_closed step.session.state ≡ false → step.session.unknown ≡ false → Answered s (events.Told answer)) s answer
    (λ _ gone. absurd (let clash : true ≡ false = sym e ∙ gone in cc))
    (λ pending at fit _ going gone. answered_by (Answered s (events.Told answer)) (freed s) pending.item pending.item pending.stage answer e (reasons_of s pending answer at fit) going gone)

arrives_same : (s : SessionState) (pending : Option Pending) (item : Option Item) → (arrives pending s item).session.unknown ≡ s.unknown
arrives_same s None item = refl
arrives_same s (Some pending) item = refl

-- an event that is no answer and no probe leaves it as it is, or ends the session
open_same : (s : SessionState) (event : Event) → ((answer : Answer) → event ≡ events.Told answer → ⊥) → (event ≡ events.Probe → ⊥) → is_closed (open_step s event).session.state ≡ false → (open_step s event).session.unknown ≡ s.unknown
unfolding open_step
open_same s (events.Said item) told probed going = arrives_same s s.pending (Some item)
open_same s events.Tick told probed going = arrives_same s s.pending None
open_same s events.Probe told probed going = absurd (probed refl)
open_same s (events.Told answer) told probed going = absurd (told answer refl)
open_same s (events.Broken fault) told probed going = absurd (let clash : true ≡ false = going in cc)
open_same s events.ReaderEnd told probed going = absurd (let clash : true ≡ false = going in cc)
open_same s events.NoMemory told probed going = absurd (let clash : true ≡ false = going in cc)
open_same s events.HallFull told probed going = absurd (let clash : true ≡ false = going in cc)
open_same s events.WriteFault told probed going = absurd (let clash : true ≡ false = going in cc)

step_same : (s : SessionState) (event : Event) → ((answer : Answer) → event ≡ events.Told answer → ⊥) → (event ≡ events.Probe → ⊥) → is_closed (step_of s event).session.state ≡ false → (step_of s event).session.unknown ≡ s.unknown
unfolding step_of
step_same s event told probed =
    by_test (λ (step : Stepped). is_closed step.session.state ≡ false → step.session.unknown ≡ s.unknown) (is_closed s.state) (stays s) (open_step s event) (λ _ _. refl) (λ _. open_same s event told probed)

pub waited : (s : SessionState) (event : Event) → s.unknown ≡ true → is_closed (step_of s event).session.state ≡ false → (step_of s event).session.unknown ≡ false → Answered s event
waited s (events.Told answer) e going gone = told_waited s answer e going gone
waited s events.Probe e going gone = probe
waited s event e going gone = absurd (let clash : true ≡ false = sym e ∙ sym (step_same s event (λ answer is. cc) (λ is. cc) going) ∙ gone in cc)

-- ---- a block that came before its parent

orphaned_kept : (t : SessionState) (item : Option Item) (header : Header) (locator : List Hash256) → remembers t ≡ false → is_fetched t.fetch header.prev ≡ true → IsKept (block_hash header) (Some header.prev) (for_item item (resuming (orphaned t (Some header) locator)))
orphaned_kept t item header locator free there =
    let hash = block_hash header in
    let u : SessionState = with_child hash header.prev t in
    let awaited : awaits t header.prev ≡ true = ap (λ (b : Bool). not b && is_fetched t.fetch header.prev) free ∙ there in
    let is : orphaned t (Some header) locator ≡ ends u [] = ap (λ (b : Bool). cond b (ends u []) (seeks t locator)) awaited in
    subst (λ (o : Outcome). IsKept hash (Some header.prev) (for_item item (resuming o))) (sym is)
    (elim (cases_Bool (is_fetched (wanting t.fetch hash) hash)) [
      | inl queued ↦ fetched_end hash (Some header.prev) u item [] queued
      | inr out ↦ kept_end hash header.prev u item [] (ap (λ (b : Bool). cond b t.resume_from (Some header.prev)) out) refl
    ])

given_kept : (t : SessionState) (item inner : Option Item) (stage : Stage) (header : Header) (taken : Taken) → given_header item stage ≡ Some header → taken.refused ≡ Some faults.NoParent → remembers t ≡ false → is_fetched t.fetch header.prev ≡ true
    → IsKept (block_hash header) (Some header.prev) (for_item inner (answered t item stage (answers.Taken taken)))
unfolding answered replied taken_told given_told
given_kept t item inner (About subjects.Block) header taken is orphan free there =
    rw orphan (rw is (orphaned_kept t inner header taken.locator free there))
given_kept t item inner (Give block) header taken is orphan free there =
    let same_header : block.header ≡ header = some_header block.header header is in
    rw orphan (subst (λ (h : Header). IsKept (block_hash header) (Some header.prev) (for_item inner (resuming (orphaned t (Some h) taken.locator)))) (sym same_header) (orphaned_kept t inner header taken.locator free there))
  where
    some_header : (a b : Header) → Some a ≡ Some b → a ≡ b
    some_header a b e = cc
given_kept t item inner stage header taken is orphan free there = absurd cc

pub child_kept : (s : SessionState) (pending : Pending) (header : Header) (taken : Taken) → is_closed s.state ≡ false → s.pending ≡ Some pending → given_header pending.item pending.stage ≡ Some header → taken.refused ≡ Some faults.NoParent → remembers s ≡ false → is_fetched s.fetch header.prev ≡ true
    → IsKept (block_hash header) (Some header.prev) (step_of s (events.Told (answers.Taken taken)))
child_kept s pending header taken going at is orphan free there =
    let w : s ≡ waiting s pending.item pending.stage = ap (λ (p : Option Pending). with_pending p s) at in
    let goes = told_goes s pending.item pending.stage (answers.Taken taken) going (taken_fits s pending.item pending.stage taken header is) in
    subst (IsKept (block_hash header) (Some header.prev)) (sym (ap (λ (t : SessionState). step_of t (events.Told (answers.Taken taken))) w ∙ goes))
    (given_kept (freed s) pending.item pending.item pending.stage header taken is orphan free there)
  where
    taken_fits : (s : SessionState) (item : Option Item) (stage : Stage) (taken : Taken) (header : Header) → given_header item stage ≡ Some header → fits (question_of (waiting s item stage) item stage) (answers.Taken taken) ≡ true
    taken_fits s item (About subjects.Block) taken header is = refl
    taken_fits s item (Give block) taken header is = refl
    taken_fits s item stage taken header is = absurd cc

-- ---- a peer that wants no transactions to be announced

txs_mild : IsMild announces_tx
txs_mild =
    record {
      version = λ _. refl;
      verack = refl;
      pong = λ _. refl;
      send_headers = refl;
      send_compact = λ _. refl;
      not_found = λ _. refl;
      get_headers = λ _. refl;
      tx = λ _. refl;
      block = λ _. refl;
      short = λ _. refl;
      get_txs = λ _. refl;
      txs = λ _. refl;
    }

none_asked_for : (entries : List Inventory) → None_of announces_tx (asking_for entries)
none_asked_for [] = refl
none_asked_for (first ∷ others) = refl

pub no_txs_told : (s : SessionState) (event : Event) → s.peer.relays ≡ false → None_of announces_tx (step_of s event).messages
no_txs_told s event refuses =
    step_none announces_tx s event txs_mild (λ _. refl)
    (λ waiting answer _ is.
    record {
      need = λ need. none_asked_for (filter_map tx_request need.entries);
      wanted = λ need _. none_asked_for (requests_of (need.near && s.peer.capable) (taken_on (blocks_in need.entries)).flight);
      tip = λ news. tip_none announces_tx (freed s) news txs_mild (λ _. refl) (λ _. refl);
      txs = λ news. ap (λ (b : Bool). list_any announces_tx (cond b (telling (without_brought waiting.item news.txids)) [])) refuses;
      following = λ list _. refl;
      whole = λ _ _. refl;
    })

pub first_counts : (s : SessionState) (version : Version) → s.state ≡ Start → is_closed (received s (messages.Version version)).session.state ≡ false → (received s (messages.Version version)).session.peer.relays ≡ version.relay
unfolding received in_start introduced
first_counts s version at = rw at (either (version.nonce == s.settings.nonce) (int_lt version.version (pos 70001)))
  where
    met : SessionState
    met = with_state Greeted (with_peer (record { version = version.version; relays = version.relay; by_headers = s.peer.by_headers; capable = s.peer.capable; wants_high = s.peer.wants_high }) s)

    either : (own old : Bool) → is_closed (cond own (ended reasons.SelfPeer s) (cond old (ended reasons.OldPeer s) (sends met (greeting s.settings)))).session.state ≡ false
        → (cond own (ended reasons.SelfPeer s) (cond old (ended reasons.OldPeer s) (sends met (greeting s.settings)))).session.peer.relays ≡ version.relay
    either true old going = absurd (let clash : true ≡ false = going in cc)
    either false true going = absurd (let clash : true ≡ false = going in cc)
    either false false going = refl

later_phase : (state : State) (s : SessionState) (version : Version) → state ≢ Start → (by_phase state s (messages.Version version)).session ≡ s
unfolding in_greeted in_ready
later_phase Start s version other = absurd (other refl)
later_phase Greeted s version other = refl
later_phase Ready s version other = end_session s []
later_phase (Closed why) s version other = refl

pub later_counts_not : (s : SessionState) (version : Version) → s.state ≢ Start → (received s (messages.Version version)).session ≡ s
unfolding received
later_counts_not s version other = later_phase s.state s version other
