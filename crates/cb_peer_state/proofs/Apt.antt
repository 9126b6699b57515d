-- What a session that events lead to keeps: its blocks are fetched by the calls for it, where it asks which of the wanted ones are
-- still needed none is in flight, and a block that the hall is given is sound, whether it came whole or was rebuilt.
use Rattle.std.specs.List.{list_any}
use Rattle.cb_peer_state.proofs.Behind.{orphaned_cases}
use Rattle.std.proofs.Common.{◌≡◌, ◌≢◌, ℕ, true, cond, List, [], ◌∷◌, Option, Some, None, refl, sym, subst, inl, inr, Bool, false}
use Rattle.std.specs.Prelude.{◌==◌, int_lt, length, pos, Result, Ok, Err}
use Rattle.std.proofs.lemmas.Bool.{cases_Bool}
use Rattle.cb_base.specs.declared.fault.Fault.{Fault}
use Rattle.cb_base.specs.declared.fault.Fault.TheVariants as faults
use Rattle.cb_base.specs.declared.hash.Hash256.{Hash256}
use Rattle.cb_block.specs.declared.block.Block.{Block}
use Rattle.cb_block.specs.declared.header.Header.{Header}
use Rattle.cb_chain.specs.Entries.{block_hash, same}
use Rattle.cb_compact.specs.Slots.{Unfilled, missing}
use Rattle.cb_compact.specs.declared.named_tx.Pair.{Pair}
use Rattle.cb_compact.specs.declared.partial.Filled.{Filled}
use Rattle.cb_compact.specs.declared.partial.Filled.TheVariants as filling
use Rattle.cb_peer_state.specs.Fetching.{FetchState, IsReached as IsFetched, asks_now, blocks_in, idle, is_due, landed, taken_on, wanting_all}
use Rattle.cb_peer_state.specs.Fetching.IsReached.{opening as nothing_yet, wants, lands, falls_back as gives_back, takes_on, joins}
use Rattle.cb_hall.specs.declared.answer.Answer.{Answer}
use Rattle.cb_hall.specs.declared.answer.Answer.TheVariants as answers
use Rattle.cb_wire.specs.declared.block_transactions.BlockTransactions.{BlockTransactions}
use Rattle.cb_wire.specs.declared.compact_block.HeaderAndShortIds.{HeaderAndShortIds}
use Rattle.cb_wire.specs.declared.inventory.Inventory.{Inventory}
use Rattle.cb_wire.specs.declared.inventory.Inventory.TheVariants as entry
use Rattle.cb_wire.specs.declared.requests.CompactRelay.{CompactRelay}
use Rattle.cb_wire.specs.declared.version.Version.{Version}
use Rattle.cb_compact.specs.Completing.{completed_of, judged_of}
use Rattle.cb_compact.specs.Places.{has_places}
use Rattle.cb_compact.specs.Rebuilding.{are_different, block_with, rebuilt_of, told_by, unfilled_of, whole_of}
use Rattle.cb_compact.specs.declared.rebuilding.Rebuilt.{Rebuilt}
use Rattle.cb_compact.specs.declared.rebuilding.Rebuilt.TheVariants as rebuilts
use Rattle.cb_state.specs.declared.accepting.Heads.{Heads}
use Rattle.cb_state.specs.declared.serving_places.Excerpt.{Excerpt}
use Rattle.cb_state.specs.declared.serving_places.Excerpt.TheVariants as excerpts
use Rattle.cb_peer_state.specs.Inventory.{asking_block, asking_txs}
use Rattle.cb_peer_state.specs.Serving.{excerpt_told}
use Rattle.cb_wire.specs.declared.item.Item.{Item}
use Rattle.cb_wire.specs.declared.item.Item.TheVariants.{Good, Damaged, Bad}
use Rattle.cb_wire.specs.declared.message.Message.{Message}
use Rattle.cb_wire.specs.declared.message.Message.TheVariants as messages
use Rattle.cb_peer_state.specs.declared.stage.Stage.{Stage}
use Rattle.cb_peer_state.specs.declared.stage.Stage.TheVariants.{Admit, About, Match, Give, Wanted, Fresh}
use Rattle.cb_peer_state.specs.declared.stage.Subject.{Subject}
use Rattle.cb_peer_state.specs.declared.stage.Subject.TheVariants as subjects
use Rattle.cb_peer_state.specs.declared.event.Event.{Event}
use Rattle.cb_peer_state.specs.declared.event.Event.TheVariants as events
use Rattle.cb_peer_state.specs.declared.pending.Pending.{Pending}
use Rattle.cb_peer_state.specs.declared.state.CloseReason.TheVariants as reasons
use Rattle.cb_peer_state.specs.declared.state.State.{State}
use Rattle.cb_peer_state.specs.declared.state.State.TheVariants.{Start, Greeted, Ready, Closed}
use Rattle.cb_peer_state.specs.Questions.{fits, is_nil, item_block, question_of, short_in, told_of}
use Rattle.cb_peer_state.specs.Laws.{IsReached}
use Rattle.cb_peer_state.specs.Laws.IsReached.{opens, steps, stops}
use Rattle.cb_peer_state.specs.Receiving.{Outcome, asks, by_compact, by_headers, by_phase, completed_by, ended, ends, falls_back, filled_by, given_up, gives, gives_up, heard_of, in_greeted, in_ready, in_start, introduced, brought, processed, received, short_heard, txs_heard}
use Rattle.cb_peer_state.specs.Replying.{answered, before_first, excerpt_answered, given_told, heads_by, heads_for, heads_told, is_workless, need_told, news_told, paired, pairs_told, rebuilt_by, replied, served_told, short_told, taken_told, wanted_told, header_in, is_block, is_orphan, orphaned, search}
use Rattle.cb_peer_state.specs.Session.{Stepped, arrives, open_step, pending_item, pending_of, pinged, stays, step_of, told}
use Rattle.cb_block.specs.Decision.{is_sound_block}
use Rattle.cb_peer_state.specs.declared.session_state.SessionState.{SessionState}
use Rattle.cb_peer_state.specs.State.{freed, is_closed, is_ready, landing, remembers, with_fallen, with_fetch, with_lacking, with_partial, with_pending, seeking, with_child, with_unknown}
use Rattle.cb_peer_state.proofs.Cases.{brought_cases, by_test, dropping_cases, ends_cases}
use Rattle.cb_peer_state.proofs.Resuming.{resuming_cases}

-- what is asked for an item suits what the session keeps
pub record Suits (fetch : FetchState) (item : Option Item) (next : Option Stage) : Type 0 where
  pub fetched : IsFetched fetch
  pub idles : next ≡ Some Wanted → is_due fetch ≡ true
  pub sound : next ≡ Some (About subjects.Block) → is_sound_block (item_block item) ≡ true
  pub rebuilt : (block : Block) → next ≡ Some (Give block) → is_sound_block block ≡ true

abbrev pub SuitsOutcome : Option Item → Outcome → Type 0
SuitsOutcome item outcome = Suits outcome.session.fetch item outcome.next

none_suits : (fetch : FetchState) (item : Option Item) → IsFetched fetch → Suits fetch item None
none_suits fetch item f = record { fetched = f; idles = λ e. absurd cc; sound = λ e. absurd cc; rebuilt = λ _ e. absurd cc }

admit_suits : (fetch : FetchState) (item : Option Item) → IsFetched fetch → Suits fetch item (Some Admit)
admit_suits fetch item f = record { fetched = f; idles = λ e. absurd cc; sound = λ e. absurd cc; rebuilt = λ _ e. absurd cc }

fresh_suits : (fetch : FetchState) (item : Option Item) → IsFetched fetch → Suits fetch item (Some Fresh)
fresh_suits fetch item f = record { fetched = f; idles = λ e. absurd cc; sound = λ e. absurd cc; rebuilt = λ _ e. absurd cc }

match_suits : (fetch : FetchState) (item : Option Item) → IsFetched fetch → Suits fetch item (Some Match)
match_suits fetch item f = record { fetched = f; idles = λ e. absurd cc; sound = λ e. absurd cc; rebuilt = λ _ e. absurd cc }

give_suits : (fetch : FetchState) (item : Option Item) (block : Block) → IsFetched fetch → is_sound_block block ≡ true → Suits fetch item (Some (Give block))
give_suits fetch item block f sound =
    record {
      fetched = f;
      idles = λ e. absurd cc;
      sound = λ e. absurd cc;
      rebuilt = λ other e. (let same : block ≡ other = cc in subst (λ (b : Block). is_sound_block b ≡ true) same sound);
    }

about_suits : (fetch : FetchState) (item : Option Item) (subject : Subject) → IsFetched fetch → subject ≢ subjects.Block → Suits fetch item (Some (About subject))
about_suits fetch item subject f other = record { fetched = f; idles = λ e. absurd cc; sound = λ e. absurd (other (let same : subject ≡ subjects.Block = cc in same)); rebuilt = λ _ e. absurd cc }

block_suits : (fetch : FetchState) (block : Block) → IsFetched fetch → is_sound_block block ≡ true → Suits fetch (Some (Good (messages.Block block))) (Some (About subjects.Block))
block_suits fetch block f sound = record { fetched = f; idles = λ e. absurd cc; sound = λ _. sound; rebuilt = λ _ e. absurd cc }

ends_suits : (item : Option Item) (s : SessionState) (sent : List Message) → IsFetched s.fetch → SuitsOutcome item (ends s sent)
ends_suits item s sent f =
    ends_cases (SuitsOutcome item) s sent (λ _. none_suits s.fetch item f) (λ _ due. record { fetched = f; idles = λ _. due; sound = λ e. absurd cc; rebuilt = λ _ e. absurd cc }) (λ _ _. fresh_suits s.fetch item f)

-- ---- messages

introduced_suits : (item : Option Item) (s : SessionState) (version : Version) → IsFetched s.fetch → SuitsOutcome item (introduced s version)
unfolding introduced
introduced_suits item s version f =
    elim (cases_Bool (version.nonce == s.settings.nonce)) [
      | inl own ↦ rw own (none_suits idle item nothing_yet)
      | inr other ↦
          elim (cases_Bool (int_lt version.version (pos 70001))) [
            | inl old ↦ rw (other, old) (none_suits idle item nothing_yet)
            | inr new ↦ rw (other, new) (none_suits s.fetch item f)
          ]
    ]

compact_fetch : (relay : CompactRelay) (s : SessionState) → (by_compact relay s).fetch ≡ s.fetch
compact_fetch relay s = elim (cases_Bool (relay.version == 1)) [ inl one ↦ rw one refl | inr other ↦ rw other refl ]

compact_fetched : (relay : CompactRelay) (s : SessionState) → IsFetched s.fetch → IsFetched (by_compact relay s).fetch
compact_fetched relay s f = subst IsFetched (sym (compact_fetch relay s)) f

one_given_up : (fetch : FetchState) (e : Inventory) → IsFetched fetch → IsFetched (gives_up fetch e)
one_given_up fetch (entry.Block hash) f = lands fetch hash f
one_given_up fetch (entry.CompactBlock hash) f = lands fetch hash f
one_given_up fetch (entry.Tx txid) f = f
one_given_up fetch (entry.Other kind hash) f = f

given_up_fetched : (entries : List Inventory) (fetch : FetchState) → IsFetched fetch → IsFetched (given_up entries fetch)
given_up_fetched [] fetch f = f
given_up_fetched (e ∷ entries) fetch f = given_up_fetched entries (gives_up fetch e) (one_given_up fetch e f)

brought_suits : (s : SessionState) (block : Block) → IsFetched s.fetch → SuitsOutcome (Some (Good (messages.Block block))) (brought s block)
brought_suits s block f =
    let hash : Hash256 = block_hash block.header in
    brought_cases (SuitsOutcome (Some (Good (messages.Block block)))) s block
    (λ sound.
    let suits : Suits (landed hash s.fetch) (Some (Good (messages.Block block))) (Some (About subjects.Block)) = block_suits (landed hash s.fetch) block (lands s.fetch hash f) sound in
    dropping_cases (λ (x : SessionState). SuitsOutcome (Some (Good (messages.Block block))) (asks (heard_of hash x) [] (About subjects.Block))) hash (landing hash s) suits suits)
    (none_suits idle (Some (Good (messages.Block block))) nothing_yet)

-- ---- a block that is rebuilt is sound

judged_sound : (whole block : Block) → judged_of whole ≡ filling.Sound block → is_sound_block block ≡ true
unfolding judged_of
judged_sound whole block =
    by_test (λ (filled : Filled). filled ≡ filling.Sound block → is_sound_block block ≡ true) (is_sound_block whole) (filling.Sound whole) filling.Wrong
    (λ sound e. (let same : whole ≡ block = cc in subst (λ (b : Block). is_sound_block b ≡ true) same sound)) (λ _ e. absurd cc)

completed_sound : (partial : Unfilled) (given : BlockTransactions) (block : Block) → completed_of partial given ≡ Ok (filling.Sound block) → is_sound_block block ≡ true
unfolding completed_of
completed_sound partial given block =
    by_test (λ (filled : Result Filled Fault). filled ≡ Ok (filling.Sound block) → is_sound_block block ≡ true) (length given.txs == length (missing 0 partial.slots)) (Ok (judged_of (block_with partial given.txs))) (Err faults.WrongCount)
    (λ _ e. judged_sound (block_with partial given.txs) block (let same : judged_of (block_with partial given.txs) ≡ filling.Sound block = cc in same)) (λ _ e. absurd cc)

whole_sound : (whole block : Block) → whole_of whole ≡ rebuilts.Sound block → is_sound_block block ≡ true
unfolding whole_of
whole_sound whole block =
    by_test (λ (rebuilt : Rebuilt). rebuilt ≡ rebuilts.Sound block → is_sound_block block ≡ true) (is_sound_block whole) (rebuilts.Sound whole) rebuilts.Useless
    (λ sound e. (let same : whole ≡ block = cc in subst (λ (b : Block). is_sound_block b ≡ true) same sound)) (λ _ e. absurd cc)

told_sound : (partial : Unfilled) (places : List ℕ) (block : Block) → told_by partial places ≡ rebuilts.Sound block → is_sound_block block ≡ true
told_sound partial [] block e = whole_sound (block_with partial []) block e
told_sound partial (place ∷ others) block e = absurd cc

rebuilt_sound : (short : HeaderAndShortIds) (pairs : List Pair) (block : Block) → rebuilt_of short pairs ≡ rebuilts.Sound block → is_sound_block block ≡ true
unfolding rebuilt_of
rebuilt_sound short pairs block =
    let partial : Unfilled = unfilled_of short pairs in
    by_test (λ (rebuilt : Rebuilt). rebuilt ≡ rebuilts.Sound block → is_sound_block block ≡ true) (are_different short.txs.ids) (told_by partial (missing 0 partial.slots)) rebuilts.Useless
    (λ _ e. told_sound partial (missing 0 partial.slots) block e) (λ _ e. absurd cc)

gives_suits : (item : Option Item) (s : SessionState) (block : Block) → IsFetched s.fetch → is_sound_block block ≡ true → SuitsOutcome item (gives s block)
gives_suits item s block f sound = give_suits (landed (block_hash block.header) s.fetch) item block (lands s.fetch (block_hash block.header) f) sound

falls_suits : (item : Option Item) (s : SessionState) (hash before : Hash256) → IsFetched s.fetch → SuitsOutcome item (falls_back s hash before)
unfolding falls_back
falls_suits item s hash before f = ends_suits item (with_fallen hash before s) (cond (asks_now s.fetch hash) (asking_block hash ∷ []) []) (gives_back s.fetch hash f)

filled_suits : (item : Option Item) (s : SessionState) (hash before : Hash256) (filled : Result Filled Fault) → IsFetched s.fetch → ((block : Block) → filled ≡ Ok (filling.Sound block) → is_sound_block block ≡ true) → SuitsOutcome item (filled_by s hash before filled)
filled_suits item s hash before (Ok (filling.Sound block)) f sound = gives_suits item s block f (sound block refl)
filled_suits item s hash before (Ok filling.Wrong) f sound = falls_suits item s hash before f
filled_suits item s hash before (Err fault) f sound = none_suits idle item nothing_yet

completed_suits : (item : Option Item) (s : SessionState) (given : BlockTransactions) (partial : Option Unfilled) → IsFetched s.fetch → SuitsOutcome item (completed_by s given partial)
completed_suits item s given None f = ends_suits item s [] f
completed_suits item s given (Some partial) f =
    by_test (SuitsOutcome item) (same (block_hash partial.header) given.block) (filled_by (with_partial None s) given.block partial.header.prev (completed_of partial given)) (ends s [])
    (λ _. filled_suits item (with_partial None s) given.block partial.header.prev (completed_of partial given) f (completed_sound partial given)) (λ _. ends_suits item s [] f)

txs_suits : (item : Option Item) (s : SessionState) (given : BlockTransactions) → IsFetched s.fetch → SuitsOutcome item (txs_heard s given)
unfolding txs_heard
txs_suits item s given f = completed_suits item s given s.compact.partial f

heard_suits : (item : Option Item) (s : SessionState) (short : HeaderAndShortIds) → IsFetched s.fetch → SuitsOutcome item (short_heard s short)
unfolding short_heard
heard_suits item s short f =
    by_test (SuitsOutcome item) (has_places short.txs) (asks (heard_of (block_hash short.header) s) [] (About subjects.Headers)) (ended reasons.BadMessage s)
    (λ _. about_suits s.fetch item subjects.Headers f (λ e. cc)) (λ _. none_suits idle item nothing_yet)

start_suits : (item : Option Item) (s : SessionState) (message : Message) → IsFetched s.fetch → SuitsOutcome item (in_start s message)
unfolding in_start
start_suits item s (messages.Version version) f = introduced_suits item s version f
start_suits item s other f = none_suits s.fetch item f

greeted_suits : (s : SessionState) (message : Message) → IsFetched s.fetch → SuitsOutcome (Some (Good message)) (in_greeted s message)
unfolding in_greeted
greeted_suits s messages.Verack f = about_suits s.fetch (Some (Good messages.Verack)) subjects.Locator f (λ e. cc)
greeted_suits s messages.SendHeaders f = none_suits s.fetch (Some (Good messages.SendHeaders)) f
greeted_suits s (messages.SendCmpct relay) f = none_suits (by_compact relay s).fetch (Some (Good (messages.SendCmpct relay))) (compact_fetched relay s f)
greeted_suits s other f = none_suits s.fetch (Some (Good other)) f

ready_suits : (s : SessionState) (message : Message) → IsFetched s.fetch → SuitsOutcome (Some (Good message)) (in_ready s message)
unfolding in_ready
ready_suits s messages.SendHeaders f = ends_suits _ (by_headers s) [] f
ready_suits s (messages.SendCmpct relay) f = ends_suits _ (by_compact relay s) [] (compact_fetched relay s f)
ready_suits s (messages.Headers []) f = ends_suits _ (with_unknown false s) [] f
ready_suits s (messages.Headers (first ∷ others)) f = about_suits s.fetch _ subjects.Headers f (λ e. cc)
ready_suits s (messages.Inv entries) f =
    elim (cases_Bool (is_nil (told_of entries))) [
      | inl none ↦ rw none (ends_suits (Some (Good (messages.Inv entries))) s [] f)
      | inr some_told ↦ rw some_told (about_suits s.fetch (Some (Good (messages.Inv entries))) subjects.Inventory f (λ e. cc))
    ]
ready_suits s (messages.GetData entries) f = about_suits s.fetch _ subjects.Items f (λ e. cc)
ready_suits s (messages.GetHeaders request) f = about_suits s.fetch _ subjects.After f (λ e. cc)
ready_suits s (messages.NotFound entries) f = ends_suits _ (with_fetch (given_up entries s.fetch) s) [] (given_up_fetched entries s.fetch f)
ready_suits s (messages.Tx tx) f = about_suits s.fetch _ subjects.Tx f (λ e. cc)
ready_suits s (messages.Block block) f = brought_suits s block f
ready_suits s (messages.CmpctBlock short) f = heard_suits _ s short f
ready_suits s (messages.GetBlockTxn request) f = about_suits s.fetch _ subjects.Places f (λ e. cc)
ready_suits s (messages.BlockTxn given) f = txs_suits _ s given f
ready_suits s other f = ends_suits _ s [] f

phase_suits : (state : State) (s : SessionState) (message : Message) → IsFetched s.fetch → SuitsOutcome (Some (Good message)) (by_phase state s message)
phase_suits Start s message f = start_suits _ s message f
phase_suits Greeted s message f = greeted_suits s message f
phase_suits Ready s message f = ready_suits s message f
phase_suits (Closed why) s message f = none_suits s.fetch _ f

received_suits : (s : SessionState) (message : Message) → IsFetched s.fetch → SuitsOutcome (Some (Good message)) (received s message)
unfolding received
received_suits s (messages.Ping nonce) f = ends_suits _ s (messages.Pong nonce ∷ []) f
received_suits s other f = phase_suits s.state s other f

processed_suits : (s : SessionState) (item : Option Item) → IsFetched s.fetch → SuitsOutcome item (processed s item)
unfolding processed
processed_suits s None f = ends_suits None s [] f
processed_suits s (Some (Good message)) f = received_suits s message f
processed_suits s (Some Damaged) f = ends_suits (Some Damaged) s [] f
processed_suits s (Some (Bad command fault)) f = none_suits idle (Some (Bad command fault)) nothing_yet

-- ---- answers

heads_by_suits : (item : Option Item) (s : SessionState) (refused : Option Fault) (locator : List Hash256) → IsFetched s.fetch → SuitsOutcome item (heads_by s item refused locator)
heads_by_suits item s (Some faults.BadWork) locator f = none_suits idle item nothing_yet
heads_by_suits item s (Some faults.NoParent) locator f = ends_suits item (seeking true s) _ f
heads_by_suits item s (Some other) locator f = ends_suits item (with_unknown false s) _ f
heads_by_suits item s None locator f = ends_suits item (with_unknown false s) _ f

short_suits : (item : Option Item) (s : SessionState) (hash : Hash256) (heads : Heads) → IsFetched s.fetch → SuitsOutcome item (short_told s hash heads)
unfolding short_told
short_suits item s hash heads f =
    let found : Bool = is_orphan heads.refused in
    let before : List Message = search found s heads.locator in
    let t : SessionState = seeking found s in
    by_test (SuitsOutcome item) (is_workless heads.refused) (ended reasons.BadBlock s) (cond (is_nil heads.lack) (ends (landing hash t) before) (asks t before Match)) (λ _. none_suits idle item nothing_yet)
    (λ _. by_test (SuitsOutcome item) (is_nil heads.lack) (ends (landing hash t) before) (asks t before Match) (λ _. ends_suits item (landing hash t) before (lands s.fetch hash f)) (λ _. match_suits s.fetch item f))

heads_for_suits : (item : Option Item) (s : SessionState) (short : Option HeaderAndShortIds) (heads : Heads) → IsFetched s.fetch → SuitsOutcome item (heads_for s item short heads)
heads_for_suits item s None heads f =
    heads_by_suits item (with_lacking heads.lack (before_first item) s) heads.refused heads.locator (by_test IsFetched (remembers s) s.fetch (wanting_all s.fetch heads.lack) (λ _. f) (λ _. wants s.fetch heads.lack f))
heads_for_suits item s (Some short) heads f = short_suits item s (block_hash short.header) heads f

rebuilt_suits : (item : Option Item) (s : SessionState) (header : Header) (rebuilt : Rebuilt) → IsFetched s.fetch → ((block : Block) → rebuilt ≡ rebuilts.Sound block → is_sound_block block ≡ true) → SuitsOutcome item (rebuilt_by s header rebuilt)
rebuilt_suits item s header (rebuilts.Sound block) f sound = gives_suits item s block f (sound block refl)
rebuilt_suits item s header (rebuilts.Lacking partial request) f sound = ends_suits item (with_partial (Some partial) s) (asking_txs request ∷ []) f
rebuilt_suits item s header rebuilts.Useless f sound = falls_suits item s (block_hash header) header.prev f

paired_suits : (item : Option Item) (s : SessionState) (short : Option HeaderAndShortIds) (pairs : List Pair) → IsFetched s.fetch → SuitsOutcome item (paired s short pairs)
paired_suits item s None pairs f = none_suits s.fetch item f
paired_suits item s (Some short) pairs f =
    by_test (SuitsOutcome item) (has_places short.txs) (rebuilt_by s short.header (rebuilt_of short pairs)) (ended reasons.BadMessage s)
    (λ _. rebuilt_suits item s short.header (rebuilt_of short pairs) f (rebuilt_sound short pairs)) (λ _. none_suits idle item nothing_yet)

excerpt_suits : (item : Option Item) (s : SessionState) (excerpt : Excerpt) → IsFetched s.fetch → SuitsOutcome item (excerpt_answered s excerpt)
unfolding excerpt_answered
excerpt_suits item s (excerpts.Refused fault) f = none_suits idle item nothing_yet
excerpt_suits item s other f = ends_suits item s (excerpt_told other) f

orphaned_suits : (item : Option Item) (s : SessionState) (header : Option Header) (locator : List Hash256) → IsFetched s.fetch → SuitsOutcome item (orphaned s header locator)
orphaned_suits item s header locator f =
    orphaned_cases (SuitsOutcome item) s header locator (ends_suits item (seeking true s) _ f)
    (λ of _ _. ends_suits item (with_child (block_hash of) of.prev s) [] (joins s.fetch (block_hash of) f))

taken_suits : (item : Option Item) (s : SessionState) (header : Option Header) (refused : Option Fault) (locator : List Hash256) → IsFetched s.fetch → SuitsOutcome item (taken_told s header refused locator)
unfolding taken_told
taken_suits item s header None locator f = ends_suits item s _ f
taken_suits item s header (Some faults.Known) locator f = ends_suits item s _ f
taken_suits item s header (Some faults.NoParent) locator f = orphaned_suits item s header locator f
taken_suits item s header (Some other) locator f = none_suits idle item nothing_yet

given_suits : (item : Option Item) (s : SessionState) (header : Header) (refused : Option Fault) (locator : List Hash256) → IsFetched s.fetch → SuitsOutcome item (given_told s header refused locator)
unfolding given_told
given_suits item s header refused locator f =
    by_test (SuitsOutcome item) (is_orphan refused) (orphaned s (Some header) locator) (ends s []) (λ _. orphaned_suits item s (Some header) locator f) (λ _. ends_suits item s [] f)

replied_suits : (s : SessionState) (item : Option Item) (stage : Stage) (answer : Answer) → IsFetched s.fetch → SuitsOutcome item (replied s item stage answer)
unfolding replied heads_told need_told wanted_told news_told served_told pairs_told
replied_suits s item stage answers.Kicked f = none_suits idle item nothing_yet
replied_suits s item Admit answers.Go f = processed_suits s item f
replied_suits s item (About subject) (answers.Heads heads) f = heads_for_suits item s (short_in item) heads f
replied_suits s item (About subject) (answers.Locator locator) f = ends_suits item s _ f
replied_suits s item (About subject) (answers.Need need) f = ends_suits item (seeking (list_any is_block need.entries) s) _ f
replied_suits s item (About subject) (answers.TxTaken refused) f = ends_suits item s _ f
replied_suits s item (About subject) (answers.Taken taken) f = taken_suits item s (header_in item) taken.refused taken.locator f
replied_suits s item (About subject) (answers.Served pieces) f = ends_suits item _ _ f
replied_suits s item (About subject) (answers.Following headers) f = ends_suits item s _ f
replied_suits s item (About subject) (answers.Excerpt excerpt) f = excerpt_suits item s excerpt f
replied_suits s item Match (answers.Pairs pairs) f = paired_suits item s (short_in item) pairs f
replied_suits s item (Give block) (answers.Taken taken) f = given_suits item s block.header taken.refused taken.locator f
replied_suits s item Wanted (answers.Need need) f = fresh_suits (taken_on (blocks_in need.entries)) item (takes_on s.fetch (blocks_in need.entries) f)
replied_suits s item Fresh (answers.News news) f = none_suits s.fetch item f
replied_suits s item stage other f = none_suits s.fetch item f

answered_suits : (s : SessionState) (item : Option Item) (stage : Stage) (answer : Answer) → IsFetched s.fetch → SuitsOutcome item (answered s item stage answer)
unfolding answered
answered_suits s item stage answer f =
    let suits = replied_suits s item stage answer f in
    resuming_cases (SuitsOutcome item) (replied s item stage answer) suits (λ hash _ _ _. suits)

-- ---- steps

abbrev pub pending_stage : Option Pending → Option Stage
pending_stage None = None
pending_stage (Some pending) = Some pending.stage

pub record IsApt (s : SessionState) : Type 0 where
  pub suits : Suits s.fetch (pending_item s.pending) (pending_stage s.pending)

pending_apt : (item : Option Item) (next : Option Stage) (s : SessionState) → Suits s.fetch item next → IsApt (with_pending (pending_of item next) s)
pending_apt item None s suits = record { suits = none_suits s.fetch None suits.fetched }
pending_apt item (Some stage) s suits = record { suits = suits }

arrives_apt : (pending : Option Pending) (s : SessionState) (item : Option Item) → IsApt s → IsApt (arrives pending s item).session
arrives_apt None s item apt = pending_apt item (Some Admit) s (admit_suits s.fetch item apt.suits.fetched)
arrives_apt (Some other) s item apt = apt

told_apt : (pending : Option Pending) (s : SessionState) (answer : Answer) → IsApt s → IsApt (told pending s answer).session
told_apt None s answer apt = apt
told_apt (Some pending) s answer apt =
    elim (cases_Bool (fits (question_of s pending.item pending.stage) answer)) [
      | inl fit ↦ rw fit (pending_apt pending.item (answered (freed s) pending.item pending.stage answer).next (answered (freed s) pending.item pending.stage answer).session (answered_suits (freed s) pending.item pending.stage answer apt.suits.fetched))
      | inr misfit ↦ rw misfit apt
    ]

pub over_apt : (s : SessionState) → s.fetch ≡ idle → s.pending ≡ None → IsApt s
over_apt s fetch pending = record { suits = rw (fetch, pending) (none_suits idle None nothing_yet) }

pinged_apt : (s : SessionState) → IsApt s → IsApt (pinged s).session
pinged_apt s apt = record { suits = apt.suits }

open_apt : (s : SessionState) (event : Event) → IsApt s → IsApt (open_step s event).session
unfolding open_step
open_apt s (events.Said item) apt = arrives_apt s.pending s (Some item) apt
open_apt s (events.Broken fault) apt = over_apt _ refl refl
open_apt s events.Tick apt = arrives_apt s.pending s None apt
open_apt s events.Probe apt = by_test (λ (made : Stepped). IsApt made.session) (is_ready s.state) (pinged s) (stays s) (λ _. pinged_apt s apt) (λ _. apt)
open_apt s (events.Told answer) apt = told_apt s.pending s answer apt
open_apt s events.ReaderEnd apt = over_apt _ refl refl
open_apt s events.NoMemory apt = over_apt _ refl refl
open_apt s events.HallFull apt = over_apt _ refl refl
open_apt s events.WriteFault apt = over_apt _ refl refl

step_apt : (s : SessionState) (event : Event) → IsApt s → IsApt (step_of s event).session
unfolding step_of
step_apt s event apt =
    elim (cases_Bool (is_closed s.state)) [
      | inl closed ↦ rw closed apt
      | inr going ↦ rw going (open_apt s event apt)
    ]

pub reached_apt : (s : SessionState) → IsReached s → IsApt s
reached_apt s (opens settings) = over_apt s refl refl
reached_apt s (steps old event reached) = step_apt old event (reached_apt old reached)
reached_apt s (stops old why reached) = over_apt s refl refl
