-- For what a session is ended while a compact block, or missing transactions of one, is pending.
use Rattle.cb_peer_state.proofs.Behind.{orphaned_cases}
use Rattle.std.proofs.Common.{◌≡◌, ◌∙◌, Bool, true, false, cond, List, [], ◌∷◌, Option, Some, None, Result, Ok, Err, length, refl, sym, ap}
use Rattle.std.specs.Prelude.{◌&&◌, ◌==◌, not}
use Rattle.cb_base.specs.declared.fault.Fault.{Fault}
use Rattle.cb_base.specs.declared.fault.Fault.TheVariants.{WrongCount}
use Rattle.cb_base.specs.declared.hash.Hash256.{Hash256}
use Rattle.cb_block.specs.declared.block.Block.{Block}
use Rattle.cb_block.specs.declared.header.Header.{Header}
use Rattle.cb_chain.specs.Entries.{block_hash, same}
use Rattle.cb_compact.specs.Slots.{Unfilled, missing}
use Rattle.cb_compact.specs.declared.named_tx.Pair.{Pair}
use Rattle.cb_compact.specs.declared.partial.Filled.{Filled}
use Rattle.cb_compact.specs.declared.partial.Filled.TheVariants as filling
use Rattle.cb_peer_state.specs.Fetching.{asks_now}
use Rattle.cb_hall.specs.declared.answer.Answer.{Answer}
use Rattle.cb_hall.specs.declared.answer.Answer.TheVariants as answers
use Rattle.cb_wire.specs.declared.block_transactions.BlockTransactions.{BlockTransactions}
use Rattle.cb_wire.specs.declared.compact_block.HeaderAndShortIds.{HeaderAndShortIds}
use Rattle.cb_compact.specs.Completing.{completed_of, judged_of}
use Rattle.cb_compact.specs.Places.{has_places}
use Rattle.cb_compact.specs.Rebuilding.{block_with, rebuilt_of}
use Rattle.cb_compact.specs.declared.rebuilding.Rebuilt.{Rebuilt}
use Rattle.cb_compact.specs.declared.rebuilding.Rebuilt.TheVariants as rebuilts
use Rattle.cb_state.specs.declared.accepting.Heads.{Heads}
use Rattle.cb_peer_state.specs.Inventory.{asking_block, asking_txs}
use Rattle.cb_wire.specs.declared.item.Item.{Item}
use Rattle.cb_wire.specs.declared.item.Item.TheVariants.{Good}
use Rattle.cb_wire.specs.declared.message.Message.{Message}
use Rattle.cb_wire.specs.declared.message.Message.TheVariants as messages
use Rattle.cb_peer_state.specs.Compact.{is_miscounted, is_reason, is_short}
use Rattle.cb_peer_state.specs.Laws.{IsReached}
use Rattle.cb_peer_state.specs.declared.event.Event.TheVariants as events
use Rattle.cb_peer_state.specs.declared.pending.Pending.{Pending}
use Rattle.cb_peer_state.specs.declared.session_state.SessionState.{SessionState}
use Rattle.cb_peer_state.specs.declared.stage.Stage.{Stage}
use Rattle.cb_peer_state.specs.declared.stage.Stage.TheVariants.{Admit, About, Match, Give, Wanted, Fresh}
use Rattle.cb_peer_state.specs.declared.stage.Subject.TheVariants as subjects
use Rattle.cb_peer_state.specs.declared.state.CloseReason.TheVariants as reasons
use Rattle.cb_peer_state.specs.declared.state.State.{State}
use Rattle.cb_peer_state.specs.declared.state.State.TheVariants.{Start, Greeted, Ready, Closed}
use Rattle.cb_peer_state.specs.Questions.{fits, is_nil, question_of}
use Rattle.cb_peer_state.specs.Receiving.{Outcome, asks, by_phase, completed_by, ended, ends, falls_back, filled_by, gives, heard_of, in_greeted, in_ready, in_start, processed, received, sends, short_heard, txs_heard}
use Rattle.cb_peer_state.specs.Replying.{answered, given_told, heads_told, is_workless, news_told, pairs_told, rebuilt_by, replied, resuming, short_told, wanted_told, is_orphan, orphaned, search}
use Rattle.cb_peer_state.specs.Session.{Stepped, pending_item, step_of}
use Rattle.cb_peer_state.specs.State.{freed, is_closed, landing, with_fallen, with_partial, seeking, with_child}
use Rattle.cb_peer_state.proofs.Resuming.{resuming_cases}
use Rattle.cb_peer_state.proofs.CompactSteps.{by_test, end_session, told_by}
use Rattle.cb_peer_state.proofs.CompactTable.{suits}
use Rattle.cb_peer_state.proofs.CompactLaws.{pending_suits, reached_suits}

-- the session is over after it only for this reason
abbrev OverBy : Bool → Outcome → Type 0
OverBy reason outcome = is_closed outcome.session.state ≡ true → reason ≡ true

clash : {P : Type 0} (b : Bool) → b ≡ false → b ≡ true → P
clash b e f = absurd (let same : true ≡ false = sym f ∙ e in cc)

goes_on : (reason : Bool) (outcome : Outcome) → is_closed outcome.session.state ≡ false → OverBy reason outcome
goes_on reason outcome going closed = clash (is_closed outcome.session.state) going closed

end_goes : (reason : Bool) (t : SessionState) (sent : List Message) → is_closed t.state ≡ false → OverBy reason (ends t sent)
end_goes reason t sent going = goes_on reason (ends t sent) (ap (λ (u : SessionState). is_closed u.state) (end_session t sent) ∙ going)

falls_goes : (reason : Bool) (t : SessionState) (hash before : Hash256) → is_closed t.state ≡ false → OverBy reason (falls_back t hash before)
unfolding falls_back
falls_goes reason t hash before going = end_goes reason (with_fallen hash before t) (cond (asks_now t.fetch hash) (asking_block hash ∷ []) []) going

over_again : (reason : Bool) (outcome : Outcome) → OverBy reason outcome → OverBy reason (resuming outcome)
over_again reason outcome over = resuming_cases (OverBy reason) outcome over (λ _ _ _ _. over)

-- ---- the leave to process a compact block

short_over : (t : SessionState) (short : HeaderAndShortIds) → is_closed t.state ≡ false → OverBy (not (has_places short.txs)) (short_heard t short)
unfolding short_heard
short_over t short going =
    by_test (OverBy (not (has_places short.txs))) (has_places short.txs) (asks (heard_of (block_hash short.header) t) [] (About subjects.Headers)) (ended reasons.BadMessage t)
    (λ _. goes_on (not (has_places short.txs)) (asks (heard_of (block_hash short.header) t) [] (About subjects.Headers)) going)
    (λ lacks _. ap not lacks)

short_phase : (state : State) (t : SessionState) (short : HeaderAndShortIds) → is_closed t.state ≡ false → OverBy (not (has_places short.txs)) (by_phase state t (messages.CmpctBlock short))
unfolding in_start in_greeted in_ready
short_phase Start t short going = goes_on (not (has_places short.txs)) (sends t []) going
short_phase Greeted t short going = goes_on (not (has_places short.txs)) (sends t []) going
short_phase Ready t short going = short_over t short going
short_phase (Closed why) t short going = goes_on (not (has_places short.txs)) (sends t []) going

short_let_in : (t : SessionState) (short : HeaderAndShortIds) → is_closed t.state ≡ false → OverBy (not (has_places short.txs)) (replied t (Some (Good (messages.CmpctBlock short))) Admit answers.Go)
unfolding replied processed received
short_let_in t short going = short_phase t.state t short going

-- ---- the leave to process missing transactions

completed_fault : (partial : Unfilled) (given : BlockTransactions) (fault : Fault) → completed_of partial given ≡ Err fault → not (length given.txs == length (missing 0 partial.slots)) ≡ true
unfolding completed_of
completed_fault partial given fault =
    by_test (λ (result : Result Filled Fault). result ≡ Err fault → not (length given.txs == length (missing 0 partial.slots)) ≡ true) (length given.txs == length (missing 0 partial.slots)) (Ok (judged_of (block_with partial given.txs))) (Err WrongCount)
    (λ _ e. absurd cc) (λ other _. ap not other)

filled_over : (t : SessionState) (hash before : Hash256) (reason : Bool) (result : Result Filled Fault) → is_closed t.state ≡ false → ((fault : Fault) → result ≡ Err fault → reason ≡ true) → OverBy reason (filled_by t hash before result)
filled_over t hash before reason (Ok (filling.Sound block)) going faulty = goes_on reason (gives t block) going
filled_over t hash before reason (Ok filling.Wrong) going faulty = falls_goes reason t hash before going
filled_over t hash before reason (Err fault) going faulty = λ _. faulty fault refl

both_true : (a b : Bool) → a ≡ true → b ≡ true → (a && b) ≡ true
both_true true b e f = f
both_true false b e f = absurd cc

completed_over : (t : SessionState) (given : BlockTransactions) (partial : Option Unfilled) → is_closed t.state ≡ false → OverBy (is_miscounted partial given) (completed_by t given partial)
completed_over t given None going = end_goes false t [] going
completed_over t given (Some partial) going =
    let reason = is_miscounted (Some partial) given in
    by_test (OverBy reason) (same (block_hash partial.header) given.block) (filled_by (with_partial None t) given.block partial.header.prev (completed_of partial given)) (ends t [])
    (λ is. filled_over (with_partial None t) given.block partial.header.prev reason (completed_of partial given) going
    (λ fault e. both_true (same (block_hash partial.header) given.block) (not (length given.txs == length (missing 0 partial.slots))) is (completed_fault partial given fault e)))
    (λ _. end_goes reason t [] going)

txs_over : (t : SessionState) (given : BlockTransactions) → is_closed t.state ≡ false → OverBy (is_miscounted t.compact.partial given) (txs_heard t given)
unfolding txs_heard
txs_over t given going = completed_over t given t.compact.partial going

txs_phase : (state : State) (t : SessionState) (given : BlockTransactions) → is_closed t.state ≡ false → OverBy (is_miscounted t.compact.partial given) (by_phase state t (messages.BlockTxn given))
unfolding in_start in_greeted in_ready
txs_phase Start t given going = goes_on (is_miscounted t.compact.partial given) (sends t []) going
txs_phase Greeted t given going = goes_on (is_miscounted t.compact.partial given) (sends t []) going
txs_phase Ready t given going = txs_over t given going
txs_phase (Closed why) t given going = goes_on (is_miscounted t.compact.partial given) (sends t []) going

txs_let_in : (t : SessionState) (given : BlockTransactions) → is_closed t.state ≡ false → OverBy (is_miscounted t.compact.partial given) (replied t (Some (Good (messages.BlockTxn given))) Admit answers.Go)
unfolding replied processed received
txs_let_in t given going = txs_phase t.state t given going

-- ---- the header, and the transactions of the mempool

header_over : (t : SessionState) (short : HeaderAndShortIds) (heads : Heads) → is_closed t.state ≡ false → OverBy (is_workless heads.refused) (replied t (Some (Good (messages.CmpctBlock short))) (About subjects.Headers) (answers.Heads heads))
unfolding replied heads_told short_told
header_over t short heads going =
    let reason = is_workless heads.refused in
    let found = is_orphan heads.refused in
    let before = search found t heads.locator in
    let u = seeking found t in
    let hash = block_hash short.header in
    by_test (OverBy reason) (is_workless heads.refused) (ended reasons.BadBlock t) (cond (is_nil heads.lack) (ends (landing hash u) before) (asks u before Match))
    (λ workless _. workless)
    (λ _. by_test (OverBy reason) (is_nil heads.lack) (ends (landing hash u) before) (asks u before Match)
    (λ _. end_goes reason (landing hash u) before going) (λ _. goes_on reason (asks u before Match) going))

rebuilt_goes : (t : SessionState) (header : Header) (reason : Bool) (rebuilt : Rebuilt) → is_closed t.state ≡ false → OverBy reason (rebuilt_by t header rebuilt)
rebuilt_goes t header reason (rebuilts.Sound block) going = goes_on reason (gives t block) going
rebuilt_goes t header reason (rebuilts.Lacking partial request) going = end_goes reason (with_partial (Some partial) t) (asking_txs request ∷ []) going
rebuilt_goes t header reason rebuilts.Useless going = falls_goes reason t (block_hash header) header.prev going

pairs_go : (t : SessionState) (short : HeaderAndShortIds) (pairs : List Pair) (reason : Bool) → has_places short.txs ≡ true → is_closed t.state ≡ false → OverBy reason (replied t (Some (Good (messages.CmpctBlock short))) Match (answers.Pairs pairs))
unfolding replied pairs_told
pairs_go t short pairs reason has going =
    by_test (OverBy reason) (has_places short.txs) (rebuilt_by t short.header (rebuilt_of short pairs)) (ended reasons.BadMessage t)
    (λ _. rebuilt_goes t short.header reason (rebuilt_of short pairs) going)
    (λ lacks. clash (has_places short.txs) lacks has)

-- ---- what comes after the block is given

given_goes : (t : SessionState) (item : Option Item) (block : Block) (answer : Answer) (question : SessionState) → fits (question_of question item (Give block)) answer ≡ true → is_closed t.state ≡ false → OverBy (is_reason t item answer) (replied t item (Give block) answer)
unfolding replied given_told
given_goes t item block answers.Kicked question fit going = λ _. refl
given_goes t item block (answers.Taken taken) question fit going =
    by_test (OverBy false) (is_orphan taken.refused) (orphaned t (Some block.header) taken.locator) (ends t [])
    (λ _. orphaned_cases (OverBy false) t (Some block.header) taken.locator (end_goes false (seeking true t) (search true t taken.locator) going) (λ of _ _. end_goes false (with_child (block_hash of) of.prev t) [] going))
    (λ _. end_goes false t [] going)
given_goes t item block other question fit going = absurd cc

wanted_goes : (t : SessionState) (item : Option Item) (answer : Answer) (question : SessionState) → fits (question_of question item Wanted) answer ≡ true → is_closed t.state ≡ false → OverBy (is_reason t item answer) (replied t item Wanted answer)
unfolding replied wanted_told
wanted_goes t item answers.Kicked question fit going = λ _. refl
wanted_goes t item (answers.Need need) question fit going = λ closed. clash (is_closed t.state) going closed
wanted_goes t item other question fit going = absurd cc

fresh_goes : (t : SessionState) (item : Option Item) (answer : Answer) (question : SessionState) → fits (question_of question item Fresh) answer ≡ true → is_closed t.state ≡ false → OverBy (is_reason t item answer) (replied t item Fresh answer)
unfolding replied news_told
fresh_goes t item answers.Kicked question fit going = λ _. refl
fresh_goes t item (answers.News news) question fit going = λ closed. clash (is_closed t.state) going closed
fresh_goes t item other question fit going = absurd cc

-- ---- all answers

short_admit : (t : SessionState) (short : HeaderAndShortIds) (answer : Answer) → fits (question_of t (Some (Good (messages.CmpctBlock short))) Admit) answer ≡ true → is_closed t.state ≡ false
    → OverBy (is_reason t (Some (Good (messages.CmpctBlock short))) answer) (replied t (Some (Good (messages.CmpctBlock short))) Admit answer)
short_admit t short answers.Kicked fit going = λ _. refl
short_admit t short answers.Go fit going = short_let_in t short going
short_admit t short other fit going = absurd cc

txs_admit : (t : SessionState) (given : BlockTransactions) (answer : Answer) → fits (question_of t (Some (Good (messages.BlockTxn given))) Admit) answer ≡ true → is_closed t.state ≡ false
    → OverBy (is_reason t (Some (Good (messages.BlockTxn given))) answer) (replied t (Some (Good (messages.BlockTxn given))) Admit answer)
txs_admit t given answers.Kicked fit going = λ _. refl
txs_admit t given answers.Go fit going = txs_let_in t given going
txs_admit t given other fit going = absurd cc

short_headers : (t : SessionState) (short : HeaderAndShortIds) (answer : Answer) → fits (question_of t (Some (Good (messages.CmpctBlock short))) (About subjects.Headers)) answer ≡ true → is_closed t.state ≡ false
    → OverBy (is_reason t (Some (Good (messages.CmpctBlock short))) answer) (replied t (Some (Good (messages.CmpctBlock short))) (About subjects.Headers) answer)
short_headers t short answers.Kicked fit going = λ _. refl
short_headers t short (answers.Heads heads) fit going = header_over t short heads going
short_headers t short other fit going = absurd cc

short_match : (t : SessionState) (short : HeaderAndShortIds) (answer : Answer) → has_places short.txs ≡ true → fits (question_of t (Some (Good (messages.CmpctBlock short))) Match) answer ≡ true → is_closed t.state ≡ false
    → OverBy (is_reason t (Some (Good (messages.CmpctBlock short))) answer) (replied t (Some (Good (messages.CmpctBlock short))) Match answer)
short_match t short answers.Kicked has fit going = λ _. refl
short_match t short (answers.Pairs pairs) has fit going = pairs_go t short pairs false has going
short_match t short other has fit going = absurd cc

abbrev Held : SessionState → Option Item → Stage → Answer → Type 0
Held s item stage answer = suits stage item ≡ true → fits (question_of s item stage) answer ≡ true → is_closed s.state ≡ false → OverBy (is_reason s item answer) (replied (freed s) item stage answer)

short_held : (s : SessionState) (short : HeaderAndShortIds) (stage : Stage) (answer : Answer) → Held s (Some (Good (messages.CmpctBlock short))) stage answer
short_held s short Admit answer suited fit going = short_admit (freed s) short answer fit going
short_held s short (About subjects.Headers) answer suited fit going = short_headers (freed s) short answer fit going
short_held s short (About other) answer suited fit going = absurd cc
short_held s short Match answer suited fit going = short_match (freed s) short answer suited fit going
short_held s short (Give block) answer suited fit going = given_goes (freed s) (Some (Good (messages.CmpctBlock short))) block answer s fit going
short_held s short Wanted answer suited fit going = wanted_goes (freed s) (Some (Good (messages.CmpctBlock short))) answer s fit going
short_held s short Fresh answer suited fit going = fresh_goes (freed s) (Some (Good (messages.CmpctBlock short))) answer s fit going

txs_held : (s : SessionState) (given : BlockTransactions) (stage : Stage) (answer : Answer) → Held s (Some (Good (messages.BlockTxn given))) stage answer
txs_held s given Admit answer suited fit going = txs_admit (freed s) given answer fit going
txs_held s given (About subject) answer suited fit going = absurd cc
txs_held s given Match answer suited fit going = absurd cc
txs_held s given (Give block) answer suited fit going = given_goes (freed s) (Some (Good (messages.BlockTxn given))) block answer s fit going
txs_held s given Wanted answer suited fit going = wanted_goes (freed s) (Some (Good (messages.BlockTxn given))) answer s fit going
txs_held s given Fresh answer suited fit going = fresh_goes (freed s) (Some (Good (messages.BlockTxn given))) answer s fit going

held : (s : SessionState) (item : Option Item) (stage : Stage) (answer : Answer) → is_short item ≡ true → Held s item stage answer
held s (Some (Good (messages.CmpctBlock short))) stage answer is = short_held s short stage answer
held s (Some (Good (messages.BlockTxn given))) stage answer is = txs_held s given stage answer
held s item stage answer is = absurd cc

pub held_only : (s : SessionState) (answer : Answer) → IsReached s → is_short (pending_item s.pending) ≡ true → is_closed s.state ≡ false → is_closed (step_of s (events.Told answer)).session.state ≡ true → is_reason s (pending_item s.pending) answer ≡ true
unfolding answered
held_only s answer reached short going =
    told_by (λ (step : Stepped). is_closed step.session.state ≡ true → is_reason s (pending_item s.pending) answer ≡ true) s answer (clash (is_closed s.state) going)
    (λ pending e fit _ closed.
    let suited : suits pending.stage pending.item ≡ true = sym (ap pending_suits e) ∙ reached_suits s reached in
    let is : is_short pending.item ≡ true = sym (ap (λ (waits : Option Pending). is_short (pending_item waits)) e) ∙ short in
    ap (λ (waits : Option Pending). is_reason s (pending_item waits) answer) e ∙ over_again (is_reason s pending.item answer) (replied (freed s) pending.item pending.stage answer) (held s pending.item pending.stage answer is suited fit going) closed)
