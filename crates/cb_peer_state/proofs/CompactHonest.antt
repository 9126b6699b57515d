-- A compact block from its message to its block, step by step.
use Rattle.std.proofs.Common.{◌≡◌, ℕ, true, false, List, [], ◌∷◌, Option, Some, None, Ok, Result, Contains, slice_get, map, refl, sym, ap, subst, ◌∙◌}
use Rattle.std.specs.Prelude.{◌↔◌}
use Rattle.cb_base.specs.DoubleHash.{double_hash}
use Rattle.cb_base.specs.declared.hash.Hash256.{Hash256}
use Rattle.cb_block.specs.BlockText.{header_text}
use Rattle.cb_block.specs.declared.block.Block.{Block}
use Rattle.cb_chain.specs.Entries.{block_hash, same}
use Rattle.cb_chain.proofs.BlockIndexes.{same-refl}
use Rattle.cb_compact.specs.Differences.{sums}
use Rattle.cb_compact.specs.Honest.{AreOwn}
use Rattle.cb_compact.specs.Slots.{Unfilled}
use Rattle.cb_compact.specs.declared.named_tx.Pair.{Pair}
use Rattle.cb_base.specs.declared.fault.Fault.{Fault}
use Rattle.cb_compact.specs.declared.partial.Filled.{Filled}
use Rattle.cb_compact.specs.declared.partial.Filled.TheVariants as filling
use Rattle.cb_hall.specs.declared.answer.Answer.{Answer}
use Rattle.cb_hall.specs.declared.answer.Answer.TheVariants as answers
use Rattle.cb_wire.specs.declared.block_transactions.BlockTransactions.{BlockTransactions}
use Rattle.cb_wire.specs.declared.block_transactions.BlockTransactionsRequest.{BlockTransactionsRequest}
use Rattle.cb_wire.specs.declared.compact_block.HeaderAndShortIds.{HeaderAndShortIds}
use Rattle.cb_compact.specs.Completing.{completed_of}
use Rattle.cb_compact.specs.HonestMessages.{IsHonestMessage, IsRebuiltTo}
use Rattle.cb_compact.specs.Places.{has_places}
use Rattle.cb_compact.specs.Rebuilding.{rebuilt_of}
use Rattle.cb_compact.specs.declared.rebuilding.Rebuilt.{Rebuilt}
use Rattle.cb_compact.specs.declared.rebuilding.Rebuilt.TheVariants.{Lacking, Sound, Useless}
use Rattle.cb_state.specs.declared.accepting.Heads.{Heads}
use Rattle.cb_peer_state.specs.Inventory.{asking_txs}
use Rattle.cb_wire.specs.declared.item.Item.{Item}
use Rattle.cb_wire.specs.declared.item.Item.TheVariants.{Good}
use Rattle.cb_wire.specs.declared.message.Message.TheVariants as messages
use Rattle.cb_peer_state.specs.Compact.{IsCompletedLater, LeadsTo, given_by, matched}
use Rattle.cb_peer_state.specs.Compact.LeadsTo.{gives as is_given, requests}
use Rattle.cb_peer_state.specs.declared.event.Event.TheVariants as events
use Rattle.cb_peer_state.specs.declared.session_state.SessionState.{SessionState}
use Rattle.cb_peer_state.specs.declared.stage.Stage.{Stage}
use Rattle.cb_peer_state.specs.declared.stage.Stage.TheVariants.{Admit, About, Match}
use Rattle.cb_peer_state.specs.declared.stage.Subject.TheVariants as subjects
use Rattle.cb_peer_state.specs.declared.state.State.TheVariants.{Ready}
use Rattle.cb_peer_state.specs.Questions.{fits, is_nil, question_of}
use Rattle.cb_peer_state.specs.Receiving.{asks, ends, filled_by, gives, heard_of, in_ready, processed, received, short_heard, txs_heard}
use Rattle.cb_peer_state.specs.Replying.{answered, heads_told, pairs_told, rebuilt_by, replied, resuming, short_told}
use Rattle.cb_peer_state.specs.Session.{Stepped, for_item, open_step, step_of}
use Rattle.cb_peer_state.specs.State.{freed, is_closed, is_ready, with_partial, with_pending}
use Rattle.cb_peer_state.proofs.Behind.{same_but, same_compact}
use Rattle.cb_peer_state.specs.Laws.{but_headers}
use Rattle.cb_peer_state.proofs.CompactSteps.{end_session, ready_is, ready_open, sent_at_end}

-- ---- a session that waits for an answer

abbrev pub waiting : SessionState → Option Item → Stage → SessionState
waiting s item stage = with_pending (Some (record { item = item; stage = stage })) s

pub said_waits : (s : SessionState) (item : Item) → is_closed s.state ≡ false → s.pending ≡ None → (step_of s (events.Said item)).session ≡ waiting s (Some item) Admit
unfolding step_of open_step
said_waits s item going free = rw (going, free) refl

pub told_goes : (s : SessionState) (item : Option Item) (stage : Stage) (answer : Answer) → is_closed s.state ≡ false → fits (question_of (waiting s item stage) item stage) answer ≡ true
    → step_of (waiting s item stage) (events.Told answer) ≡ for_item item (answered (freed s) item stage answer)
unfolding step_of open_step
told_goes s item stage answer going fit = rw (going, fit) refl

-- ---- what is made of the message and the answers

go_short : (s : SessionState) (message : HeaderAndShortIds) → s.state ≡ Ready → has_places message.txs ≡ true → answered s (Some (Good (messages.CmpctBlock message))) Admit answers.Go ≡ asks (heard_of (block_hash message.header) s) [] (About subjects.Headers)
unfolding answered resuming replied processed received in_ready short_heard
go_short s message ready has = rw (ready, has) refl

told_lacking : (s : SessionState) (message : HeaderAndShortIds) (heads : Heads) → heads.refused ≡ None → is_nil heads.lack ≡ false → answered s (Some (Good (messages.CmpctBlock message))) (About subjects.Headers) (answers.Heads heads) ≡ asks s [] Match
unfolding answered resuming replied heads_told short_told
told_lacking s message heads fine some = rw (fine, some) refl

pub told_pairs : (s : SessionState) (message : HeaderAndShortIds) (pairs : List Pair) → has_places message.txs ≡ true → answered s (Some (Good (messages.CmpctBlock message))) Match (answers.Pairs pairs) ≡ resuming (rebuilt_by s message.header (rebuilt_of message pairs))
unfolding answered replied pairs_told
told_pairs s message pairs has = rw has refl

pub go_txs : (s : SessionState) (given : BlockTransactions) (partial : Unfilled) → s.state ≡ Ready → s.compact.partial ≡ Some partial → same (block_hash partial.header) given.block ≡ true
    → answered s (Some (Good (messages.BlockTxn given))) Admit answers.Go ≡ resuming (filled_by (with_partial None s) given.block partial.header.prev (completed_of partial given))
unfolding answered replied processed received in_ready txs_heard
go_txs s given partial ready keeps named = rw (ready, keeps, named) refl

matched_is : (s : SessionState) (message : HeaderAndShortIds) (heads : Heads) (pairs : List Pair) → is_ready s.state ≡ true → s.pending ≡ None → has_places message.txs ≡ true → heads.refused ≡ None → is_nil heads.lack ≡ false
    → matched s message heads pairs ≡ for_item (Some (Good (messages.CmpctBlock message))) (resuming (rebuilt_by (freed (heard_of (block_hash message.header) s)) message.header (rebuilt_of message pairs)))
matched_is s message heads pairs ready free has fine some =
    let item : Option Item = Some (Good (messages.CmpctBlock message)) in
    let heard = heard_of (block_hash message.header) s in
    let going = ready_open s.state ready in
    let first : (step_of s (events.Said (Good (messages.CmpctBlock message)))).session ≡ waiting s item Admit = said_waits s (Good (messages.CmpctBlock message)) going free in
    let second : step_of (waiting s item Admit) (events.Told answers.Go) ≡ for_item item (asks (heard_of (block_hash message.header) (freed s)) [] (About subjects.Headers)) =
    told_goes s item Admit answers.Go going refl ∙ ap (for_item item) (go_short (freed s) message (ready_is s.state ready) has) in
    let third : step_of (waiting heard item (About subjects.Headers)) (events.Told (answers.Heads heads)) ≡ for_item item (asks (freed heard) [] Match) =
    told_goes heard item (About subjects.Headers) (answers.Heads heads) going refl ∙ ap (for_item item) (told_lacking (freed heard) message heads fine some) in
    let fourth : step_of (waiting heard item Match) (events.Told (answers.Pairs pairs)) ≡ for_item item (resuming (rebuilt_by (freed heard) message.header (rebuilt_of message pairs))) =
    told_goes heard item Match (answers.Pairs pairs) going refl ∙ ap (for_item item) (told_pairs (freed heard) message pairs has) in
    ap (λ (t : SessionState). step_of (step_of (step_of t (events.Told answers.Go)).session (events.Told (answers.Heads heads))).session (events.Told (answers.Pairs pairs))) first
    ∙ ap (λ (t : Stepped). step_of (step_of t.session (events.Told (answers.Heads heads))).session (events.Told (answers.Pairs pairs))) second
    ∙ ap (λ (t : Stepped). step_of t.session (events.Told (answers.Pairs pairs))) third
    ∙ fourth

-- ---- an honest sender's block

abbrev pub Rebuilds : Type 0
Rebuilds = (block : Block) (places : List ℕ) (message : HeaderAndShortIds) (pairs : List Pair) → IsHonestMessage block places message → AreOwn block message.nonce places pairs → IsRebuiltTo block message.nonce places pairs (rebuilt_of message pairs)

abbrev pub HavePlaces : Type 0
HavePlaces = (block : Block) (places : List ℕ) (message : HeaderAndShortIds) → IsHonestMessage block places message → has_places message.txs ≡ true

abbrev pub LackUnder : Type 0
LackUnder = (message : HeaderAndShortIds) (pairs : List Pair) (partial : Unfilled) (request : BlockTransactionsRequest) → rebuilt_of message pairs ≡ Lacking partial request
    → (partial.header ≡ message.header) × (request.block ≡ double_hash (header_text message.header))

abbrev pub LackExact : Type 0
LackExact = (message : HeaderAndShortIds) (pairs : List Pair) (partial : Unfilled) (request : BlockTransactionsRequest) → rebuilt_of message pairs ≡ Lacking partial request
    → (place : ℕ) → Contains (sums 0 request.differences) place ↔ (slice_get partial.slots place ≡ Some None)

gives_on : (t : SessionState) (block : Block) → resuming (gives t block) ≡ gives t block
unfolding resuming
gives_on t block = refl

-- the kept block has the hash that its transactions are sent under
completed_later : (block : Block) (partial : Unfilled) (request : BlockTransactionsRequest) → request.block ≡ block_hash partial.header
    → ((given : BlockTransactions) → map (slice_get block.txs) (sums 0 request.differences) ≡ map Some given.txs → completed_of partial given ≡ Ok (filling.Sound block)) → IsCompletedLater block request partial
completed_later block partial request under completes s given ready free keeps named sent =
    let item : Option Item = Some (Good (messages.BlockTxn given)) in
    let going = ready_open s.state ready in
    let hash : block_hash partial.header ≡ given.block = sym under ∙ sym named in
    let is : same (block_hash partial.header) given.block ≡ true = subst (λ (h : Hash256). same (block_hash partial.header) h ≡ true) hash (same-refl (block_hash partial.header)) in
    let first : (step_of s (events.Said (Good (messages.BlockTxn given)))).session ≡ waiting s item Admit = said_waits s (Good (messages.BlockTxn given)) going free in
    let second : step_of (waiting s item Admit) (events.Told answers.Go) ≡ for_item item (gives (with_partial None (freed s)) block) =
    told_goes s item Admit answers.Go going refl ∙ ap (for_item item) (go_txs (freed s) given partial (ready_is s.state ready) keeps is ∙ ap (λ (filled : Result Filled Fault). resuming (filled_by (with_partial None (freed s)) given.block partial.header.prev filled)) (completes given sent) ∙ gives_on (with_partial None (freed s)) block) in
    ap (λ (t : SessionState). given_by (step_of t (events.Told answers.Go)).question) first ∙ ap (λ (t : Stepped). given_by t.question) second

leads_by : (t : SessionState) (block : Block) (places : List ℕ) (message : HeaderAndShortIds) (pairs : List Pair) (rebuilt : Rebuilt) → LackUnder → rebuilt_of message pairs ≡ rebuilt → message.header ≡ block.header → IsRebuiltTo block message.nonce places pairs rebuilt
    → LeadsTo block message.nonce places pairs (for_item (Some (Good (messages.CmpctBlock message))) (resuming (rebuilt_by t message.header rebuilt)))
unfolding resuming
leads_by t block places message pairs (Sound it) under e header (served, is) = is_given served refl (ap (λ (b : Block). Some b) is)
leads_by t block places message pairs (Lacking partial request) under e header (unserved, named, completes) =
    let both = under message pairs partial request e in
    let hash : request.block ≡ block_hash partial.header = both.1 ∙ ap block_hash (sym both.0) in
    let outcome = ends (with_partial (Some partial) t) (asking_txs request ∷ []) in
    requests partial request unserved named (same_but outcome ∙ ap but_headers (sent_at_end (with_partial (Some partial) t) (asking_txs request ∷ [])))
    (ap (λ it. it.partial) (same_compact outcome) ∙ ap (λ (after : SessionState). after.compact.partial) (end_session (with_partial (Some partial) t) (asking_txs request ∷ [])))
    (completed_later block partial request hash completes)
leads_by t block places message pairs Useless under e header none = absurd none

pub honest_leads : Rebuilds → HavePlaces → LackUnder → (s : SessionState) (block : Block) (places : List ℕ) (message : HeaderAndShortIds) (heads : Heads) (pairs : List Pair) → is_ready s.state ≡ true → s.pending ≡ None
    → IsHonestMessage block places message → heads.refused ≡ None → is_nil heads.lack ≡ false → AreOwn block message.nonce places pairs → LeadsTo block message.nonce places pairs (matched s message heads pairs)
honest_leads rebuilds have under s block places message heads pairs ready free honest fine some own =
    subst (LeadsTo block message.nonce places pairs) (sym (matched_is s message heads pairs ready free (have block places message honest) fine some))
    (leads_by (freed (heard_of (block_hash message.header) s)) block places message pairs (rebuilt_of message pairs) under refl honest.header (rebuilds block places message pairs honest own))
