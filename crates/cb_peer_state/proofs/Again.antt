-- What is sent at an answer that shows that a block can't be rebuilt: no request for it but one for the block alone, whole.
use Rattle.std.proofs.Common.{◌≡◌, Bool, true, false, List, [], ◌∷◌, Option, Some, None, cond, refl, sym, subst, ◌∙◌}
use Rattle.std.specs.Prelude.{◌&&◌, Result, Ok, Err}
use Rattle.std.specs.List.{list_any}
use Rattle.cb_base.specs.declared.fault.Fault.{Fault}
use Rattle.cb_base.specs.declared.hash.Hash256.{Hash256}
use Rattle.cb_block.specs.declared.header.Header.{Header}
use Rattle.cb_chain.specs.Entries.{block_hash, same}
use Rattle.cb_chain.proofs.BlockIndexes.{same-true}
use Rattle.cb_compact.specs.Slots.{Unfilled}
use Rattle.cb_compact.specs.declared.named_tx.Pair.{Pair}
use Rattle.cb_compact.specs.declared.partial.Filled.{Filled}
use Rattle.cb_compact.specs.declared.partial.Filled.TheVariants.{Sound, Wrong}
use Rattle.cb_peer_state.specs.Fetching.{asks_now}
use Rattle.cb_hall.specs.declared.answer.Answer.{Answer}
use Rattle.cb_hall.specs.declared.answer.Answer.TheVariants as answers
use Rattle.cb_wire.specs.declared.block_transactions.BlockTransactions.{BlockTransactions}
use Rattle.cb_wire.specs.declared.compact_block.HeaderAndShortIds.{HeaderAndShortIds}
use Rattle.cb_compact.specs.Completing.{completed_of}
use Rattle.cb_compact.specs.Places.{has_places}
use Rattle.cb_compact.specs.Rebuilding.{rebuilt_of}
use Rattle.cb_compact.specs.declared.rebuilding.Rebuilt.{Rebuilt}
use Rattle.cb_compact.specs.declared.rebuilding.Rebuilt.TheVariants as rebuilts
use Rattle.cb_peer_state.specs.Inventory.{asking_block, asking_txs}
use Rattle.cb_wire.specs.declared.item.Item.{Item}
use Rattle.cb_wire.specs.declared.item.Item.TheVariants.{Good}
use Rattle.cb_wire.specs.declared.message.Message.{Message}
use Rattle.cb_wire.specs.declared.message.Message.TheVariants as messages
use Rattle.cb_peer_state.specs.declared.stage.Stage.{Stage}
use Rattle.cb_peer_state.specs.declared.stage.Stage.TheVariants.{Admit, Match}
use Rattle.cb_peer_state.specs.declared.event.Event.{Event}
use Rattle.cb_peer_state.specs.declared.event.Event.TheVariants as events
use Rattle.cb_peer_state.specs.declared.pending.Pending.{Pending}
use Rattle.cb_peer_state.specs.declared.state.CloseReason.TheVariants as reasons
use Rattle.cb_peer_state.specs.declared.state.State.{State}
use Rattle.cb_peer_state.specs.declared.state.State.TheVariants.{Start, Greeted, Ready, Closed}
use Rattle.cb_peer_state.specs.declared.session_state.SessionState.{SessionState}
use Rattle.cb_peer_state.specs.Questions.{fits, question_of, short_in}
use Rattle.cb_peer_state.specs.Receiving.{Outcome, by_phase, completed_by, ended, ends, falls_back, filled_by, in_greeted, in_ready, in_start, processed, received, txs_heard}
use Rattle.cb_peer_state.specs.Replying.{answered, paired, pairs_told, rebuilt_by, replied}
use Rattle.cb_peer_state.specs.Session.{Stepped, for_item, open_step, stays, step_of, told}
use Rattle.cb_peer_state.specs.State.{freed, is_closed, with_fallen, with_partial}
use Rattle.cb_peer_state.proofs.Cases.{by_test, sent_at_end}
use Rattle.cb_peer_state.proofs.Resuming.{resuming_cases}
use Rattle.cb_peer_state.proofs.Behind.{any_more, but_more}
use Rattle.cb_peer_state.specs.Laws.{asks_for_block, but_headers, completes, is_short_of, rebuilds, rebuilds_at, rebuilds_by}

-- if the block is asked for, that is all that is sent but a `getheaders`, and it is asked for whole
abbrev Only : Hash256 → List Message → Type 0
Only hash sent = list_any (asks_for_block hash) sent ≡ true → but_headers sent ≡ asking_block hash ∷ []

abbrev OnlyOf : Hash256 → Outcome → Type 0
OnlyOf hash outcome = Only hash outcome.messages

nothing_only : (hash : Hash256) → Only hash []
nothing_only hash e = absurd cc

first_of_both : (a b : Bool) → (a && b) ≡ true → a ≡ true
first_of_both true b e = refl
first_of_both false b e = absurd cc

falls_itself : (s : SessionState) (hash before : Hash256) → OnlyOf hash (falls_back s hash before)
unfolding falls_back
falls_itself s hash before =
    subst (Only hash) (sym (sent_at_end (with_fallen hash before s) (cond (asks_now s.fetch hash) (asking_block hash ∷ []) [])))
    (by_test (Only hash) (asks_now s.fetch hash) (asking_block hash ∷ []) [] (λ _ _. refl) (λ _. nothing_only hash))

falls_only : (s : SessionState) (hash other before : Hash256) → same hash other ≡ true → OnlyOf hash (falls_back s other before)
falls_only s hash other before e = subst (λ (h : Hash256). OnlyOf hash (falls_back s h before)) (same-true hash other e) (falls_itself s hash before)

rebuilt_only : (s : SessionState) (hash : Hash256) (header : Header) (rebuilt : Rebuilt) → same hash (block_hash header) ≡ true → OnlyOf hash (rebuilt_by s header rebuilt)
rebuilt_only s hash header (rebuilts.Sound block) e = nothing_only hash
rebuilt_only s hash header (rebuilts.Lacking partial request) e = subst (Only hash) (sym (sent_at_end (with_partial (Some partial) s) (asking_txs request ∷ []))) (λ asked. absurd cc)
rebuilt_only s hash header rebuilts.Useless e = falls_only s hash (block_hash header) header.prev e

paired_only : (s : SessionState) (hash : Hash256) (short : Option HeaderAndShortIds) (pairs : List Pair) → is_short_of hash short ≡ true → OnlyOf hash (paired s short pairs)
paired_only s hash None pairs e = absurd cc
paired_only s hash (Some short) pairs e =
    by_test (OnlyOf hash) (has_places short.txs) (rebuilt_by s short.header (rebuilt_of short pairs)) (ended reasons.BadMessage s)
    (λ _. rebuilt_only s hash short.header (rebuilt_of short pairs) e) (λ _. nothing_only hash)

filled_only : (s : SessionState) (hash other before : Hash256) (filled : Result Filled Fault) → same hash other ≡ true → OnlyOf hash (filled_by s other before filled)
filled_only s hash other before (Ok (Sound block)) e = nothing_only hash
filled_only s hash other before (Ok Wrong) e = falls_only s hash other before e
filled_only s hash other before (Err fault) e = nothing_only hash

none_only : (s : SessionState) (hash : Hash256) → OnlyOf hash (ends s [])
none_only s hash = subst (Only hash) (sym (sent_at_end s [])) (nothing_only hash)

completed_only : (s : SessionState) (hash : Hash256) (given : BlockTransactions) (partial : Option Unfilled) → same hash given.block ≡ true → OnlyOf hash (completed_by s given partial)
completed_only s hash given None e = none_only s hash
completed_only s hash given (Some partial) e =
    by_test (OnlyOf hash) (same (block_hash partial.header) given.block) (filled_by (with_partial None s) given.block partial.header.prev (completed_of partial given)) (ends s [])
    (λ _. filled_only (with_partial None s) hash given.block partial.header.prev (completed_of partial given) e) (λ _. none_only s hash)

phase_only : (state : State) (s : SessionState) (hash : Hash256) (given : BlockTransactions) → same hash given.block ≡ true → OnlyOf hash (by_phase state s (messages.BlockTxn given))
unfolding in_start in_greeted in_ready txs_heard
phase_only Start s hash given e = nothing_only hash
phase_only Greeted s hash given e = nothing_only hash
phase_only Ready s hash given e = completed_only s hash given s.compact.partial e
phase_only (Closed why) s hash given e = nothing_only hash

processed_only : (s : SessionState) (hash : Hash256) (item : Option Item) → completes hash s.compact.partial item ≡ true → OnlyOf hash (processed s item)
unfolding processed received
processed_only s hash (Some (Good (messages.BlockTxn given))) e = phase_only s.state s hash given (first_of_both (same hash given.block) _ e)
processed_only s hash item e = absurd cc

replied_only : (s : SessionState) (hash : Hash256) (item : Option Item) (stage : Stage) (answer : Answer) → rebuilds_by hash s.compact.partial item stage answer ≡ true → OnlyOf hash (replied s item stage answer)
unfolding replied pairs_told
replied_only s hash item Match (answers.Pairs pairs) e = paired_only s hash (short_in item) pairs e
replied_only s hash item Admit answers.Go e = processed_only s hash item e
replied_only s hash item stage answer e = absurd cc

answered_only : (s : SessionState) (hash : Hash256) (item : Option Item) (stage : Stage) (answer : Answer) → rebuilds_by hash s.compact.partial item stage answer ≡ true → OnlyOf hash (answered s item stage answer)
unfolding answered
answered_only s hash item stage answer e =
    let outcome = replied s item stage answer in
    let only = replied_only s hash item stage answer e in
    resuming_cases (OnlyOf hash) outcome only (λ last _ _ _ asked. but_more outcome.messages (last ∷ []) ∙ only (sym (any_more (asks_for_block hash) outcome.messages (last ∷ []) refl) ∙ asked))

told_only : (s : SessionState) (hash : Hash256) (answer : Answer) (pending : Option Pending) → rebuilds_at hash s answer pending ≡ true → Only hash (told pending s answer).messages
told_only s hash answer None e = absurd cc
told_only s hash answer (Some pending) e =
    by_test (λ (made : Stepped). Only hash made.messages) (fits (question_of s pending.item pending.stage) answer) (for_item pending.item (answered (freed s) pending.item pending.stage answer)) (stays s)
    (λ _. answered_only (freed s) hash pending.item pending.stage answer e) (λ _. nothing_only hash)

open_only : (s : SessionState) (event : Event) (hash : Hash256) → rebuilds hash s event ≡ true → Only hash (open_step s event).messages
unfolding open_step
open_only s (events.Told answer) hash e = told_only s hash answer s.pending e
open_only s other hash e = absurd cc

pub asked_again : (s : SessionState) (event : Event) (hash : Hash256) → rebuilds hash s event ≡ true → list_any (asks_for_block hash) (step_of s event).messages ≡ true → but_headers (step_of s event).messages ≡ asking_block hash ∷ []
unfolding step_of
asked_again s event hash e =
    by_test (λ (made : Stepped). Only hash made.messages) (is_closed s.state) (stays s) (open_step s event) (λ _. nothing_only hash) (λ _. open_only s event hash e)
