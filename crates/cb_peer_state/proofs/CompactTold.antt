-- Blocks that are requested whole, and how tips are announced.
use Rattle.std.proofs.Common.{◌≡◌, ◌∙◌, ◌≤◌, Bool, true, false, cond, List, [], ◌∷◌, ◌++◌, Option, Some, None, Ok, Result, length, refl, sym, ap, subst, arith, length-append}
use Rattle.std.specs.Prelude.{◌&&◌, ◌||◌, map, nat_lt, not}
use Rattle.std.specs.List.{list_any}
use Rattle.std.proofs.lemmas.Bool.{ltb-true}
use Rattle.std.proofs.lemmas.List.Folds.{list_any-append}
use Rattle.cb_base.specs.declared.hash.Hash256.{Hash256}
use Rattle.cb_block.specs.declared.header.Header.{Header}
use Rattle.cb_block.specs.declared.block.Block.{Block}
use Rattle.cb_chain.specs.Entries.{block_hash, same}
use Rattle.cb_chain.proofs.BlockIndexes.{same-refl}
use Rattle.cb_compact.specs.Slots.{Unfilled}
use Rattle.cb_compact.specs.declared.named_tx.Pair.{Pair}
use Rattle.cb_base.specs.declared.fault.Fault.{Fault}
use Rattle.cb_compact.specs.declared.partial.Filled.{Filled}
use Rattle.cb_compact.specs.declared.partial.Filled.TheVariants as filling
use Rattle.cb_peer_state.specs.Fetching.{FetchState, asks_now, fallen_back, has, with_flight, with_wanted}
use Rattle.cb_peer_state.proofs.Falling.{asked}
use Rattle.cb_hall.specs.declared.answer.Answer.TheVariants as answers
use Rattle.cb_hall.specs.declared.question.Question.TheVariants as questions
use Rattle.cb_hall.specs.declared.question.ToldBefore.{ToldBefore}
use Rattle.cb_wire.specs.declared.block_transactions.BlockTransactions.{BlockTransactions}
use Rattle.cb_wire.specs.declared.compact_block.HeaderAndShortIds.{HeaderAndShortIds}
use Rattle.cb_compact.specs.Completing.{completed_of}
use Rattle.cb_compact.specs.Places.{has_places}
use Rattle.cb_compact.specs.Rebuilding.{rebuilt_of}
use Rattle.cb_compact.specs.declared.rebuilding.Rebuilt.{Rebuilt}
use Rattle.cb_compact.specs.declared.rebuilding.Rebuilt.TheVariants.{Useless}
use Rattle.cb_state.specs.declared.news.News.{News}
use Rattle.cb_peer_state.specs.Announcing.{announcing, telling, tx_entry}
use Rattle.cb_peer_state.specs.Greeting.{wish}
use Rattle.cb_peer_state.specs.Inventory.{asking_block}
use Rattle.cb_wire.specs.declared.item.Item.{Item}
use Rattle.cb_wire.specs.declared.item.Item.TheVariants.{Good}
use Rattle.cb_wire.specs.declared.message.Message.{Message}
use Rattle.cb_wire.specs.declared.message.Message.TheVariants as messages
use Rattle.cb_peer_state.specs.Compact.{IsAskedWhole, announces_block, is_compact, txs_come, whole_if}
use Rattle.cb_peer_state.specs.declared.event.Event.TheVariants as events
use Rattle.cb_peer_state.specs.declared.pending.Pending.{Pending}
use Rattle.cb_peer_state.specs.declared.session_state.SessionState.{SessionState}
use Rattle.cb_peer_state.specs.declared.stage.Stage.{Stage}
use Rattle.cb_peer_state.specs.declared.stage.Stage.TheVariants.{Admit, About, Match, Give, Wanted, Fresh}
use Rattle.cb_peer_state.specs.declared.stage.Subject.TheVariants as subjects
use Rattle.cb_peer_state.specs.Questions.{is_nil, pending_question, question_at, question_of}
use Rattle.cb_peer_state.specs.Receiving.{ends, falls_back, filled_by}
use Rattle.cb_peer_state.specs.Replying.{answered, differ, is_block, is_heard, is_untold, news_told, rebuilt_by, replied, resuming, tip_by, tip_told, wish_told, without_brought, txs_told}
use Rattle.cb_peer_state.specs.Session.{Stepped, for_item, step_of}
use Rattle.cb_peer_state.specs.State.{freed, is_closed, is_ready, with_fallen, with_partial, with_pending}
use Rattle.cb_peer_state.specs.Laws.{but_headers}
use Rattle.cb_peer_state.proofs.Behind.{same_but, same_fetch}
use Rattle.cb_peer_state.proofs.CompactSteps.{by_test, end_session, ready_is, ready_open, sent_at_end, told_by}
use Rattle.cb_peer_state.proofs.CompactHonest.{go_txs, said_waits, told_goes, told_pairs, waiting}

-- ---- a block that is requested whole

few_flying : (fetch : FetchState) (hash : Hash256) → length fetch.flight ≤ 16 → length (fallen_back hash fetch).flight ≤ 16
few_flying fetch hash few =
    let room = nat_lt (length fetch.flight) 16 in
    let late : FetchState = cond (has fetch.wanted hash) fetch (with_wanted fetch hash) in
    by_test (λ (after : FetchState). length after.flight ≤ 16) (has fetch.flight hash) fetch (cond room (with_flight fetch hash) late) (λ _. few)
    (λ _. by_test (λ (after : FetchState). length after.flight ≤ 16) room (with_flight fetch hash) late
    (λ is. omega (arith, ltb-true (length fetch.flight) 16 is, length-append fetch.flight (hash ∷ [])))
    (λ _. by_test (λ (after : FetchState). length after.flight ≤ 16) (has fetch.wanted hash) fetch (with_wanted fetch hash) (λ _. few)
    (λ _. by_test (λ (after : FetchState). length after.flight ≤ 16) (nat_lt (length fetch.wanted) 2000) (record { flight = fetch.flight; wanted = fetch.wanted ++ hash ∷ [] }) fetch (λ _. few) (λ _. few))))

as_whole : (hash : Hash256) (now : Bool) → cond now (asking_block hash ∷ []) [] ≡ whole_if now hash
as_whole hash true = refl
as_whole hash false = refl

-- a `getdata` isn't dropped with a `getheaders`
whole_stays : (hash : Hash256) (now : Bool) → but_headers (whole_if now hash) ≡ whole_if now hash
whole_stays hash true = refl
whole_stays hash false = refl

falls_whole : (t : SessionState) (item : Option Item) (hash before : Hash256) → length t.fetch.flight ≤ 16 → IsAskedWhole hash (for_item item (resuming (falls_back t hash before)))
unfolding falls_back
falls_whole t item hash before few =
    let u = with_fallen hash before t in
    let sent : List Message = cond (asks_now t.fetch hash) (asking_block hash ∷ []) [] in
    let outcome = ends u sent in
    let flying : (resuming outcome).session.fetch.flight ≡ (fallen_back hash t.fetch).flight = ap (λ (f : FetchState). f.flight) (same_fetch outcome) ∙ ap (λ (v : SessionState). v.fetch.flight) (end_session u sent) in
    record {
      messages =
          same_but outcome ∙ ap but_headers (sent_at_end u sent ∙ as_whole hash (asks_now t.fetch hash)) ∙ whole_stays hash (asks_now t.fetch hash)
          ∙ ap (λ (now : Bool). whole_if now hash) (asked t.fetch hash ∙ ap (λ (flight : List Hash256). has flight hash) (sym flying));
      few = subst (λ (flight : List Hash256). length flight ≤ 16) (sym flying) (few_flying t.fetch hash few);
    }

pub useless_whole : (s : SessionState) (short : HeaderAndShortIds) (pairs : List Pair) → is_closed s.state ≡ false → length s.fetch.flight ≤ 16 → s.pending ≡ Some (record { item = Some (Good (messages.CmpctBlock short)); stage = Match }) → has_places short.txs ≡ true
    → rebuilt_of short pairs ≡ Useless → IsAskedWhole (block_hash short.header) (step_of s (events.Told (answers.Pairs pairs)))
useless_whole s short pairs going few at has useless =
    let item : Option Item = Some (Good (messages.CmpctBlock short)) in
    let hash = block_hash short.header in
    let is : s ≡ waiting s item Match = ap (λ (pending : Option Pending). with_pending pending s) at in
    let goes : step_of (waiting s item Match) (events.Told (answers.Pairs pairs)) ≡ for_item item (resuming (falls_back (freed s) hash short.header.prev)) =
    told_goes s item Match (answers.Pairs pairs) going refl ∙ ap (for_item item) (told_pairs (freed s) short pairs has ∙ ap (λ (rebuilt : Rebuilt). resuming (rebuilt_by (freed s) short.header rebuilt)) useless) in
    subst (IsAskedWhole hash) (sym (ap (λ (t : SessionState). step_of t (events.Told (answers.Pairs pairs))) is ∙ goes)) (falls_whole (freed s) item hash short.header.prev few)

pub wrong_whole : (s : SessionState) (given : BlockTransactions) (partial : Unfilled) → is_ready s.state ≡ true → s.pending ≡ None → length s.fetch.flight ≤ 16 → s.compact.partial ≡ Some partial → same (block_hash partial.header) given.block ≡ true
    → completed_of partial given ≡ Ok filling.Wrong → IsAskedWhole given.block (txs_come s given)
wrong_whole s given partial ready free few keeps named wrong =
    let item : Option Item = Some (Good (messages.BlockTxn given)) in
    let t = with_partial None (freed s) in
    let going = ready_open s.state ready in
    let first : (step_of s (events.Said (Good (messages.BlockTxn given)))).session ≡ waiting s item Admit = said_waits s (Good (messages.BlockTxn given)) going free in
    let second : step_of (waiting s item Admit) (events.Told answers.Go) ≡ for_item item (resuming (falls_back t given.block partial.header.prev)) =
    told_goes s item Admit answers.Go going refl ∙ ap (for_item item) (go_txs (freed s) given partial (ready_is s.state ready) keeps named ∙ ap (λ (filled : Result Filled Fault). resuming (filled_by t given.block partial.header.prev filled)) wrong) in
    subst (IsAskedWhole given.block) (sym (ap (λ (u : SessionState). step_of u (events.Told answers.Go)) first ∙ second)) (falls_whole t item given.block partial.header.prev few)

-- ---- announcements

three_none : (test : Message → Bool) (xs ys zs : List Message) → list_any test xs ≡ false → list_any test ys ≡ false → list_any test zs ≡ false → list_any test ((xs ++ ys) ++ zs) ≡ false
three_none test xs ys zs x y z = rw (list_any-append test (xs ++ ys) zs, list_any-append test xs ys, x, y, z) refl

-- what is sent at news, by a test that only the tip's announcement may meet
news_none : (test : Message → Bool) (s : SessionState) (item : Option Item) (news : News) → list_any test (tip_told s news) ≡ false → ((txids : List Hash256) → list_any test (telling txids) ≡ false) → ((high : Bool) → test (wish high) ≡ false) → list_any test (news_told s item news).messages ≡ false
unfolding news_told
news_none test s item news tip txs wished =
    three_none test (tip_told s news) (txs_told s item news.txids) (wish_told s news.high) tip
    (by_test (λ (list : List Message). list_any test list ≡ false) s.peer.relays (telling (without_brought item news.txids)) [] (λ _. txs (without_brought item news.txids)) (λ _. refl))
    (by_test (λ (list : List Message). list_any test list ≡ false) (s.peer.capable && differ news.high s.compact.asked_high) (wish news.high ∷ []) [] (λ _. rw (wished news.high) refl) (λ _. refl))

answered_none : (test : Message → Bool) (s : SessionState) (item : Option Item) (stage : Stage) (news : News) → list_any test (news_told s item news).messages ≡ false → list_any test (answered s item stage (answers.News news)).messages ≡ false
unfolding answered resuming replied news_told
answered_none test s item Fresh news none = none
answered_none test s item other news none = refl

step_none : (test : Message → Bool) (s : SessionState) (news : News) → ((item : Option Item) → list_any test (news_told (freed s) item news).messages ≡ false) → list_any test (step_of s (events.Told (answers.News news))).messages ≡ false
step_none test s news none =
    told_by (λ (step : Stepped). list_any test step.messages ≡ false) s (answers.News news) refl (λ pending _ _ _. answered_none test (freed s) pending.item pending.stage news (none pending.item))

no_compact_announced : (headers : Bool) (tip : Hash256) (path : List Header) → list_any is_compact (announcing headers tip path) ≡ false
no_compact_announced headers tip [] = refl
no_compact_announced true tip (first ∷ others) = refl
no_compact_announced false tip (first ∷ others) = refl

no_compact_told : (txids : List Hash256) → list_any is_compact (telling txids) ≡ false
no_compact_told [] = refl
no_compact_told (first ∷ others) = refl

plain_tip : (s : SessionState) (news : News) → news.block ≡ None → list_any is_compact (tip_told s news) ≡ false
plain_tip s news none =
    by_test (λ (list : List Message). list_any is_compact list ≡ false) (is_untold s news) [] (tip_by s news news.block) (λ _. refl)
    (λ _. subst (λ (block : Option Block). list_any is_compact (tip_by s news block) ≡ false) (sym none) (no_compact_announced (s.peer.by_headers && not news.long) news.tip news.path))

pub none_without_block : (s : SessionState) (news : News) → news.block ≡ None → list_any is_compact (step_of s (events.Told (answers.News news))).messages ≡ false
none_without_block s news none = step_none is_compact s news (λ item. news_none is_compact (freed s) item news (plain_tip (freed s) news none) no_compact_told (λ high. refl))

or_true : (a b : Bool) → b ≡ true → (a || b) ≡ true
or_true true b e = refl
or_true false b e = e

heard_untold : (s : SessionState) (news : News) → s.marks.heard ≡ Some news.tip → tip_told s news ≡ []
heard_untold s news heard =
    let is : is_heard s.marks.heard news.tip ≡ true = ap (λ (h : Option Hash256). is_heard h news.tip) heard ∙ same-refl news.tip in
    ap (λ (untold : Bool). cond untold [] (tip_by s news news.block)) (or_true (is_nil news.path) (is_heard s.marks.heard news.tip) is)

no_block_named : (txids : List Hash256) → list_any is_block (map tx_entry txids) ≡ false
no_block_named [] = refl
no_block_named (first ∷ others) = no_block_named others

no_block_told : (txids : List Hash256) → list_any announces_block (telling txids) ≡ false
no_block_told [] = refl
no_block_told (first ∷ others) = rw (no_block_named others) refl

pub source_in_no_form : (s : SessionState) (news : News) → s.marks.heard ≡ Some news.tip → list_any announces_block (step_of s (events.Told (answers.News news))).messages ≡ false
source_in_no_form s news heard =
    step_none announces_block s news
    (λ item. news_none announces_block (freed s) item news (ap (λ (list : List Message). list_any announces_block list) (heard_untold (freed s) news heard)) no_block_told (λ high. refl))

whole_at : (s : SessionState) (item : Option Item) (stage : Stage) (told : ToldBefore) → question_of s item stage ≡ questions.News told → told.whole ≡ s.peer.wants_high
whole_at s item Admit told e = absurd cc
whole_at s item (About subjects.Headers) told e = absurd cc
whole_at s item (About subjects.Locator) told e = absurd cc
whole_at s item (About subjects.Inventory) told e = absurd cc
whole_at s item (About subjects.Tx) told e = absurd cc
whole_at s item (About subjects.Block) told e = absurd cc
whole_at s item (About subjects.Items) told e = absurd cc
whole_at s item (About subjects.After) told e = absurd cc
whole_at s item (About subjects.Places) told e = absurd cc
whole_at s item Match told e = absurd cc
whole_at s item (Give block) told e = absurd cc
whole_at s item Wanted told e = absurd cc
whole_at s item Fresh told e =
    let is : record { tip = s.marks.tip; from = s.marks.next; whole = s.peer.wants_high } ≡ told = cc in
    ap (λ (it : ToldBefore). it.whole) (sym is)

whole_of_pending : (s : SessionState) (pending : Option Pending) (told : ToldBefore) → question_at s pending ≡ Some (questions.News told) → told.whole ≡ s.peer.wants_high
whole_of_pending s None told e = absurd cc
whole_of_pending s (Some pending) told e =
    let is : question_of s pending.item pending.stage ≡ questions.News told = cc in
    whole_at s pending.item pending.stage told is

pub whole_if_wanted : (s : SessionState) (told : ToldBefore) → pending_question s ≡ Some (questions.News told) → told.whole ≡ s.peer.wants_high
whole_if_wanted s told e = whole_of_pending s s.pending told e
