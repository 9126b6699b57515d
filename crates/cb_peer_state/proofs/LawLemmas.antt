-- The laws of sessions.
use Rattle.std.proofs.Common.{◌≡◌, ℕ, ◌<◌, Bool, true, false, List, [], ◌∷◌, ◌++◌, Option, Some, None, length, refl, sym, ap, subst, ◌∙◌, inl, inr, arith}
use Rattle.std.specs.Prelude.{◌==◌, ◌&&◌, ◌||◌, filter_map, nat_lt}
use Rattle.std.specs.List.{list_any}
use Rattle.std.proofs.lemmas.Bool.{cases_Bool, eqb-true}
use Rattle.cb_base.specs.declared.hash.Hash256.{Hash256}
use Rattle.cb_block.specs.Blocks.{IsSoundBlock}
use Rattle.cb_block.specs.declared.block.Block.{Block}
use Rattle.cb_block.specs.declared.header.Header.{Header}
use Rattle.cb_chain.specs.Entries.{same}
use Rattle.cb_chain.proofs.BlockIndexes.{same-refl, same-true}
use Rattle.cb_peer_state.specs.Fetching.{IsFetch, blocks_in, has, is_due, requests_of, taken_on}
use Rattle.cb_peer_state.proofs.Limits.{within}
use Rattle.cb_hall.specs.declared.answer.Answer.{Answer}
use Rattle.cb_hall.specs.declared.answer.Answer.TheVariants as answers
use Rattle.cb_hall.specs.declared.question.GivenBlock.{GivenBlock}
use Rattle.cb_hall.specs.declared.question.Question.{Question}
use Rattle.cb_hall.specs.declared.question.Question.TheVariants as questions
use Rattle.cb_wire.specs.declared.inventory.Inventory.{Inventory}
use Rattle.cb_wire.specs.declared.requests.CompactRelay.{CompactRelay}
use Rattle.cb_wire.specs.declared.inventory.Inventory.TheVariants as entry
use Rattle.cb_state.specs.declared.news.News.{News}
use Rattle.cb_state.specs.declared.serving.Piece.{Piece}
use Rattle.cb_state.specs.declared.serving.Piece.TheVariants as piece
use Rattle.cb_peer_state.specs.Announcing.{announcing}
use Rattle.cb_peer_state.specs.Inventory.{asking_block, asking_for}
use Rattle.cb_peer_state.specs.Serving.{lacking_in, nonce_behind, not_found, sent, served, shorts}
use Rattle.cb_wire.specs.declared.item.Item.{Item}
use Rattle.cb_wire.specs.declared.message.Message.{Message}
use Rattle.cb_wire.specs.declared.message.Message.TheVariants as messages
use Rattle.cb_peer_state.specs.declared.stage.Stage.{Stage}
use Rattle.cb_peer_state.specs.declared.stage.Stage.TheVariants.{Admit, About, Match, Give, Wanted, Fresh}
use Rattle.cb_peer_state.specs.declared.stage.Subject.{Subject}
use Rattle.cb_peer_state.specs.declared.stage.Subject.TheVariants as subjects
use Rattle.cb_peer_state.specs.declared.event.Event.{Event}
use Rattle.cb_peer_state.specs.declared.event.Event.TheVariants as events
use Rattle.cb_peer_state.specs.declared.pending.Pending.{Pending}
use Rattle.cb_peer_state.specs.declared.state.State.{State}
use Rattle.cb_peer_state.specs.declared.state.State.TheVariants.{Start, Greeted, Ready, Closed}
use Rattle.cb_peer_state.specs.Questions.{fits, is_nil, item_block, question_at, question_of, questions_left, pending_question}
use Rattle.cb_peer_state.specs.Laws.{IsReached, asks_for_block, asks_for_headers, but_headers, greets, is_following, is_headers, names_block, rebuilds, rebuilds_at, rebuilds_by, wishes_for}
use Rattle.cb_peer_state.specs.Receiving.{Outcome, by_compact, by_phase, ends, in_greeted, in_start, received, sends}
use Rattle.cb_peer_state.specs.Replying.{answered, is_heard, is_untold, news_told, replied, served_told, tip_by, tip_told, tx_request, wish_told, txs_told}
use Rattle.cb_peer_state.specs.Session.{pending_item, step_of}
use Rattle.cb_block.specs.Decision.{is_sound_block}
use Rattle.cb_peer_state.specs.declared.session_state.SessionState.{SessionState}
use Rattle.cb_peer_state.specs.State.{freed, is_closed, is_ready, next_nonce, with_made, with_peer}
use Rattle.cb_peer_state.proofs.Apt.{IsApt, Suits, reached_apt, pending_stage}
use Rattle.cb_peer_state.proofs.Cases.{by_test}
use Rattle.cb_block.proofs.Deciding.{sound_from}
use Rattle.cb_peer_state.proofs.Steps.{open_fewer}
use Rattle.cb_peer_state.proofs.Behind.{all_there, same_but}
use Rattle.cb_peer_state.proofs.Sending.{IsMild, None_of, none_of_both, step_none, tip_none, txs_none_by}
use Rattle.cb_peer_state.proofs.Cases.{sent_at_end}

-- ---- before the handshake is done

early_end : (s : SessionState) (sent : List Message) → is_ready s.state ≡ false → ends s sent ≡ sends s sent
unfolding ends
early_end s sent early = rw early refl

pub early_ping : (s : SessionState) (nonce : ℕ) → is_ready s.state ≡ false → received s (messages.Ping nonce) ≡ sends s (messages.Pong nonce ∷ [])
unfolding received
early_ping s nonce early = early_end s (messages.Pong nonce ∷ []) early

start_nothing : (s : SessionState) (message : Message) → greets message ≡ false → in_start s message ≡ sends s []
unfolding in_start
start_nothing s (messages.Version version) e = absurd cc
start_nothing s other e = refl

greeted_nothing : (s : SessionState) (message : Message) → greets message ≡ false → wishes_for message ≡ false → in_greeted s message ≡ sends s []
unfolding in_greeted
greeted_nothing s messages.Verack e w = absurd cc
greeted_nothing s messages.SendHeaders e w = absurd cc
greeted_nothing s (messages.SendCmpct relay) e w = absurd cc
greeted_nothing s other e w = refl

phase_nothing : (state : State) (s : SessionState) (message : Message) → is_ready state ≡ false → greets message ≡ false → wishes_for message ≡ false → by_phase state s message ≡ sends s []
phase_nothing Start s message early e w = start_nothing s message e
phase_nothing Greeted s message early e w = greeted_nothing s message e w
phase_nothing Ready s message early e w = absurd cc
phase_nothing (Closed why) s message early e w = refl

pub early_nothing : (s : SessionState) (message : Message) → is_ready s.state ≡ false → greets message ≡ false → wishes_for message ≡ false → received s message ≡ sends s []
unfolding received
early_nothing s (messages.Ping nonce) early e w = absurd cc
early_nothing s other early e w = phase_nothing s.state s other early e w

-- an outcome that keeps all but what is known of the peer
abbrev Notes : SessionState → Outcome → Type 0
Notes s outcome = outcome ≡ sends (with_peer outcome.session.peer s) []

compact_notes : (s : SessionState) (relay : CompactRelay) → Notes s (sends (by_compact relay s) [])
compact_notes s relay = elim (cases_Bool (relay.version == 1)) [ inl one ↦ rw one refl | inr other ↦ rw other refl ]

phase_notes : (state : State) (s : SessionState) (message : Message) → is_ready state ≡ false → wishes_for message ≡ true → Notes s (by_phase state s message)
unfolding in_start in_greeted
phase_notes Start s messages.SendHeaders early w = refl
phase_notes Start s (messages.SendCmpct relay) early w = refl
phase_notes Greeted s messages.SendHeaders early w = refl
phase_notes Greeted s (messages.SendCmpct relay) early w = compact_notes s relay
phase_notes (Closed why) s messages.SendHeaders early w = refl
phase_notes (Closed why) s (messages.SendCmpct relay) early w = refl
phase_notes state s message early w = absurd cc

pub early_notes : (s : SessionState) (message : Message) → is_ready s.state ≡ false → wishes_for message ≡ true → Notes s (received s message)
unfolding received
early_notes s messages.SendHeaders early w = phase_notes s.state s messages.SendHeaders early w
early_notes s (messages.SendCmpct relay) early w = phase_notes s.state s (messages.SendCmpct relay) early w
early_notes s other early w = absurd cc

-- ---- tips

any_second : (a b : Bool) → b ≡ true → (a || b) ≡ true
any_second true b e = refl
any_second false b e = e

pub source_not_told : (s : SessionState) (item : Option Item) (news : News) → s.marks.heard ≡ Some news.tip → (news_told s item news).messages ≡ txs_told s item news.txids ++ wish_told s news.high
unfolding news_told
source_not_told s item news heard =
    let is : is_untold s news ≡ true = any_second (is_nil news.path) (is_heard s.marks.heard news.tip) (ap (λ (h : Option Hash256). is_heard h news.tip) heard ∙ same-refl news.tip) in
    rw is refl

-- ---- headers

headers_mild : IsMild is_headers
headers_mild =
    record {
      version = λ _. refl;
      verack = refl;
      pong = λ _. refl;
      send_headers = refl;
      send_compact = λ _. refl;
      not_found = λ _. refl;
      get_headers = λ _. refl;
      tx = λ _. refl;
      block = λ _. refl;
      short = λ _. refl;
      get_txs = λ _. refl;
      txs = λ _. refl;
    }

no_headers_asked : (entries : List Inventory) → None_of is_headers (asking_for entries)
no_headers_asked [] = refl
no_headers_asked (first ∷ others) = refl

tip_by_hash : (tip : Hash256) (path : List Header) → None_of is_headers (announcing false tip path)
tip_by_hash tip [] = refl
tip_by_hash tip (first ∷ others) = refl

no_headers_by : (s : SessionState) (news : News) (block : Option Block) → s.peer.by_headers ≡ false → None_of is_headers (tip_by s news block)
no_headers_by s news (Some block) plain = refl
no_headers_by s news None plain = rw plain (tip_by_hash news.tip news.path)

no_headers_of_tip : (s : SessionState) (news : News) → s.peer.by_headers ≡ false → None_of is_headers (tip_told s news)
no_headers_of_tip s news plain = by_test (None_of is_headers) (is_untold s news) [] (tip_by s news news.block) (λ _. refl) (λ _. no_headers_by s news news.block plain)

not_following : (answer : Answer) (headers : List Header) → is_following (events.Told answer) ≡ false → answer ≡ answers.Following headers → is_headers (messages.Headers headers) ≡ false
not_following answer headers e same = absurd (let f : is_following (events.Told (answers.Following headers)) ≡ false = subst (λ a. is_following (events.Told a) ≡ false) same e in cc)

pub no_headers_unasked : (s : SessionState) (event : Event) → s.peer.by_headers ≡ false → is_following event ≡ false → None_of is_headers (step_of s event).messages
no_headers_unasked s event plain e =
    step_none is_headers s event headers_mild (λ _. refl)
    (λ waiting answer _ is.
    record {
      need = λ need. no_headers_asked (filter_map tx_request need.entries);
      wanted = λ need _. no_headers_asked (requests_of (need.near && s.peer.capable) (taken_on (blocks_in need.entries)).flight);
      tip = λ news. no_headers_of_tip (freed s) news plain;
      txs = λ news. txs_none_by is_headers (freed s) waiting.item news.txids (λ _. refl);
      following = λ headers same. not_following answer headers (subst (λ ev. is_following ev ≡ false) is e) same;
      whole = λ _ _. refl;
    })

-- ---- blocks that are asked for

blocks_mild : (hash : Hash256) → IsMild (asks_for_block hash)
blocks_mild hash =
    record {
      version = λ _. refl;
      verack = refl;
      pong = λ _. refl;
      send_headers = refl;
      send_compact = λ _. refl;
      not_found = λ _. refl;
      get_headers = λ _. refl;
      tx = λ _. refl;
      block = λ _. refl;
      short = λ _. refl;
      get_txs = λ _. refl;
      txs = λ _. refl;
    }

no_block_among_txs : (hash : Hash256) (entries : List Inventory) → list_any (names_block hash) (filter_map tx_request entries) ≡ false
no_block_among_txs hash [] = refl
no_block_among_txs hash (entry.Tx txid ∷ others) = no_block_among_txs hash others
no_block_among_txs hash (entry.Block other ∷ others) = no_block_among_txs hash others
no_block_among_txs hash (entry.CompactBlock other ∷ others) = no_block_among_txs hash others
no_block_among_txs hash (entry.Other kind other ∷ others) = no_block_among_txs hash others

asked_by_entries : (hash : Hash256) (entries : List Inventory) → list_any (names_block hash) entries ≡ false → None_of (asks_for_block hash) (asking_for entries)
asked_by_entries hash [] none = refl
asked_by_entries hash (first ∷ others) none = rw none refl

and_first : (a b : Bool) → (a && b) ≡ true → a ≡ true
and_first true b e = refl
and_first false b e = absurd cc

due_is_idle : (flight wanted : List Hash256) (hash : Hash256) → is_due (record { flight = flight; wanted = wanted }) ≡ true → has flight hash ≡ false
due_is_idle [] wanted hash due = refl
due_is_idle (first ∷ others) wanted hash due =
    let none : length (first ∷ others) ≡ 0 = eqb-true (length (first ∷ others)) 0 (and_first (length (first ∷ others) == 0) (nat_lt 0 (length wanted)) due) in
    absurd (omega (arith, none))

-- where questions about wanted blocks stand, none is in flight
none_flies : (s : SessionState) (waiting : Pending) (hash : Hash256) → IsApt s → s.pending ≡ Some waiting → waiting.stage ≡ Wanted → has s.fetch.flight hash ≡ false
none_flies s waiting hash apt same stage =
    due_is_idle s.fetch.flight s.fetch.wanted hash (apt.suits.idles (rw same (ap (λ (a : Stage). Some a) stage)))

-- a block that an answer doesn't rebuild isn't the one that it does
not_rebuilt : (s : SessionState) (event : Event) (hash other : Hash256) (waiting : Pending) (answer : Answer) → rebuilds hash s event ≡ false → s.pending ≡ Some waiting → event ≡ events.Told answer → rebuilds_by other s.compact.partial waiting.item waiting.stage answer ≡ true → same hash other ≡ false
not_rebuilt s event hash other waiting answer isnt kept is made =
    elim (cases_Bool (same hash other)) [
      | inr differs ↦ differs
      | inl equal ↦
          absurd
          (let by_hash : rebuilds_by hash s.compact.partial waiting.item waiting.stage answer ≡ true =
          subst (λ (h : Hash256). rebuilds_by h s.compact.partial waiting.item waiting.stage answer ≡ true) (sym (same-true hash other equal)) made in
          let here : rebuilds hash s event ≡ rebuilds_at hash s answer (Some waiting) = ap (rebuilds hash s) is ∙ ap (rebuilds_at hash s answer) kept in
          let clash : false ≡ true = sym isnt ∙ here ∙ by_hash in
          cc)
    ]

other_block : (hash other : Hash256) → same hash other ≡ false → asks_for_block hash (asking_block other) ≡ false
other_block hash other e = rw e refl

pub not_asked_twice : (s : SessionState) (event : Event) (hash : Hash256) → IsReached s → rebuilds hash s event ≡ false → list_any (asks_for_block hash) (step_of s event).messages ≡ true → has s.fetch.flight hash ≡ false
not_asked_twice s event hash reached isnt asked =
    elim (cases_Bool (has s.fetch.flight hash)) [
      | inr free ↦ free
      | inl flies ↦
          absurd
          (let none : None_of (asks_for_block hash) (step_of s event).messages =
          step_none (asks_for_block hash) s event (blocks_mild hash) (λ _. refl)
          (λ waiting answer kept is.
          record {
            need = λ need. asked_by_entries hash (filter_map tx_request need.entries) (no_block_among_txs hash need.entries);
            wanted = λ need stage. absurd (let idle : has s.fetch.flight hash ≡ false = none_flies s waiting hash (reached_apt s reached) kept stage in let clash : true ≡ false = sym flies ∙ idle in cc);
            tip = λ news. tip_none (asks_for_block hash) (freed s) news (blocks_mild hash) (λ _. refl) (λ _. refl);
            txs = λ news. txs_none_by (asks_for_block hash) (freed s) waiting.item news.txids (λ _. refl);
            following = λ headers _. refl;
            whole = λ other made. other_block hash other (not_rebuilt s event hash other waiting answer isnt kept is made);
          }) in
          let clash : true ≡ false = sym asked ∙ none in
          cc)
    ]

-- ---- limits, and sound blocks

pub limits_of : (s : SessionState) → IsReached s → IsFetch s.fetch
limits_of s reached = within s.fetch (reached_apt s reached).suits.fetched

item_sound : (s : SessionState) (item : Option Item) (stage : Stage) (given : GivenBlock) → Suits s.fetch item (Some stage) → question_of s item stage ≡ questions.GiveBlock given → is_sound_block given.block ≡ true
item_sound s item Admit given suits e = absurd cc
item_sound s item Match given suits e = absurd cc
item_sound s item (Give block) given suits e =
    let is : block ≡ given.block = cc in
    subst (λ (b : Block). is_sound_block b ≡ true) is (suits.rebuilt block refl)
item_sound s item Wanted given suits e = absurd cc
item_sound s item Fresh given suits e = absurd cc
item_sound s item (About subjects.Headers) given suits e = absurd cc
item_sound s item (About subjects.Locator) given suits e = absurd cc
item_sound s item (About subjects.Inventory) given suits e = absurd cc
item_sound s item (About subjects.Tx) given suits e = absurd cc
item_sound s item (About subjects.Block) given suits e =
    let is : item_block item ≡ given.block = cc in
    subst (λ (b : Block). is_sound_block b ≡ true) is (suits.sound refl)
item_sound s item (About subjects.Items) given suits e = absurd cc
item_sound s item (About subjects.After) given suits e = absurd cc
item_sound s item (About subjects.Places) given suits e = absurd cc

pending_sound : (s : SessionState) (pending : Option Pending) (given : GivenBlock) → Suits s.fetch (pending_item pending) (pending_stage pending) → question_at s pending ≡ Some (questions.GiveBlock given) → is_sound_block given.block ≡ true
pending_sound s None given suits e = absurd cc
pending_sound s (Some pending) given suits e =
    let is : question_of s pending.item pending.stage ≡ questions.GiveBlock given = cc in
    item_sound s pending.item pending.stage given suits is

pub given_sound : (s : SessionState) (given : GivenBlock) → IsReached s → pending_question s ≡ Some (questions.GiveBlock given) → IsSoundBlock given.block
given_sound s given reached e = sound_from given.block (pending_sound s s.pending given (reached_apt s reached).suits e)

-- ---- what is served

no_asking_sent : (nonce : ℕ) (pieces : List Piece) → None_of asks_for_headers (sent nonce pieces)
no_asking_sent nonce [] = refl
no_asking_sent nonce (piece.Tx tx ∷ pieces) = no_asking_sent nonce pieces
no_asking_sent nonce (piece.Whole block ∷ pieces) = no_asking_sent nonce pieces
no_asking_sent nonce (piece.Short block ∷ pieces) = no_asking_sent (nonce_behind nonce (piece.Short block)) pieces
no_asking_sent nonce (piece.Lacking asked ∷ pieces) = no_asking_sent nonce pieces

no_asking_lacking : (entries : List Inventory) → None_of asks_for_headers (not_found entries)
no_asking_lacking [] = refl
no_asking_lacking (first ∷ others) = refl

pub no_asking_served : (nonce : ℕ) (pieces : List Piece) → None_of asks_for_headers (served nonce pieces)
no_asking_served nonce pieces =
    none_of_both asks_for_headers (sent nonce pieces) (not_found (filter_map lacking_in pieces)) (no_asking_sent nonce pieces) (no_asking_lacking (filter_map lacking_in pieces))

pub served_is : (s : SessionState) (item : Option Item) (subject : Subject) (pieces : List Piece) → but_headers (answered s item (About subject) (answers.Served pieces)).messages ≡ served (next_nonce s) pieces
unfolding answered replied served_told
served_is s item subject pieces =
    same_but (ends (with_made (shorts pieces) s) (served (next_nonce s) pieces)) ∙ ap but_headers (sent_at_end (with_made (shorts pieces) s) (served (next_nonce s) pieces))
    ∙ all_there (served (next_nonce s) pieces) (no_asking_served (next_nonce s) pieces)

-- ---- questions run out

pub fewer_left : (s : SessionState) (question : Question) (answer : Answer) → is_closed s.state ≡ false → pending_question s ≡ Some question → fits question answer ≡ true
    → is_closed (step_of s (events.Told answer)).session.state ≡ false → questions_left (step_of s (events.Told answer)).session.pending < questions_left s.pending
unfolding step_of
fewer_left s question answer going asked fit = rw going (open_fewer s question answer going asked fit)
