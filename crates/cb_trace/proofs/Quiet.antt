-- Lists of messages, looked through by a test that few messages meet.
use Rattle.cb_peer_state.proofs.Cases.{by_test}
use Rattle.std.proofs.Common.{◌≡◌, ℕ, Bool, true, false, ◌&&◌, List, [], ◌∷◌, ◌++◌, Option, Some, None, refl, ◌∙◌, inl, inr}
use Rattle.std.specs.Prelude.{◌==◌, filter_map, length, not}
use Rattle.std.specs.List.{list_any}
use Rattle.std.proofs.lemmas.Bool.{cases_Bool, or_from}
use Rattle.std.proofs.lemmas.List.Folds.{list_any-append}
use Rattle.cb_base.specs.declared.hash.Hash256.{Hash256}
use Rattle.cb_block.specs.declared.block.Block.{Block}
use Rattle.cb_block.specs.declared.header.Header.{Header}
use Rattle.cb_wire.specs.declared.block_transactions.BlockTransactions.{BlockTransactions}
use Rattle.cb_wire.specs.declared.block_transactions.BlockTransactionsRequest.{BlockTransactionsRequest}
use Rattle.cb_wire.specs.declared.compact_block.HeaderAndShortIds.{HeaderAndShortIds}
use Rattle.cb_wire.specs.declared.inventory.Inventory.{Inventory}
use Rattle.cb_wire.specs.declared.requests.CompactRelay.{CompactRelay}
use Rattle.cb_wire.specs.declared.requests.HeadersRequest.{HeadersRequest}
use Rattle.cb_wire.specs.declared.version.Version.{Version}
use Rattle.cb_state.specs.declared.news.News.{News}
use Rattle.cb_state.specs.declared.serving.Piece.{Piece}
use Rattle.cb_state.specs.declared.serving.Piece.TheVariants as piece
use Rattle.cb_state.specs.declared.serving_places.Excerpt.{Excerpt}
use Rattle.cb_state.specs.declared.serving_places.Excerpt.TheVariants as excerpts
use Rattle.cb_peer_state.specs.Announcing.{announcing, telling}
use Rattle.cb_peer_state.specs.Greeting.{wish}
use Rattle.cb_peer_state.specs.Inventory.{asking_headers}
use Rattle.cb_peer_state.specs.Serving.{excerpt_told, lacking_in, nonce_behind, not_found, sent, served}
use Rattle.cb_block.specs.declared.tx.Tx.{Tx}
use Rattle.cb_wire.specs.declared.item.Item.{Item}
use Rattle.cb_wire.specs.declared.item.Item.TheVariants.{Good}
use Rattle.cb_wire.specs.declared.message.Message.{Message}
use Rattle.cb_wire.specs.declared.message.Message.TheVariants as messages
use Rattle.cb_peer_state.specs.declared.settings.Settings.{Settings}
use Rattle.cb_peer_state.specs.Receiving.{greeting}
use Rattle.cb_peer_state.specs.Replying.{differ, is_untold, more_behind, more_headers, tip_by, tip_told, wish_told, without_brought, search, txs_told}
use Rattle.cb_peer_state.specs.State.{unless_remembered}
use Rattle.cb_peer_state.proofs.Behind.{unless_all, search_all}
use Rattle.cb_peer_state.specs.declared.session_state.SessionState.{SessionState}

-- none of the messages meets the test
abbrev pub NoneOf : (Message → Bool) → List Message → Type 0
NoneOf test sent = list_any test sent ≡ false

-- a test that only `ping`, `sendheaders`, `getdata`, `sendcmpct` and `cmpctblock` may meet
pub record IsRare (test : Message → Bool) : Type 0 where
  pub version : (v : Version) → test (messages.Version v) ≡ false
  pub verack : test messages.Verack ≡ false
  pub pong : (nonce : ℕ) → test (messages.Pong nonce) ≡ false
  pub inv : (entries : List Inventory) → test (messages.Inv entries) ≡ false
  pub not_found : (entries : List Inventory) → test (messages.NotFound entries) ≡ false
  pub get_headers : (request : HeadersRequest) → test (messages.GetHeaders request) ≡ false
  pub headers : (headers : List Header) → test (messages.Headers headers) ≡ false
  pub tx : (tx : Tx) → test (messages.Tx tx) ≡ false
  pub block : (block : Block) → test (messages.Block block) ≡ false
  pub get_txs : (request : BlockTransactionsRequest) → test (messages.GetBlockTxn request) ≡ false
  pub block_txs : (given : BlockTransactions) → test (messages.BlockTxn given) ≡ false

-- nor do these
abbrev pub NoShort : (Message → Bool) → Type 0
NoShort test = (short : HeaderAndShortIds) → test (messages.CmpctBlock short) ≡ false

abbrev pub NoRelay : (Message → Bool) → Type 0
NoRelay test = (relay : CompactRelay) → test (messages.SendCmpct relay) ≡ false

pub none_of_one : (test : Message → Bool) (message : Message) → test message ≡ false → NoneOf test (message ∷ [])
none_of_one test message e = rw e refl

pub none_of_both : (test : Message → Bool) (xs ys : List Message) → NoneOf test xs → NoneOf test ys → NoneOf test (xs ++ ys)
none_of_both test xs ys x y = list_any-append test xs ys ∙ or_from (list_any test xs) (list_any test ys) x y

-- ---- what is sent for an item

pub greeting_none : (test : Message → Bool) (settings : Settings) → IsRare test → NoneOf test (greeting settings)
greeting_none test settings m =
    elim (cases_Bool settings.inbound) [
      | inl inbound ↦ rw inbound (rw (m.version _) (none_of_one test messages.Verack m.verack))
      | inr outbound ↦ rw outbound (none_of_one test messages.Verack m.verack)
    ]

pub request_none : (test : Message → Bool) (locator : List Hash256) → IsRare test → NoneOf test (asking_headers locator ∷ [])
request_none test locator m = none_of_one test (asking_headers locator) (m.get_headers _)

behind_none : (test : Message → Bool) (headers : List Header) → IsRare test → NoneOf test (more_behind headers)
behind_none test [] m = refl
behind_none test (first ∷ others) m =
    elim (cases_Bool (length (first ∷ others) == 2000)) [ inl full ↦ rw full (request_none test _ m) | inr fewer ↦ rw fewer refl ]

pub more_none : (test : Message → Bool) (item : Option Item) → IsRare test → NoneOf test (more_headers item)
more_none test (Some (Good (messages.Headers headers))) m = behind_none test headers m
more_none test item m = refl

-- headers are requested where something is unknown
pub search_none : (test : Message → Bool) (found : Bool) (s : SessionState) (locator : List Hash256) → IsRare test → NoneOf test (search found s locator)
search_none test found s locator m = search_all (NoneOf test) found s locator refl (request_none test locator m)

-- headers are requested unless one is remembered
pub unless_none : (test : Message → Bool) (s : SessionState) (sent : List Message) → NoneOf test sent → NoneOf test (unless_remembered s sent)
unless_none test s sent none = unless_all (NoneOf test) s sent refl none

-- headers from the remembered one are requested at the end
pub again_none : (test : Message → Bool) (sent : List Message) (locator : List Hash256) → IsRare test → NoneOf test sent → NoneOf test (sent ++ asking_headers locator ∷ [])
again_none test sent locator m none = none_of_both test sent (asking_headers locator ∷ []) none (request_none test locator m)

-- ---- what is served

sent_none : (test : Message → Bool) (nonce : ℕ) (pieces : List Piece) → IsRare test → NoShort test → NoneOf test (sent nonce pieces)
sent_none test nonce [] m no_short = refl
sent_none test nonce (piece.Tx tx ∷ others) m no_short = rw (m.tx tx) (sent_none test nonce others m no_short)
sent_none test nonce (piece.Whole block ∷ others) m no_short = rw (m.block block) (sent_none test nonce others m no_short)
sent_none test nonce (piece.Short block ∷ others) m no_short = rw (no_short _) (sent_none test (nonce_behind nonce (piece.Short block)) others m no_short)
sent_none test nonce (piece.Lacking asked ∷ others) m no_short = sent_none test nonce others m no_short

lacking_none : (test : Message → Bool) (entries : List Inventory) → IsRare test → NoneOf test (not_found entries)
lacking_none test [] m = refl
lacking_none test (first ∷ others) m = none_of_one test (messages.NotFound (first ∷ others)) (m.not_found (first ∷ others))

pub served_none : (test : Message → Bool) (nonce : ℕ) (pieces : List Piece) → IsRare test → NoShort test → NoneOf test (served nonce pieces)
served_none test nonce pieces m no_short =
    none_of_both test (sent nonce pieces) (not_found (filter_map lacking_in pieces)) (sent_none test nonce pieces m no_short) (lacking_none test (filter_map lacking_in pieces) m)

pub excerpt_none : (test : Message → Bool) (excerpt : Excerpt) → IsRare test → NoneOf test (excerpt_told excerpt)
excerpt_none test excerpts.Absent m = refl
excerpt_none test (excerpts.Refused fault) m = refl
excerpt_none test (excerpts.Part part) m = none_of_one test _ (m.block_txs _)
excerpt_none test (excerpts.Whole block) m = none_of_one test _ (m.block block)

-- ---- news

pub announcing_none : (test : Message → Bool) (by_them : Bool) (tip : Hash256) (path : List Header) → IsRare test → NoneOf test (announcing by_them tip path)
announcing_none test by_them tip [] m = refl
announcing_none test true tip (first ∷ others) m = none_of_one test _ (m.headers (first ∷ others))
announcing_none test false tip (first ∷ others) m = none_of_one test _ (m.inv _)

tip_by_none : (test : Message → Bool) (s : SessionState) (news : News) (block : Option Block) → IsRare test → NoShort test → NoneOf test (tip_by s news block)
tip_by_none test s news None m no_short = announcing_none test (s.peer.by_headers && not news.long) news.tip news.path m
tip_by_none test s news (Some block) m no_short = none_of_one test _ (no_short _)

pub tip_none : (test : Message → Bool) (s : SessionState) (news : News) → IsRare test → NoShort test → NoneOf test (tip_told s news)
tip_none test s news m no_short = elim (cases_Bool (is_untold s news)) [ inl untold ↦ rw untold refl | inr new ↦ rw new (tip_by_none test s news news.block m no_short) ]

pub telling_none : (test : Message → Bool) (txids : List Hash256) → IsRare test → NoneOf test (telling txids)
telling_none test [] m = refl
telling_none test (first ∷ others) m = none_of_one test _ (m.inv _)

wish_none : (test : Message → Bool) (s : SessionState) (high : Bool) → NoRelay test → NoneOf test (wish_told s high)
wish_none test s high no_relay =
    elim (cases_Bool (s.peer.capable && differ high s.compact.asked_high)) [ inl wishes ↦ rw wishes (none_of_one test (wish high) (no_relay _)) | inr quiet ↦ rw quiet refl ]

pub txs_none : (test : Message → Bool) (s : SessionState) (item : Option Item) (txids : List Hash256) → IsRare test → NoneOf test (txs_told s item txids)
txs_none test s item txids m = by_test (NoneOf test) s.peer.relays (telling (without_brought item txids)) [] (λ _. telling_none test (without_brought item txids) m) (λ _. refl)

pub news_none : (test : Message → Bool) (s : SessionState) (item : Option Item) (news : News) → IsRare test → NoShort test → NoRelay test → NoneOf test ((tip_told s news ++ txs_told s item news.txids) ++ wish_told s news.high)
news_none test s item news m no_short no_relay =
    none_of_both test (tip_told s news ++ txs_told s item news.txids) (wish_told s news.high)
    (none_of_both test (tip_told s news) (txs_told s item news.txids) (tip_none test s news m no_short) (txs_none test s item news.txids m)) (wish_none test s news.high no_relay)
