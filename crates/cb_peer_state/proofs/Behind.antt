-- What the end of an item leaves as it is, though headers may be requested from the remembered one.
use Rattle.std.proofs.Common.{◌≡◌, Bool, true, false, cond, List, [], ◌∷◌, ◌++◌, Option, Some, refl, ap, ◌∙◌}
use Rattle.std.specs.Prelude.{◌&&◌, ◌||◌, None, filter_map, not}
use Rattle.std.specs.List.{list_any}
use Rattle.std.proofs.lemmas.List.{append-nil}
use Rattle.std.proofs.lemmas.List.Elements.{filter_map-append}
use Rattle.std.proofs.lemmas.List.Folds.{list_any-append}
use Rattle.cb_base.specs.declared.hash.Hash256.{Hash256}
use Rattle.cb_block.specs.declared.header.Header.{Header}
use Rattle.cb_chain.specs.Entries.{block_hash}
use Rattle.cb_peer_state.specs.Inventory.{asking_headers}
use Rattle.cb_wire.specs.declared.message.Message.{Message}
use Rattle.cb_peer_state.specs.Laws.{asks_for_headers, but_headers}
use Rattle.cb_peer_state.specs.Receiving.{Outcome, ends}
use Rattle.cb_peer_state.specs.Replying.{orphaned, resuming, search, seeks}
use Rattle.cb_peer_state.specs.State.{awaits, may_seek, remembers, unless_remembered, with_child}
use Rattle.cb_peer_state.specs.declared.session_state.SessionState.{SessionState}
use Rattle.cb_peer_state.proofs.Cases.{by_test}
use Rattle.cb_peer_state.proofs.Resuming.{resuming_cases}

pub but_more : (sent : List Message) (locator : List Hash256) → but_headers (sent ++ asking_headers locator ∷ []) ≡ but_headers sent
but_more [] locator = refl
but_more (message ∷ sent) locator = ap (λ (list : List Message). cond (not (asks_for_headers message)) (message ∷ list) list) (but_more sent locator)

pub same_but : (outcome : Outcome) → but_headers (resuming outcome).messages ≡ but_headers outcome.messages
same_but outcome = resuming_cases (λ (o : Outcome). but_headers o.messages ≡ but_headers outcome.messages) outcome refl (λ hash _ _ _. but_more outcome.messages (hash ∷ []))

pub same_compact : (outcome : Outcome) → (resuming outcome).session.compact ≡ outcome.session.compact
same_compact outcome = resuming_cases (λ (o : Outcome). o.session.compact ≡ outcome.session.compact) outcome refl (λ _ _ _ _. refl)

pub same_fetch : (outcome : Outcome) → (resuming outcome).session.fetch ≡ outcome.session.fetch
same_fetch outcome = resuming_cases (λ (o : Outcome). o.session.fetch ≡ outcome.session.fetch) outcome refl (λ _ _ _ _. refl)

-- what is found in messages, where nothing is in a `getheaders`
pub found_more : {A : Type 0} (find : Message → Option A) (sent : List Message) (locator : List Hash256) → filter_map find (asking_headers locator ∷ []) ≡ [] → filter_map find (sent ++ asking_headers locator ∷ []) ≡ filter_map find sent
found_more find sent locator none =
    filter_map-append find sent (asking_headers locator ∷ []) ∙ ap (λ list. filter_map find sent ++ list) none ∙ append-nil (filter_map find sent)

or_false : (a b : Bool) → b ≡ false → (a || b) ≡ a
or_false true b e = refl
or_false false b e = e

pub any_more : (test : Message → Bool) (sent : List Message) (locator : List Hash256) → list_any test (asking_headers locator ∷ []) ≡ false → list_any test (sent ++ asking_headers locator ∷ []) ≡ list_any test sent
any_more test sent locator none = list_any-append test sent (asking_headers locator ∷ []) ∙ or_false (list_any test sent) (list_any test (asking_headers locator ∷ [])) none

-- nothing but a `getheaders` was dropped
pub all_there : (sent : List Message) → list_any asks_for_headers sent ≡ false → but_headers sent ≡ sent
all_there [] none = refl
all_there (message ∷ sent) none = first (asks_for_headers message) none (all_there sent)
  where
    first : (asks : Bool) → (asks || list_any asks_for_headers sent) ≡ false → (list_any asks_for_headers sent ≡ false → but_headers sent ≡ sent) → cond (not asks) (message ∷ but_headers sent) (but_headers sent) ≡ message ∷ sent
    first true none later = absurd cc
    first false none later = ap (λ (list : List Message). message ∷ list) (later none)

-- ---- what is requested unless a header is remembered

pub unless_all : (P : List Message → Type 0) (s : SessionState) (sent : List Message) → P [] → P sent → P (unless_remembered s sent)
unless_all P s sent none all = by_test P (remembers s) [] sent (λ _. none) (λ _. all)

pub unless_nothing : (s : SessionState) → unless_remembered s [] ≡ []
unless_nothing s = unless_all (λ (sent : List Message). sent ≡ []) s [] refl refl

-- ---- what is requested where something is unknown

pub search_all : (P : List Message → Type 0) (found : Bool) (s : SessionState) (locator : List Hash256) → P [] → P (asking_headers locator ∷ []) → P (search found s locator)
search_all P found s locator none all = by_test P (found && may_seek s) (asking_headers locator ∷ []) [] (λ _. all) (λ _. none)

-- a block that came before its parent is queued behind it, or headers are requested
pub orphaned_cases : (P : Outcome → Type 0) (s : SessionState) (header : Option Header) (locator : List Hash256) → P (seeks s locator)
    → ((of : Header) → header ≡ Some of → awaits s of.prev ≡ true → P (ends (with_child (block_hash of) of.prev s) [])) → P (orphaned s header locator)
orphaned_cases P s None locator asks waits = asks
orphaned_cases P s (Some header) locator asks waits =
    by_test P (awaits s header.prev) (ends (with_child (block_hash header) header.prev s) []) (seeks s locator) (waits header refl) (λ _. asks)
