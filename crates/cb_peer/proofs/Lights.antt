-- Where nothing is sent and nothing is asked but what is new.
use Rattle.cb_block.specs.declared.header.Header.{Header}
use Rattle.cb_peer_state.specs.Session.{weighs_child}
use Rattle.std.proofs.Common.{◌≡◌, ◌≢◌, ℕ, Bool, true, false, cond, List, [], ◌∷◌, ◌++◌, Option, Some, None, refl, sym, ap, subst, ◌∙◌}
use Rattle.std.specs.Prelude.{MatchOption, ◌&&◌, not}
use Rattle.cb_base.specs.declared.fault.Fault.{Fault}
use Rattle.cb_base.specs.declared.fault.Fault.TheVariants as faults
use Rattle.cb_base.specs.declared.hash.Hash256.{Hash256}
use Rattle.cb_chain.specs.Entries.{block_hash}
use Rattle.cb_hall.specs.declared.question.Question.TheVariants as questions
use Rattle.cb_hall.specs.declared.question.Sought.{Sought}
use Rattle.cb_wire.specs.declared.compact_block.HeaderAndShortIds.{HeaderAndShortIds}
use Rattle.cb_state.specs.declared.accepting.Heads.{Heads}
use Rattle.cb_state.specs.declared.serving.Piece.{Piece}
use Rattle.cb_state.specs.declared.serving.Piece.TheVariants as piece
use Rattle.cb_state.specs.declared.serving_places.Excerpt.{Excerpt}
use Rattle.cb_state.specs.declared.serving_places.Excerpt.TheVariants as excerpts
use Rattle.cb_peer_state.specs.Announcing.{announcing_block}
use Rattle.cb_peer_state.specs.Inventory.{asking_headers}
use Rattle.cb_peer_state.specs.Serving.{excerpt_told, sent, served, shorts}
use Rattle.cb_wire.specs.declared.item.Item.{Item}
use Rattle.cb_wire.specs.declared.message.Message.{Message}
use Rattle.cb_wire.specs.declared.message.Message.TheVariants as messages
use Rattle.cb_peer_state.specs.declared.stage.Stage.TheVariants.{Match}
use Rattle.cb_peer_state.specs.declared.state.CloseReason.TheVariants as reasons
use Rattle.cb_peer_state.specs.Outcomes.{IsLightOutcome, Makes}
use Rattle.cb_peer_state.specs.Questions.{is_nil, short_in, sought_for}
use Rattle.cb_peer_state.specs.Receiving.{Outcome, asks, ended, ends}
use Rattle.cb_peer_state.specs.Replying.{before_first, excerpt_answered, given_told, heads_by, heads_for, is_workless, more_headers, served_told, short_told, header_in, is_orphan, orphaned, search, seeks, taken_told}
use Rattle.cb_peer_state.specs.declared.session_state.SessionState.{SessionState}
use Rattle.cb_peer_state.specs.State.{landing, next_nonce, unless_remembered, with_lacking, with_made, awaits, seeking, with_unknown}
use Rattle.cb_peer_state.proofs.Cases.{sent_at_end}
use Rattle.cb_peer_state.proofs.Lights.{some_sent, taken_light}

-- headers that have work and of which no block is missing
pub nothing_lacks : (workless : Bool) (lack : List Hash256) → workless ≡ false → (not workless && not (is_nil lack)) ≡ false → lack ≡ []
nothing_lacks true lack works none = absurd cc
nothing_lacks false [] works none = refl
nothing_lacks false (hash ∷ hashes) works none = absurd cc

-- The header of a compact block: nothing is sent and nothing searched.
is_first : (test : Bool) (first next : Outcome) → (IsLightOutcome next → ⊥) → IsLightOutcome (cond test first next) → (test ≡ true) × IsLightOutcome first
is_first true first next never light = (refl, light)
is_first false first next never light = absurd (never light)

pub short_light : (s : SessionState) (hash : Hash256) (heads : Heads) → is_workless heads.refused ≡ false → IsLightOutcome (short_told s hash heads)
    → (is_nil heads.lack ≡ true) × IsLightOutcome (ends (landing hash (seeking (is_orphan heads.refused) s)) (search (is_orphan heads.refused) s heads.locator))
unfolding short_told
short_light s hash heads works light =
    let found = is_orphan heads.refused in
    let end = ends (landing hash (seeking found s)) (search found s heads.locator) in
    let next = asks (seeking found s) (search found s heads.locator) Match in
    let here : IsLightOutcome (cond (is_nil heads.lack) end next) = subst (λ (b : Bool). IsLightOutcome (cond b (ended reasons.BadBlock s) (cond (is_nil heads.lack) end next))) works light in
    is_first (is_nil heads.lack) end next (λ heavy. let e : false ≡ true = heavy.1 in cc) here

pub short_sent : (s : SessionState) (hash : Hash256) (heads : Heads) → is_workless heads.refused ≡ false → IsLightOutcome (short_told s hash heads) → search (is_orphan heads.refused) s heads.locator ≡ []
short_sent s hash heads works light =
    let found = is_orphan heads.refused in
    sym (sent_at_end (landing hash (seeking found s)) (search found s heads.locator)) ∙ (short_light s hash heads works light).1.0

accepted_light : (s : SessionState) (item : Option Item) (refused : Option Fault) (locator : List Hash256) → refused ≡ None → IsLightOutcome (heads_by s item refused locator) → unless_remembered s (more_headers item) ≡ []
accepted_light s item None locator none light = sym (sent_at_end (with_unknown false s) (unless_remembered s (more_headers item))) ∙ light.0
accepted_light s item (Some fault) locator none light = absurd cc

orphan_light : (s : SessionState) (item : Option Item) (refused : Option Fault) (locator : List Hash256) → refused ≡ Some faults.NoParent → IsLightOutcome (heads_by s item refused locator)
    → IsLightOutcome (seeks s locator)
orphan_light s item refused locator is light = subst (λ (r : Option Fault). IsLightOutcome (heads_by s item r locator)) is light

-- headers of which none was refused
pub heads_light : (s t : SessionState) (item : Option Item) (heads : Heads) → t ≡ with_lacking heads.lack (before_first item) s → heads.refused ≡ None → IsLightOutcome (heads_for s item None heads) → unless_remembered t (more_headers item) ≡ []
heads_light s t item heads is none light =
    subst (λ (u : SessionState). unless_remembered u (more_headers item) ≡ []) (sym is) (accepted_light (with_lacking heads.lack (before_first item) s) item heads.refused heads.locator none light)

-- headers with an unknown parent
pub heads_asked : (s t : SessionState) (item : Option Item) (heads : Heads) (fault : Fault) → t ≡ with_lacking heads.lack (before_first item) s → heads.refused ≡ Some fault → fault ≡ faults.NoParent → IsLightOutcome (heads_for s item None heads)
    → IsLightOutcome (seeks t heads.locator)
heads_asked s t item heads fault same is parent light =
    subst (λ (u : SessionState). IsLightOutcome (seeks u heads.locator)) (sym same)
    (orphan_light (with_lacking heads.lack (before_first item) s) item heads.refused heads.locator (is ∙ ap (λ (f : Fault). Some f) parent) light)

-- what was noted of the missing blocks
pub noted : (s t : SessionState) (item : Option Item) (lack all : List Hash256) (before : Option Hash256) → t ≡ with_lacking lack before s → lack ≡ all → before ≡ before_first item → t ≡ with_lacking all (before_first item) s
noted s t item lack all before is same first = is ∙ ap (λ (l : List Hash256). with_lacking l before s) same ∙ ap (λ (b : Option Hash256). with_lacking all b s) first

-- The header of a compact block whose block is missing leads to a search of the mempool.
pub short_searched : (s t : SessionState) (item : Option Item) (short : HeaderAndShortIds) (heads : Heads) (found : Bool) (sent : List Message) (sought : Sought) → found ≡ is_orphan heads.refused → t ≡ seeking found s → is_workless heads.refused ≡ false → is_nil heads.lack ≡ false
    → short_in item ≡ Some short → sent ≡ search found s heads.locator → sought ≡ sought_for (Some short)
    → Makes (short_told s (block_hash short.header) heads) item t sent (Some (record { stage = Match; question = questions.Match sought }))
unfolding short_told
short_searched s t item short heads found sent sought orphan at works lacks brought same is =
    let known = is_orphan heads.refused in
    let end = ends (landing (block_hash short.header) (seeking known s)) (search known s heads.locator) in
    let next = asks (seeking known s) (search known s heads.locator) Match in
    let first : short_told s (block_hash short.header) heads ≡ cond (is_nil heads.lack) end next = ap (λ (b : Bool). cond b (ended reasons.BadBlock s) (cond (is_nil heads.lack) end next)) works in
    let made : short_told s (block_hash short.header) heads ≡ next = first ∙ ap (λ (b : Bool). cond b end next) lacks in
    let question : sought ≡ sought_for (short_in item) = is ∙ ap sought_for (sym brought) in
    subst (λ (outcome : Outcome). Makes outcome item t sent (Some (record { stage = Match; question = questions.Match sought }))) (sym made)
    (record { after = at ∙ ap (λ (f : Bool). seeking f s) orphan; messages = same ∙ ap (λ (f : Bool). search f s heads.locator) orphan; next_is = ap (λ (all : Sought). Some (record { stage = Match; question = questions.Match all })) question })

-- a rebuilt block
pub given_light : (s : SessionState) (header : Header) (refused : Option Fault) (locator : List Hash256) (orphan : Bool) → orphan ≡ is_orphan refused → orphan ≡ true → IsLightOutcome (given_told s header refused locator) → IsLightOutcome (orphaned s (Some header) locator)
unfolding given_told
given_light s header refused locator orphan is e light = subst (λ (b : Bool). IsLightOutcome (cond b (orphaned s (Some header) locator) (ends s []))) (sym is ∙ e) light

pub given_plain : (s : SessionState) (header : Header) (refused : Option Fault) (locator : List Hash256) (orphan : Bool) → orphan ≡ is_orphan refused → orphan ≡ false → IsLightOutcome (given_told s header refused locator) → IsLightOutcome (ends s [])
unfolding given_told
given_plain s header refused locator orphan is e light = subst (λ (b : Bool). IsLightOutcome (cond b (orphaned s (Some header) locator) (ends s []))) (sym is ∙ e) light

-- where a block is an orphan, it weighs as one
orphan_weighs : (s : SessionState) (header : Option Header) (refused : Option Fault) → refused ≡ Some faults.NoParent → weighs_child s header refused ≡ false → weighs_child s header (Some faults.NoParent) ≡ false
orphan_weighs s header refused is weighs = subst (λ (r : Option Fault). weighs_child s header r ≡ false) is weighs

pub given_weighs : (s : SessionState) (header : Header) (refused : Option Fault) (orphan : Bool) → orphan ≡ is_orphan refused → orphan ≡ true → weighs_child s (Some header) refused ≡ false → weighs_child s (Some header) (Some faults.NoParent) ≡ false
given_weighs s header refused orphan is e weighs = ap (λ (b : Bool). b && awaits s header.prev) (sym (sym is ∙ e)) ∙ weighs

-- a whole block whose parent is unknown
pub taken_asked : (s : SessionState) (item : Option Item) (header : Option Header) (refused : Option Fault) (locator : List Hash256) (fault : Fault) → header ≡ header_in item → refused ≡ Some fault → fault ≡ faults.NoParent → weighs_child s (header_in item) refused ≡ false
    → IsLightOutcome (taken_told s (header_in item) refused locator) → (weighs_child s header (Some faults.NoParent) ≡ false) × IsLightOutcome (orphaned s header locator)
taken_asked s item header refused locator fault same is parent weighs light =
    let orphan : refused ≡ Some faults.NoParent = is ∙ ap (λ (f : Fault). Some f) parent in
    subst (λ (h : Option Header). (weighs_child s h (Some faults.NoParent) ≡ false) × IsLightOutcome (orphaned s h locator)) (sym same)
    (orphan_weighs s (header_in item) refused orphan weighs, taken_light s (header_in item) refused locator fault is parent light)

not_empty : (others : List Message) (last : Message) → others ++ last ∷ [] ≢ []
not_empty [] last = λ e. cc
not_empty (first ∷ others) last = λ e. cc

none_served : (s : SessionState) (nonce : ℕ) (pieces : List Piece) → IsLightOutcome (ends s (served nonce pieces)) → pieces ≡ []
none_served s nonce [] light = refl
none_served s nonce (piece.Tx tx ∷ others) light = some_sent s (messages.Tx tx) _ light
none_served s nonce (piece.Whole block ∷ others) light = some_sent s (messages.Block block) _ light
none_served s nonce (piece.Short block ∷ others) light = some_sent s (announcing_block block nonce) _ light
none_served s nonce (piece.Lacking asked ∷ others) light =
    absurd (not_empty (sent nonce others) _ (sym (sent_at_end s (served nonce (piece.Lacking asked ∷ others))) ∙ light.0))

-- where nothing is sent nothing was asked for
pub nothing_served : (s : SessionState) (pieces : List Piece) → IsLightOutcome (served_told s pieces) → pieces ≡ []
unfolding served_told
nothing_served s pieces light = none_served (with_made (shorts pieces) s) (next_nonce s) pieces light

-- transactions of a block
pub excerpt_light : (s : SessionState) (excerpt : Excerpt) → IsLightOutcome (excerpt_answered s excerpt) → excerpt_told excerpt ≡ []
unfolding excerpt_answered
excerpt_light s excerpts.Absent light = refl
excerpt_light s (excerpts.Refused fault) light = refl
excerpt_light s (excerpts.Part part) light = some_sent s (messages.BlockTxn (record { block = part.hash; txs = part.txs })) [] light
excerpt_light s (excerpts.Whole block) light = some_sent s (messages.Block block) [] light

pub none_made : (made : Option Message) (sent : List Message) → MatchOption made (sent ≡ []) (λ message. sent ≡ message ∷ []) → sent ≡ [] → made ≡ None
none_made None sent is none = refl
none_made (Some message) sent is none = absurd (let e : message ∷ [] ≡ [] = sym is ∙ none in cc)
