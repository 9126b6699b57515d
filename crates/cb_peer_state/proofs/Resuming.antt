-- The end of an item: headers are requested from the remembered one, or nothing more is done.
use Rattle.std.proofs.Common.{◌≡◌, ◌≢◌, Bool, true, cond, List, [], ◌∷◌, ◌++◌, Option, Some, None, refl, sym, ap, ◌∙◌}
use Rattle.std.specs.Prelude.{option_map}
use Rattle.cb_base.specs.declared.hash.Hash256.{Hash256}
use Rattle.cb_peer_state.specs.Fetching.{wants_none}
use Rattle.cb_peer_state.specs.Inventory.{asking_headers}
use Rattle.cb_wire.specs.declared.item.Item.{Item}
use Rattle.cb_wire.specs.declared.message.Message.{Message}
use Rattle.cb_peer_state.specs.declared.reaction.NextQuestion.{NextQuestion}
use Rattle.cb_peer_state.specs.declared.session_state.SessionState.{SessionState}
use Rattle.cb_peer_state.specs.declared.stage.Stage.{Stage}
use Rattle.cb_peer_state.specs.declared.stage.Stage.TheVariants.{Fresh}
use Rattle.cb_peer_state.specs.Outcomes.{IsLightOutcome, Makes, asked_by}
use Rattle.cb_peer_state.specs.Questions.{question_of}
use Rattle.cb_peer_state.specs.Receiving.{Outcome}
use Rattle.cb_peer_state.specs.Replying.{asks_news, resumed, resumes, resuming}
use Rattle.cb_peer_state.proofs.Cases.{by_test}

-- ---- the cases

pub fresh_is : (next : Option Stage) → asks_news next ≡ true → next ≡ Some Fresh
fresh_is (Some Fresh) e = refl
fresh_is other e = absurd cc

resumes_cases : (P : Outcome → Type 0) (outcome : Outcome) (rest : Option Hash256) → P outcome → ((hash : Hash256) → rest ≡ Some hash → wants_none outcome.session.fetch ≡ true → P (resumed hash outcome)) → P (resumes rest outcome)
resumes_cases P outcome None same again = same
resumes_cases P outcome (Some hash) same again =
    by_test P (wants_none outcome.session.fetch) (resumed hash outcome) outcome (again hash refl) (λ _. same)

-- Nothing more is done; or news are asked for next, nothing is wanted, and a header was remembered.
pub resuming_cases : (P : Outcome → Type 0) (outcome : Outcome) → P outcome
    → ((hash : Hash256) → outcome.next ≡ Some Fresh → outcome.session.resume_from ≡ Some hash → wants_none outcome.session.fetch ≡ true → P (resumed hash outcome)) → P (resuming outcome)
unfolding resuming
resuming_cases P outcome same again =
    by_test P (asks_news outcome.next) (resumes outcome.session.resume_from outcome) outcome
    (λ news. resumes_cases P outcome outcome.session.resume_from same (λ hash at none. again hash (fresh_is outcome.next news) at none)) (λ _. same)

-- ---- what is sent

not_empty : (others : List Message) (last : Message) → others ++ last ∷ [] ≢ []
not_empty [] last = λ e. cc
not_empty (first ∷ others) last = λ e. cc

pub resuming_silent : (outcome : Outcome) → (resuming outcome).messages ≡ [] → outcome.messages ≡ []
resuming_silent outcome =
    resuming_cases (λ (o : Outcome). o.messages ≡ [] → outcome.messages ≡ []) outcome (λ e. e)
    (λ hash _ _ _ e. absurd (not_empty outcome.messages (asking_headers (hash ∷ [])) e))

pub resuming_light : (outcome : Outcome) → IsLightOutcome (resuming outcome) → IsLightOutcome outcome
resuming_light outcome =
    resuming_cases (λ (o : Outcome). IsLightOutcome o → IsLightOutcome outcome) outcome (λ light. light)
    (λ hash _ _ _ light. absurd (not_empty outcome.messages (asking_headers (hash ∷ [])) light.0))

-- ---- what the code does

same_stage : (s : SessionState) (item : Option Item) (next : Option Stage) → option_map (λ (asked : NextQuestion). asked.stage) (option_map (λ (stage : Stage). record { stage = stage; question = question_of s item stage }) next) ≡ next
same_stage s item None = refl
same_stage s item (Some stage) = refl

next_asks : (outcome : Outcome) (item : Option Item) (next : Option NextQuestion) → next ≡ asked_by item outcome → asks_news (option_map (λ (asked : NextQuestion). asked.stage) next) ≡ asks_news outcome.next
next_asks outcome item next is =
    ap (λ (n : Option NextQuestion). asks_news (option_map (λ (asked : NextQuestion). asked.stage) n)) is ∙ ap asks_news (same_stage outcome.session item outcome.next)

going : (outcome : Outcome) (hash : Hash256) → asks_news outcome.next ≡ true → outcome.session.resume_from ≡ Some hash → wants_none outcome.session.fetch ≡ true → resuming outcome ≡ resumed hash outcome
unfolding resuming
going outcome hash news at none =
    ap (λ (b : Bool). cond b (resumes outcome.session.resume_from outcome) outcome) news
    ∙ ap (λ (rest : Option Hash256). resumes rest outcome) at
    ∙ ap (λ (b : Bool). cond b (resumed hash outcome) outcome) none

going_of : (outcome : Outcome) (item : Option Item) (s : SessionState) (hash : Hash256) (sent : List Message) (next : Option NextQuestion) → asks_news (option_map (λ (asked : NextQuestion). asked.stage) next) ≡ true → s.resume_from ≡ Some hash → wants_none s.fetch ≡ true
    → Makes outcome item s sent next → resuming outcome ≡ resumed hash outcome
going_of outcome item s hash sent next news at none made =
    going outcome hash (sym (next_asks outcome item next made.next_is) ∙ news) (ap (λ (t : SessionState). t.resume_from) (sym made.after) ∙ at) (ap (λ (t : SessionState). wants_none t.fetch) (sym made.after) ∙ none)

-- Where headers are requested something is sent.
pub not_silent : {P : Type 0} (outcome : Outcome) (item : Option Item) (s : SessionState) (hash : Hash256) (sent : List Message) (next : Option NextQuestion) → asks_news (option_map (λ (asked : NextQuestion). asked.stage) next) ≡ true → s.resume_from ≡ Some hash → wants_none s.fetch ≡ true
    → Makes outcome item s sent next → (resuming outcome).messages ≡ [] → P
not_silent outcome item s hash sent next news at none made silent =
    absurd (not_empty outcome.messages (asking_headers (hash ∷ [])) (ap (λ (o : Outcome). o.messages) (sym (going_of outcome item s hash sent next news at none made)) ∙ silent))
