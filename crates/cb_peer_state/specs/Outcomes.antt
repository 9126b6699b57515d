-- How the result of a function is compared with the outcome of a message or an answer.
use Rattle.std.specs.Prelude.{◌≡◌, Bool, true, false, List, [], ◌∷◌, Option, Some, None, option_map}
use Rattle.cb_hall.specs.declared.question.Question.{Question}
use Rattle.cb_wire.specs.declared.item.Item.{Item}
use Rattle.cb_wire.specs.declared.message.Message.{Message}
use Rattle.cb_peer_state.specs.declared.stage.Stage.{Stage}
use Rattle.cb_peer_state.specs.declared.stage.Stage.TheVariants.{About, Fresh}
use Rattle.cb_peer_state.specs.declared.stage.Subject.TheVariants as subjects
use Rattle.cb_peer_state.specs.declared.reaction.NextQuestion.{NextQuestion}
use Rattle.cb_peer_state.specs.Questions.{question_of}
use Rattle.cb_peer_state.specs.Receiving.{Outcome}
use Rattle.cb_peer_state.specs.Session.{Stepped}
use Rattle.cb_peer_state.specs.declared.session_state.SessionState.{SessionState}

abbrev pub as_list : {A : Type 0} → Option A → List A
as_list None = []
as_list (Some one) = one ∷ []

-- The next question for an item, if there is one.
abbrev pub asked_by : Option Item → Outcome → Option NextQuestion
asked_by item outcome =
    option_map
    (λ stage. record { stage = stage; question = question_of outcome.session item stage })
    outcome.next

-- The session, the messages and the question are those of the outcome for the item.
pub record Makes (outcome : Outcome) (item : Option Item) (session : SessionState)
    (sent : List Message) (next : Option NextQuestion) : Type 0 where
  pub after : session ≡ outcome.session
  pub messages : sent ≡ outcome.messages
  pub next_is : next ≡ asked_by item outcome

-- The result of a call is that of the step.
pub record Answers (step : Stepped) (session : SessionState) (sent : List Message)
    (asked : Option Question) : Type 0 where
  pub after : session ≡ step.session
  pub messages : sent ≡ step.messages
  pub question : asked ≡ step.question

-- Nothing is asked, or only for the locator or what is new.
abbrev pub is_light_stage : Option Stage → Bool
is_light_stage None = true
is_light_stage (Some Fresh) = true
is_light_stage (Some (About subjects.Locator)) = true
is_light_stage (Some other) = false

-- Nothing is sent, and nothing is asked but for the locator or what is new.
abbrev pub IsLightOutcome : Outcome → Type 0
IsLightOutcome outcome = (outcome.messages ≡ []) × (is_light_stage outcome.next ≡ true)
