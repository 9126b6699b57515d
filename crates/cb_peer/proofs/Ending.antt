-- The end of an item, after its answer.
use Rattle.std.proofs.Common.{◌≡◌, [], Option, ap}
use Rattle.cb_hall.specs.declared.answer.Answer.{Answer}
use Rattle.cb_hall.specs.declared.answer.Answer.TheVariants as answers
use Rattle.cb_wire.specs.declared.item.Item.{Item}
use Rattle.cb_peer_state.specs.declared.session_state.SessionState.{SessionState}
use Rattle.cb_peer_state.specs.declared.stage.Stage.{Stage}
use Rattle.cb_peer_state.specs.Outcomes.{IsLightOutcome}
use Rattle.cb_peer_state.specs.Replying.{answered, replied, resuming}
use Rattle.cb_peer_state.proofs.Resuming.{resuming_light}

pub answered_light : (s : SessionState) (item : Option Item) (stage : Stage) (answer : Answer) → IsLightOutcome (answered s item stage answer) → IsLightOutcome (replied s item stage answer)
unfolding answered
answered_light s item stage answer light = resuming_light (replied s item stage answer) light

pub kicked_silent : (s : SessionState) (item : Option Item) (stage : Stage) (answer : Answer) → answer ≡ answers.Kicked → (resuming (replied s item stage answer)).messages ≡ []
unfolding resuming replied
kicked_silent s item stage answer kicked = ap (λ (a : Answer). (resuming (replied s item stage a)).messages) kicked
