-- Which answers fit the question that is open.
use Rattle.std.proofs.Common.{◌≡◌, Option, refl}
use Rattle.cb_hall.specs.declared.answer.Answer.{Answer}
use Rattle.cb_hall.specs.declared.answer.Answer.TheVariants as answers
use Rattle.cb_wire.specs.declared.item.Item.{Item}
use Rattle.cb_peer_state.specs.declared.session_state.SessionState.{SessionState}
use Rattle.cb_peer_state.specs.declared.stage.Stage.{Stage}
use Rattle.cb_peer_state.specs.declared.stage.Stage.TheVariants.{Admit, About, Match, Give, Wanted, Fresh}
use Rattle.cb_peer_state.specs.declared.stage.Subject.TheVariants as subjects
use Rattle.cb_peer_state.specs.Questions.{fits, is_met, question_of}

-- The answers that fit a question are those that its stage waits for.
pub fits_met : (s : SessionState) (item : Option Item) (stage : Stage) (answer : Answer) → fits (question_of s item stage) answer ≡ is_met stage answer
fits_met s item stage answers.Kicked = refl
fits_met s item Admit other = refl
fits_met s item (About subjects.Headers) other = refl
fits_met s item (About subjects.Locator) other = refl
fits_met s item (About subjects.Inventory) other = refl
fits_met s item (About subjects.Tx) other = refl
fits_met s item (About subjects.Block) other = refl
fits_met s item (About subjects.Items) other = refl
fits_met s item (About subjects.After) other = refl
fits_met s item (About subjects.Places) other = refl
fits_met s item Match other = refl
fits_met s item (Give block) other = refl
fits_met s item Wanted other = refl
fits_met s item Fresh other = refl
