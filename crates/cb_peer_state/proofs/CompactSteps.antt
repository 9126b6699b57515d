-- A step, by what it does with its event.
use Rattle.std.proofs.Common.{◌≡◌, Bool, true, false, cond, List, [], Option, Some, None, refl}
use Rattle.std.specs.Prelude.{not}
use Rattle.cb_peer_state.specs.Fetching.{is_due}
use Rattle.cb_hall.specs.declared.answer.Answer.{Answer}
use Rattle.cb_wire.specs.declared.item.Item.{Item}
use Rattle.cb_wire.specs.declared.message.Message.{Message}
use Rattle.cb_peer_state.specs.declared.event.Event.{Event}
use Rattle.cb_peer_state.specs.declared.event.Event.TheVariants as events
use Rattle.cb_peer_state.specs.declared.pending.Pending.{Pending}
use Rattle.cb_peer_state.specs.declared.session_state.SessionState.{SessionState}
use Rattle.cb_peer_state.specs.declared.stage.Stage.TheVariants.{Admit, Wanted, Fresh}
use Rattle.cb_peer_state.specs.declared.state.CloseReason.{CloseReason}
use Rattle.cb_peer_state.specs.declared.state.CloseReason.TheVariants as reasons
use Rattle.cb_peer_state.specs.declared.state.State.{State}
use Rattle.cb_peer_state.specs.declared.state.State.TheVariants.{Start, Greeted, Ready, Closed}
use Rattle.cb_peer_state.specs.Questions.{fits, question_of}
use Rattle.cb_peer_state.specs.Receiving.{Outcome, asks, ends, sends}
use Rattle.cb_peer_state.specs.Replying.{answered}
use Rattle.cb_peer_state.specs.Session.{Stepped, arrives, closes, for_item, open_step, pinged, stays, step_of, told}
use Rattle.cb_peer_state.specs.State.{freed, is_closed, is_ready}

pub ready_is : (state : State) → is_ready state ≡ true → state ≡ Ready
ready_is Start e = absurd cc
ready_is Greeted e = absurd cc
ready_is Ready e = refl
ready_is (Closed why) e = absurd cc

pub ready_open : (state : State) → is_ready state ≡ true → is_closed state ≡ false
ready_open Start e = absurd cc
ready_open Greeted e = absurd cc
ready_open Ready e = refl
ready_open (Closed why) e = absurd cc

pub by_test : {A : Type 0} (P : A → Type 0) (test : Bool) (x y : A) → (test ≡ true → P x) → (test ≡ false → P y) → P (cond test x y)
by_test P true x y one other = one refl
by_test P false x y one other = other refl

-- the end of an item
pub ends_by : (P : Outcome → Type 0) (s : SessionState) (sent : List Message) → P (sends s sent) → P (asks s sent Wanted) → P (asks s sent Fresh) → P (ends s sent)
unfolding ends
ends_by P s sent idle due fresh =
    by_test P (not (is_ready s.state)) (sends s sent) (cond (is_due s.fetch) (asks s sent Wanted) (asks s sent Fresh)) (λ _. idle)
    (λ _. by_test P (is_due s.fetch) (asks s sent Wanted) (asks s sent Fresh) (λ _. due) (λ _. fresh))

pub end_session : (s : SessionState) (sent : List Message) → (ends s sent).session ≡ s
end_session s sent = ends_by (λ (outcome : Outcome). outcome.session ≡ s) s sent refl refl refl

pub sent_at_end : (s : SessionState) (sent : List Message) → (ends s sent).messages ≡ sent
sent_at_end s sent = ends_by (λ (outcome : Outcome). outcome.messages ≡ sent) s sent refl refl refl

-- an answer is ignored, or handled
abbrev pub ByAnswer : (Stepped → Type 0) → SessionState → Answer → Type 0
ByAnswer P s answer = (pending : Pending) → s.pending ≡ Some pending → fits (question_of s pending.item pending.stage) answer ≡ true → is_closed s.state ≡ false → P (for_item pending.item (answered (freed s) pending.item pending.stage answer))

pending_by : (P : Stepped → Type 0) (s : SessionState) (answer : Answer) (pending : Option Pending) → P (stays s) → ByAnswer P s answer → s.pending ≡ pending → is_closed s.state ≡ false → P (told pending s answer)
pending_by P s answer None idle handled e going = idle
pending_by P s answer (Some pending) idle handled e going =
    by_test P (fits (question_of s pending.item pending.stage) answer) (for_item pending.item (answered (freed s) pending.item pending.stage answer)) (stays s) (λ fit. handled pending e fit going) (λ _. idle)

pub told_by : (P : Stepped → Type 0) (s : SessionState) (answer : Answer) → P (stays s) → ByAnswer P s answer → P (step_of s (events.Told answer))
unfolding step_of open_step
told_by P s answer idle handled =
    by_test P (is_closed s.state) (stays s) (told s.pending s answer) (λ _. idle) (λ going. pending_by P s answer s.pending idle handled refl going)

-- an item or a tick waits to be let in, unless a question is open
arrives_by : (P : Stepped → Type 0) (s : SessionState) (pending : Option Pending) (item : Option Item) → P (stays s) → P (for_item item (asks s [] Admit)) → P (arrives pending s item)
arrives_by P s None item idle waits = waits
arrives_by P s (Some pending) item idle waits = idle

opened_by : (P : Stepped → Type 0) (s : SessionState) (event : Event) → is_closed s.state ≡ false → P (stays s) → P (pinged s) → ((why : CloseReason) → P (closes why s)) → ((item : Option Item) → P (for_item item (asks s [] Admit))) → ((answer : Answer) → ByAnswer P s answer) → P (open_step s event)
unfolding open_step
opened_by P s (events.Said item) going idle pings over waits handled = arrives_by P s s.pending (Some item) idle (waits (Some item))
opened_by P s (events.Broken fault) going idle pings over waits handled = over reasons.BadStream
opened_by P s events.Tick going idle pings over waits handled = arrives_by P s s.pending None idle (waits None)
opened_by P s events.Probe going idle pings over waits handled = by_test P (is_ready s.state) (pinged s) (stays s) (λ _. pings) (λ _. idle)
opened_by P s (events.Told answer) going idle pings over waits handled = pending_by P s answer s.pending idle (handled answer) refl going
opened_by P s events.ReaderEnd going idle pings over waits handled = over reasons.Bye
opened_by P s events.NoMemory going idle pings over waits handled = over reasons.Memory
opened_by P s events.HallFull going idle pings over waits handled = over reasons.HallFull
opened_by P s events.WriteFault going idle pings over waits handled = over reasons.WriteFault

pub step_by : (P : Stepped → Type 0) (s : SessionState) (event : Event) → P (stays s) → P (pinged s) → ((why : CloseReason) → P (closes why s)) → ((item : Option Item) → P (for_item item (asks s [] Admit))) → ((answer : Answer) → ByAnswer P s answer) → P (step_of s event)
unfolding step_of
step_by P s event idle pings over waits handled =
    by_test P (is_closed s.state) (stays s) (open_step s event) (λ _. idle) (λ going. opened_by P s event going idle pings over waits handled)
