-- Where nothing is sent and nothing asked but what is new.
use Rattle.std.proofs.Common.{◌≡◌, ℕ, Bool, true, false, cond, List, [], ◌∷◌, Option, Some, None, length, refl, sym, ap, subst, ◌∙◌}
use Rattle.std.specs.Prelude.{◌||◌, not, option_map, MatchOption}
use Rattle.std.specs.List.{list_any, slice_get}
use Rattle.cb_base.specs.declared.fault.Fault.{Fault}
use Rattle.cb_base.specs.declared.fault.Fault.TheVariants as faults
use Rattle.cb_base.specs.declared.hash.Hash256.{Hash256}
use Rattle.cb_block.specs.declared.header.Header.{Header}
use Rattle.cb_chain.specs.Entries.{block_hash}
use Rattle.cb_hall.specs.declared.answer.Answer.{Answer}
use Rattle.cb_hall.specs.declared.answer.Answer.TheVariants as answers
use Rattle.cb_hall.specs.declared.question.Question.{Question}
use Rattle.cb_wire.specs.declared.inventory.Inventory.{Inventory}
use Rattle.cb_peer_state.specs.Inventory.{asking_headers}
use Rattle.cb_wire.specs.declared.item.Item.{Item}
use Rattle.cb_wire.specs.declared.message.Message.{Message}
use Rattle.cb_wire.specs.declared.message.Message.TheVariants as messages
use Rattle.cb_peer_state.specs.declared.stage.Stage.{Stage}
use Rattle.cb_peer_state.specs.declared.stage.Stage.TheVariants.{Admit, About, Match, Give, Wanted, Fresh}
use Rattle.cb_peer_state.specs.declared.stage.Subject.{Subject}
use Rattle.cb_peer_state.specs.declared.stage.Subject.TheVariants as subjects
use Rattle.cb_peer_state.specs.declared.pending.Pending.{Pending}
use Rattle.cb_peer_state.specs.declared.event.Event.TheVariants as events
use Rattle.cb_peer_state.specs.Questions.{fits, is_nil, question_of}
use Rattle.cb_peer_state.specs.Outcomes.{Answers, IsLightOutcome, as_list, is_light_stage}
use Rattle.cb_peer_state.specs.Receiving.{ends, last_hash, received}
use Rattle.cb_peer_state.specs.Replying.{answered, is_block, replied, taken_told, orphaned, search, seeks}
use Rattle.cb_peer_state.specs.Session.{Stepped, for_item, is_light, spares, spares_pending, stays, told, weighs_at}
use Rattle.cb_peer_state.specs.declared.session_state.SessionState.{SessionState}
use Rattle.cb_peer_state.specs.State.{freed, remembers, unless_remembered, seeking}
use Rattle.cb_peer_state.proofs.Cases.{sent_at_end}

-- a message that is sent isn't nothing
pub some_sent : {P : Type 0} (s : SessionState) (message : Message) (others : List Message) → IsLightOutcome (ends s (message ∷ others)) → P
some_sent s message others light = absurd (let e : message ∷ others ≡ [] = sym (sent_at_end s (message ∷ others)) ∙ light.0 in cc)

pub ping_sent : {P : Type 0} (s : SessionState) (message : Message) (nonce : ℕ) → message ≡ messages.Ping nonce → IsLightOutcome (received s message) → P
unfolding received
ping_sent s message nonce same light = some_sent s (messages.Pong nonce) [] (subst (λ (m : Message). IsLightOutcome (received s m)) same light)

-- headers are requested unless one is remembered
pub headers_sent : {P : Type 0} (s : SessionState) (locator : List Hash256) → remembers s ≡ false → IsLightOutcome (ends s (unless_remembered s (asking_headers locator ∷ []))) → P
headers_sent s locator free light = some_sent s (asking_headers locator) [] (subst (λ (b : Bool). IsLightOutcome (ends s (cond b [] (asking_headers locator ∷ [])))) free light)

pub seeks_silent : (s : SessionState) (locator : List Hash256) → IsLightOutcome (seeks s locator) → search true s locator ≡ []
seeks_silent s locator light = sym (sent_at_end (seeking true s) (search true s locator)) ∙ light.0

pub taken_light : (s : SessionState) (header : Option Header) (refused : Option Fault) (locator : List Hash256) (fault : Fault) → refused ≡ Some fault → fault ≡ faults.NoParent → IsLightOutcome (taken_told s header refused locator)
    → IsLightOutcome (orphaned s header locator)
unfolding taken_told
taken_light s header refused locator fault is parent light = subst (λ (r : Option Fault). IsLightOutcome (taken_told s header r locator)) (is ∙ ap (λ (f : Fault). Some f) parent) light

-- no block is among no entries
pub none_named : {P : Type 0} (entries : List Inventory) (found : Bool) → not (is_nil entries) ≡ false → found ≡ list_any is_block entries → found ≡ true → P
none_named [] found none is named = absurd (let e : true ≡ false = sym named ∙ is in cc)
none_named (first ∷ others) found none is named = absurd cc

pub locator_light : (s : SessionState) (item : Option Item) (subject : Subject) (answer : Answer) (locator : List Hash256) → answer ≡ answers.Locator locator → IsLightOutcome (replied s item (About subject) answer)
    → IsLightOutcome (ends s (unless_remembered s (asking_headers locator ∷ [])))
unfolding replied
locator_light s item subject answer locator is light = subst (λ (a : Answer). IsLightOutcome (replied s item (About subject) a)) is light

pub following_sent : {P : Type 0} (s : SessionState) (item : Option Item) (subject : Subject) (answer : Answer) (headers : List Header) → answer ≡ answers.Following headers → IsLightOutcome (replied s item (About subject) answer) → P
unfolding replied
following_sent s item subject answer headers is light = some_sent s (messages.Headers headers) [] (subst (λ (a : Answer). IsLightOutcome (replied s item (About subject) a)) is light)

-- ---- the last header

pub last_is : (first : Header) (others : List Header) (header : Header) → slice_get (first ∷ others) (length others) ≡ Some header → block_hash header ≡ last_hash first others
last_is first [] header is = (let e : first ≡ header = cc in ap block_hash (sym e))
last_is first (next ∷ others) header is = last_is next others header is

-- ---- what is pending and is met

light_stage : (s : SessionState) (item : Option Item) (next : Option Stage) → is_light (option_map (question_of s item) next) ≡ true → is_light_stage next ≡ true
light_stage s item None e = refl
light_stage s item (Some Fresh) e = refl
light_stage s item (Some Admit) e = absurd cc
light_stage s item (Some Match) e = absurd cc
light_stage s item (Some (Give block)) e = absurd cc
light_stage s item (Some Wanted) e = absurd cc
light_stage s item (Some (About subjects.Headers)) e = absurd cc
light_stage s item (Some (About subjects.Locator)) e = refl
light_stage s item (Some (About subjects.Inventory)) e = absurd cc
light_stage s item (Some (About subjects.Tx)) e = absurd cc
light_stage s item (Some (About subjects.Block)) e = absurd cc
light_stage s item (Some (About subjects.Items)) e = absurd cc
light_stage s item (Some (About subjects.After)) e = absurd cc
light_stage s item (Some (About subjects.Places)) e = absurd cc

met_is : (s : SessionState) (pending : Pending) (answer : Answer) → s.pending ≡ Some pending → fits (question_of s pending.item pending.stage) answer ≡ true
    → told s.pending s answer ≡ for_item pending.item (answered (freed s) pending.item pending.stage answer)
met_is s pending answer waiting met =
    ap (λ (pending' : Option Pending). told pending' s answer) waiting
    ∙ ap (λ (b : Bool). cond b (for_item pending.item (answered (freed s) pending.item pending.stage answer)) (stays s)) met

pub told_met : (s : SessionState) (pending : Pending) (answer : Answer) (session : SessionState) (sent : List Message) (asked : Option Question) → s.pending ≡ Some pending → fits (question_of s pending.item pending.stage) answer ≡ true
    → Answers (for_item pending.item (answered (freed s) pending.item pending.stage answer)) session sent asked → Answers (told s.pending s answer) session sent asked
told_met s pending answer session sent asked waiting met made = subst (λ (step : Stepped). Answers step session sent asked) (sym (met_is s pending answer waiting met)) made

pub told_light : (s : SessionState) (pending : Pending) (answer : Answer) → s.pending ≡ Some pending → fits (question_of s pending.item pending.stage) answer ≡ true → (told s.pending s answer).messages ≡ []
    → is_light (told s.pending s answer).question ≡ true → IsLightOutcome (answered (freed s) pending.item pending.stage answer)
told_light s pending answer waiting met silent light =
    let same = met_is s pending answer waiting met in
    let outcome = answered (freed s) pending.item pending.stage answer in (
      sym (ap (λ (step : Stepped). step.messages) same) ∙ silent,
      light_stage outcome.session pending.item outcome.next (sym (ap (λ (step : Stepped). is_light step.question) same) ∙ light),
    )

weighs_not : (met weighs : Bool) → met ≡ true → (not met || not weighs) ≡ true → weighs ≡ false
weighs_not true false is spare = refl
weighs_not true true is spare = absurd cc
weighs_not false weighs is spare = absurd cc

-- an answer that fits
pub spared : (s : SessionState) (pending : Pending) (answer : Answer) → s.pending ≡ Some pending → fits (question_of s pending.item pending.stage) answer ≡ true
    → spares s (events.Told answer) ≡ true → weighs_at (freed s) pending.item pending.stage answer ≡ false
spared s pending answer waiting met spare =
    weighs_not (fits (question_of s pending.item pending.stage) answer) (weighs_at (freed s) pending.item pending.stage answer) met
    (sym (ap (λ (st : Option Pending). spares_pending st s answer) waiting) ∙ spare)

-- ---- a message that may be none

pub from_match : (made : Option Message) (sent others : List Message) → MatchOption made (sent ≡ []) (λ message. sent ≡ message ∷ []) → sent ≡ others → as_list made ≡ others
from_match None sent others none same = sym none ∙ same
from_match (Some message) sent others one same = sym one ∙ same
