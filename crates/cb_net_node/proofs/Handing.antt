-- The law of a link, call by call.
use Rattle.std.proofs.Common.{◌≡◌, Bool, true, false, List, [], ◌∷◌, ◌++◌, refl, sym, ap, subst, ◌∙◌, append_assoc, inl, inr}
use Rattle.std.specs.Prelude.{map, not}
use Rattle.std.proofs.lemmas.Bool.{and_parts}
use Rattle.std.specs.List.{All}
use Rattle.std.proofs.lemmas.List.{append-nil, map-append}
use Rattle.std.proofs.lemmas.List.Elements.{All-nil, All-push}
use Rattle.cb_wire.specs.declared.message.Message.{Message}
use Rattle.cb_hall.specs.Badge.{BadgeState}
use Rattle.cb_hall.specs.Histories.{Reply}
use Rattle.cb_peer_state.specs.declared.event.Event.{Event}
use Rattle.cb_peer_state.specs.declared.event.Event.TheVariants as events
use Rattle.cb_peer_state.specs.declared.settings.Settings.{Settings}
use Rattle.cb_peer_state.specs.State.{is_closed}
use Rattle.cb_trace.specs.declared.trace.TraceEntry.{TraceEntry}
use Rattle.cb_peer_state.specs.declared.session_state.SessionState.{SessionState}
use Rattle.cb_peer_state.specs.Session.{openings}
use Rattle.cb_trace.specs.Fold.{account_of, inputs_of, sends}
use Rattle.cb_trace.specs.Trace.{IsOpen, StandsFor, TraceView}
use Rattle.cb_session.specs.Conversation.{IsAnswered, beat_in, input_in}
use Rattle.cb_net_node.specs.Talks.{Breaks, GoesOn, Moment, Sends, moment}
use Rattle.cb_net_node.specs.Ends.{Begins, Closes, Fails, HeardEnd, Misses, said, with_hall}
use Rattle.cb_net_node.specs.Link.{AddUp, AreBegun, AreHandedOver, FailsAt, GivesAt, HearsAt, IsLast, IsLink, IsSameSession, LinkView, MissesAt, end_at, is_open_at}
use Rattle.cb_net_node.specs.declared.end.End.{End}
use Rattle.cb_net_node.specs.declared.end.Start.{Start}
use Rattle.cb_net_node.specs.declared.ends.Ends.{Ends}
use Rattle.cb_net_node.specs.declared.side.Side.{Side}
use Rattle.cb_net_node.specs.declared.side.Side.TheVariants.{First, Second}
use Rattle.cb_net_node.proofs.Talking.{IsTelling, breaks_ran, talks_plain, talks_rest, talks_then}

-- ---- one direction

pub handed_as : (lasts : Bool) (sent sent' waiting waiting' : List Message) (inputs inputs' : List Event) → sent' ≡ sent → waiting' ≡ waiting → inputs' ≡ inputs
    → AreHandedOver lasts sent waiting inputs → AreHandedOver lasts sent' waiting' inputs'
handed_as lasts sent sent' waiting waiting' inputs inputs' a b c h =
    subst (λ (s : List Message). AreHandedOver lasts s waiting' inputs') (sym a)
    (subst (λ (w : List Message). AreHandedOver lasts sent w inputs') (sym b)
    (subst (λ (i : List Event). AreHandedOver lasts sent waiting i) (sym c) h))

-- more is sent
pub handed_sent : (sent waiting more : List Message) (inputs : List Event) → AreHandedOver true sent waiting inputs → AreHandedOver true (sent ++ more) (waiting ++ more) inputs
handed_sent sent waiting more inputs h =
    record {
      given = h.given;
      last = h.last;
      inputs_are = h.inputs_are;
      ends = h.ends;
      add_up = sym (append_assoc h.given waiting more) ∙ ap (λ (l : List Message). l ++ more) h.add_up;
    }

-- the first one is given
pub handed_one : (sent waiting : List Message) (message : Message) (inputs : List Event) → AreHandedOver true sent (message ∷ waiting) inputs → AreHandedOver true sent waiting (inputs ++ said message ∷ [])
handed_one sent waiting message inputs h =
    record {
      given = h.given ++ message ∷ [];
      last = [];
      inputs_are =
          ap (λ (l : List Event). l ++ said message ∷ []) (h.inputs_are ∙ ap (λ (l : List Event). map said h.given ++ l) h.ends ∙ append-nil (map said h.given))
          ∙ sym (map-append said h.given (message ∷ []))
          ∙ sym (append-nil (map said (h.given ++ message ∷ [])));
      ends = refl;
      add_up = append_assoc h.given (message ∷ []) waiting ∙ h.add_up;
    }

-- what is on its way is lost, and so may be what is sent then
pub lost_parts : (lasts : Bool) (given waiting sent more : List Message) → AddUp lasts given waiting sent → AddUp false given [] (sent ++ more)
lost_parts true given waiting sent more e = (waiting ++ more, sym (append_assoc given waiting more) ∙ ap (λ (l : List Message). l ++ more) e)
lost_parts false given waiting sent more p = (p.0 ++ more, sym (append_assoc given p.0 more) ∙ ap (λ (l : List Message). l ++ more) p.1)

pub last_still : (lasts : Bool) (last : List Event) → IsLast lasts last → IsLast false last
last_still true last e = subst (λ (l : List Event). All (λ (event : Event). event ≡ events.ReaderEnd) l) (sym e) (All-nil (λ (event : Event). event ≡ events.ReaderEnd))
last_still false last a = a

pub handed_lost : (lasts : Bool) (sent waiting waiting' more : List Message) (inputs : List Event) → AreHandedOver lasts sent waiting inputs → AreHandedOver false (sent ++ more) waiting' inputs
handed_lost lasts sent waiting waiting' more inputs h =
    record {
      given = h.given;
      last = h.last;
      inputs_are = h.inputs_are;
      ends = last_still lasts h.last h.ends;
      add_up = lost_parts lasts h.given waiting sent more h.add_up;
    }

-- and the session hears the end of its stream
pub handed_end : (lasts : Bool) (sent waiting : List Message) (inputs : List Event) → AreHandedOver lasts sent waiting inputs → AreHandedOver false sent [] (inputs ++ events.ReaderEnd ∷ [])
handed_end lasts sent waiting inputs h =
    record {
      given = h.given;
      last = h.last ++ events.ReaderEnd ∷ [];
      inputs_are = ap (λ (l : List Event). l ++ events.ReaderEnd ∷ []) h.inputs_are ∙ append_assoc (map said h.given) h.last (events.ReaderEnd ∷ []);
      ends = All-push (λ (event : Event). event ≡ events.ReaderEnd) h.last events.ReaderEnd (last_still lasts h.last h.ends) refl;
      add_up = subst (λ (l : List Message). AddUp false h.given [] l) (append-nil sent) (lost_parts lasts h.given waiting sent [] h.add_up);
    }

-- ---- a call at the first side, of a link that lasts

abbrev pub link : Bool → Ends → LinkView
link lasts ends = record { ends = ends; lasts = lasts }

same_trace : (old new : End) → IsSameSession old new → new.trace ≡ old.trace
same_trace old new e = ap (λ (end : End). end.trace) e

-- what was given there, of what is on its way there
abbrev pub Delivers : List Message → List Message → List Event → Type 0
Delivers waiting waiting' inputs = (sent : List Message) (before : List Event) → AreHandedOver true sent waiting before → AreHandedOver true sent waiting' (before ++ inputs)

pub link_on : {H : Type 0} (told : H → BadgeState → List Reply → H → BadgeState → Type 0) (old new : Ends) (hall hall' : H) (inputs beats : List Event)
    → Sends told (with_hall old.first hall) (with_hall new.first hall') inputs beats old.second.inbox new.second.inbox → IsSameSession old.second new.second → IsAnswered new.first.trace
    → Delivers old.first.inbox new.first.inbox inputs → IsLink (link true old) → IsLink (link true new)
link_on told old new hall hall' inputs beats s same answered delivers l =
    let on : GoesOn told l.first (with_hall old.first hall) (with_hall new.first hall') inputs beats s.sent = s.talks.each l.first l.first_stands in
    let trace : new.second.trace ≡ old.second.trace = same_trace old.second new.second same in
    record {
      first = on.later;
      second = l.second;
      first_stands = on.stands;
      second_stands = subst (λ (t : TraceView). StandsFor t l.second) (sym trace) l.second_stands;
      to_first =
          handed_as true (sends old.second.trace.settings l.second) (sends new.second.trace.settings l.second) new.first.inbox new.first.inbox (inputs_of l.first ++ inputs) (inputs_of on.later)
          (ap (λ (t : TraceView). sends t.settings l.second) trace) refl on.inputs_are
          (delivers (sends old.second.trace.settings l.second) (inputs_of l.first) l.to_first);
      to_second =
          handed_as true (sends old.first.trace.settings l.first ++ s.sent) (sends new.first.trace.settings on.later) (old.second.inbox ++ s.sent) new.second.inbox (inputs_of l.second) (inputs_of l.second)
          (ap (λ (k : Settings). sends k on.later) s.talks.settings ∙ on.sends_are) s.behind refl
          (handed_sent (sends old.first.trace.settings l.first) old.second.inbox s.sent (inputs_of l.second) l.to_second);
      answered = λ lasts. (answered, subst (λ (t : TraceView). IsAnswered t) (sym trace) (l.answered refl).1);
    }

-- ---- the sides exchanged

abbrev pub swapped : Ends → Ends
swapped ends = record { first = ends.second; second = ends.first }

pub link_swapped : (lasts : Bool) (ends : Ends) → IsLink (link lasts ends) → IsLink (link lasts (swapped ends))
link_swapped lasts ends l =
    record {
      first = l.second;
      second = l.first;
      first_stands = l.second_stands;
      second_stands = l.first_stands;
      to_first = l.to_second;
      to_second = l.to_first;
      answered = λ e. ((l.answered e).1, (l.answered e).0);
    }

-- ---- calls, of a link that lasts

delivers_none : (waiting waiting' : List Message) (inputs : List Event) → waiting' ≡ waiting → inputs ≡ [] → Delivers waiting waiting' inputs
delivers_none waiting waiting' inputs w i sent before h =
    handed_as true sent sent waiting waiting' before (before ++ inputs) refl w (ap (λ (l : List Event). before ++ l) i ∙ append-nil before) h

delivers_one : (waiting waiting' : List Message) (message : Message) → waiting ≡ message ∷ waiting' → Delivers waiting waiting' (said message ∷ [])
delivers_one waiting waiting' message w sent before h =
    handed_one sent waiting' message before (subst (λ (l : List Message). AreHandedOver true sent l before) w h)

gives_first : {H : Type 0} (told : H → BadgeState → List Reply → H → BadgeState → Type 0) (event : Event) (old new : Ends) (hall hall' : H) → input_in event ≡ [] → GivesAt told First event old new hall hall' → IsLink (link true old) → IsLink (link true new)
gives_first told event old new hall hall' none g l =
    link_on told old new hall hall' (input_in event) (beat_in event) g.gives.sends g.neighbour g.gives.answered (delivers_none old.first.inbox new.first.inbox (input_in event) g.gives.inbox none) l

pub link_gives : {H : Type 0} (told : H → BadgeState → List Reply → H → BadgeState → Type 0) (side : Side) (event : Event) (old new : Ends) (hall hall' : H) → input_in event ≡ [] → GivesAt told side event old new hall hall' → IsLink (link true old) → IsLink (link true new)
link_gives told First event old new hall hall' none g l = gives_first told event old new hall hall' none g l
link_gives told Second event old new hall hall' none g l =
    link_swapped true (swapped new)
    (gives_first told event (swapped old) (swapped new) hall hall' none (record { gives = g.gives; neighbour = g.neighbour }) (link_swapped true old l))

hears_first : {H : Type 0} (told : H → BadgeState → List Reply → H → BadgeState → Type 0) (old new : Ends) (hall hall' : H) → HearsAt told First old new hall hall' → IsLink (link true old) → IsLink (link true new)
hears_first told old new hall hall' h l =
    link_on told old new hall hall' (said h.hears.message ∷ []) [] h.hears.sends h.neighbour h.hears.answered (delivers_one old.first.inbox new.first.inbox h.hears.message h.hears.first) l

pub link_hears : {H : Type 0} (told : H → BadgeState → List Reply → H → BadgeState → Type 0) (side : Side) (old new : Ends) (hall hall' : H) → HearsAt told side old new hall hall' → IsLink (link true old) → IsLink (link true new)
link_hears told First old new hall hall' h l = hears_first told old new hall hall' h l
link_hears told Second old new hall hall' h l =
    link_swapped true (swapped new)
    (hears_first told (swapped old) (swapped new) hall hall' (record { hears = h.hears; neighbour = h.neighbour }) (link_swapped true old l))

-- ---- calls that end a link

-- a session's history went on, and so what it was given is a beginning of what was sent
pub record WentOn (lasts : Bool) (waiting : List Message) (old new : TraceView) (history : List TraceEntry) : Type 0 where
  pub later : List TraceEntry
  pub stands : StandsFor new later
  pub more : List Message
  pub sends_are : sends old.settings later ≡ sends old.settings history ++ more
  pub handed : (sent : List Message) → AreHandedOver lasts sent waiting (inputs_of history) → AreHandedOver false sent [] (inputs_of later)

pub record Went (lasts : Bool) (waiting : List Message) (old new : TraceView) : Type 0 where
  pub settings : new.settings ≡ old.settings
  pub each : (history : List TraceEntry) → StandsFor old history → WentOn lasts waiting old new history

handed_more : (lasts : Bool) (sent sent' waiting waiting' more : List Message) (inputs inputs' : List Event) → sent' ≡ sent ++ more
    → ((s : List Message) → AreHandedOver lasts s waiting inputs → AreHandedOver false s [] inputs') → AreHandedOver lasts sent waiting inputs → AreHandedOver false sent' waiting' inputs'
handed_more lasts sent sent' waiting waiting' more inputs inputs' e hands h =
    subst (λ (s : List Message). AreHandedOver false s waiting' inputs') (sym e) (handed_lost false sent [] waiting' more inputs' (hands sent h))

pub link_ended : (lasts : Bool) (old new : Ends) → Went lasts old.first.inbox old.first.trace new.first.trace → Went lasts old.second.inbox old.second.trace new.second.trace → IsLink (link lasts old) → IsLink (link false new)
link_ended lasts old new one two l =
    let a : WentOn lasts old.first.inbox old.first.trace new.first.trace l.first = one.each l.first l.first_stands in
    let b : WentOn lasts old.second.inbox old.second.trace new.second.trace l.second = two.each l.second l.second_stands in
    record {
      first = a.later;
      second = b.later;
      first_stands = a.stands;
      second_stands = b.stands;
      to_first =
          handed_more lasts (sends old.second.trace.settings l.second) (sends new.second.trace.settings b.later) old.first.inbox new.first.inbox b.more (inputs_of l.first) (inputs_of a.later)
          (ap (λ (k : Settings). sends k b.later) two.settings ∙ b.sends_are) a.handed l.to_first;
      to_second =
          handed_more lasts (sends old.first.trace.settings l.first) (sends new.first.trace.settings a.later) old.second.inbox new.second.inbox a.more (inputs_of l.second) (inputs_of b.later)
          (ap (λ (k : Settings). sends k a.later) one.settings ∙ a.sends_are) b.handed l.to_second;
      answered = λ e. absurd (let clash : false ≡ true = e in cc);
    }

handed_still : (lasts : Bool) (sent waiting : List Message) (inputs : List Event) → AreHandedOver lasts sent waiting inputs → AreHandedOver false sent [] inputs
handed_still lasts sent waiting inputs h =
    subst (λ (s : List Message). AreHandedOver false s [] inputs) (append-nil sent) (handed_lost lasts sent waiting [] [] inputs h)

pub went_same : (lasts : Bool) (waiting : List Message) (old new : TraceView) → new ≡ old → Went lasts waiting old new
went_same lasts waiting old new e =
    record {
      settings = ap (λ (t : TraceView). t.settings) e;
      each = λ history h.
          record {
            later = history;
            stands = subst (λ (t : TraceView). StandsFor t history) (sym e) h;
            more = [];
            sends_are = sym (append-nil (sends old.settings history));
            handed = λ sent a. handed_still lasts sent waiting (inputs_of history) a;
          };
    }

pub went_with : {H : Type 0} (told : H → BadgeState → List Reply → H → BadgeState → Type 0) (lasts : Bool) (waiting : List Message) (old new : Moment H) (inputs beats : List Event) → Breaks told old new inputs beats
    → ((sent : List Message) (before : List Event) → AreHandedOver lasts sent waiting before → AreHandedOver false sent [] (before ++ inputs)) → Went lasts waiting old.trace new.trace
went_with told lasts waiting old new inputs beats b hands =
    record {
      settings = b.talks.settings;
      each = λ history h.
          let on : GoesOn told history old new inputs beats b.sent = b.talks.each history h in
          record {
            later = on.later;
            stands = on.stands;
            more = b.sent;
            sends_are = on.sends_are;
            handed = λ sent a. subst (λ (es : List Event). AreHandedOver false sent [] es) (sym on.inputs_are) (hands sent (inputs_of history) a);
          };
    }

pub went_none : {H : Type 0} (told : H → BadgeState → List Reply → H → BadgeState → Type 0) (lasts : Bool) (waiting : List Message) (old new : Moment H) (inputs beats : List Event) → inputs ≡ [] → Breaks told old new inputs beats → Went lasts waiting old.trace new.trace
went_none told lasts waiting old new inputs beats none b =
    went_with told lasts waiting old new inputs beats b
    (λ sent before h. subst (λ (es : List Event). AreHandedOver false sent [] es) (sym (ap (λ (l : List Event). before ++ l) none ∙ append-nil before)) (handed_still lasts sent waiting before h))

pub went_one : {H : Type 0} (told : H → BadgeState → List Reply → H → BadgeState → Type 0) (waiting waiting' : List Message) (message : Message) (old new : Moment H) (beats : List Event) → waiting ≡ message ∷ waiting' → Breaks told old new (said message ∷ []) beats → Went true waiting old.trace new.trace
went_one told waiting waiting' message old new beats first b =
    went_with told true waiting old new (said message ∷ []) beats b
    (λ sent before h. handed_still true sent waiting' (before ++ said message ∷ []) (delivers_one waiting waiting' message first sent before h))

-- a call that failed
pub fails_went : {H : Type 0} (told : H → BadgeState → List Reply → H → BadgeState → Type 0) (event : Event) (waiting : List Message) (old new : Moment H) → input_in event ≡ [] → Fails told old new event → Went true waiting old.trace new.trace
fails_went told event waiting old new none (inl b) = went_none told true waiting old new [] [] refl b.0
fails_went told event waiting old new none (inr b) = went_none told true waiting old new (input_in event) (beat_in event) none b

pub misses_went : {H : Type 0} (told : H → BadgeState → List Reply → H → BadgeState → Type 0) (old new : End) (hall hall' : H) → Misses told old new hall hall' → Went true old.inbox old.trace new.trace
misses_went told old new hall hall' m =
    elim m.breaks [
      | inl b ↦ went_none told true old.inbox (with_hall old hall) (with_hall new hall') [] [] refl b
      | inr b ↦ went_one told old.inbox new.inbox m.message (with_hall old hall) (with_hall new hall') [] m.first b
    ]

pub link_fails : {H : Type 0} (told : H → BadgeState → List Reply → H → BadgeState → Type 0) (side : Side) (event : Event) (old new : Ends) (hall hall' : H) → input_in event ≡ [] → FailsAt told side event old new hall hall' → IsLink (link true old) → IsLink (link false new)
link_fails told First event old new hall hall' none f l =
    link_ended true old new (fails_went told event old.first.inbox (with_hall old.first hall) (with_hall new.first hall') none f.fails)
    (went_same true old.second.inbox old.second.trace new.second.trace (same_trace old.second new.second f.neighbour)) l
link_fails told Second event old new hall hall' none f l =
    link_ended true old new (went_same true old.first.inbox old.first.trace new.first.trace (same_trace old.first new.first f.neighbour))
    (fails_went told event old.second.inbox (with_hall old.second hall) (with_hall new.second hall') none f.fails) l

pub link_misses : {H : Type 0} (told : H → BadgeState → List Reply → H → BadgeState → Type 0) (side : Side) (old new : Ends) (hall hall' : H) → MissesAt told side old new hall hall' → IsLink (link true old) → IsLink (link false new)
link_misses told First old new hall hall' m l =
    link_ended true old new (misses_went told old.first new.first hall hall' m.misses)
    (went_same true old.second.inbox old.second.trace new.second.trace (same_trace old.second new.second m.neighbour)) l
link_misses told Second old new hall hall' m l =
    link_ended true old new (went_same true old.first.inbox old.first.trace new.first.trace (same_trace old.first new.first m.neighbour))
    (misses_went told old.second new.second hall hall' m.misses) l

-- the end of a stream
abbrev pub anything : Unit {0} → BadgeState → List Reply → Unit {0} → BadgeState → Type 0
anything hall badge replies hall' badge' = Unit {0}

any_telling : IsTelling anything
any_telling = record { none = λ a x. tt; next = λ a b c x y z first later h k. tt }

pub closes_went : (lasts : Bool) (waiting : List Message) (badge : BadgeState) (old new : TraceView) → Closes old new → Went lasts waiting old new
closes_went lasts waiting badge old new (inl (inl over)) = went_same lasts waiting old new over.1
closes_went lasts waiting badge old new (inl (inr heard)) =
    let h : HeardEnd old new = heard.1 in
    went_with anything lasts waiting (moment old tt badge) (moment new tt badge) (events.ReaderEnd ∷ []) []
    (record {
      sent = _;
      talks =
          talks_then anything any_telling (moment old tt badge) (moment h.between tt badge) (moment new tt badge) [] (events.ReaderEnd ∷ []) [] [] [] _
          (talks_rest anything any_telling old h.between tt badge h.same)
          (talks_plain anything any_telling h.between new tt badge (record { event = events.ReaderEnd; starved = false }) refl h.grows);
    })
    (λ sent before a. handed_end lasts sent waiting before a)
closes_went lasts waiting badge old new (inr ran) =
    went_none anything lasts waiting (moment old tt badge) (moment new tt badge) [] [] refl (breaks_ran anything any_telling old new tt badge ran)

pub link_closes : (lasts : Bool) (old new : Ends) → Closes old.first.trace new.first.trace → Closes old.second.trace new.second.trace → IsLink (link lasts old) → IsLink (link false new)
link_closes lasts old new one two l =
    link_ended lasts old new (closes_went lasts old.first.inbox old.first.badge old.first.trace new.first.trace one)
    (closes_went lasts old.second.inbox old.second.badge old.second.trace new.second.trace two) l

-- ---- a link that begins

pub link_begun : (first second : Start) (ends : Ends) → AreBegun first second ends → IsLink (link true ends)
unfolding account_of
link_begun first second ends b =
    record {
      first = [];
      second = [];
      first_stands = b.one.stands;
      second_stands = b.two.stands;
      to_first = record { given = []; last = []; inputs_are = refl; ends = refl; add_up = b.to_first ∙ ap openings (sym b.two.settings) };
      to_second = record { given = []; last = []; inputs_are = refl; ends = refl; add_up = b.to_second ∙ ap openings (sym b.one.settings) };
      answered = λ lasts. (λ going. ap (λ (s : SessionState). s.pending) b.one.stands.session, λ going. ap (λ (s : SessionState). s.pending) b.two.stands.session);
    }

-- ---- what holds where the link lasts

not_true : (b : Bool) → not b ≡ true → b ≡ false
not_true true e = absurd (let clash : false ≡ true = e in cc)
not_true false e = refl

pub open_parts : (view : LinkView) (side : Side) → is_open_at view side ≡ true → (view.lasts ≡ true) × IsOpen (end_at view.ends side).trace
open_parts view side e =
    let parts = and_parts view.lasts (not (is_closed (end_at view.ends side).trace.session.state)) e in
    (parts.0, not_true (is_closed (end_at view.ends side).trace.session.state) parts.1)

-- of the fields behind a view
pub going_at : (lasts : Bool) (ends : Ends) (view : LinkView) (side : Side) → link lasts ends ≡ view → is_open_at view side ≡ true → IsOpen (end_at ends side).trace
going_at lasts ends view side same e = (open_parts (link lasts ends) side (ap (λ (v : LinkView). is_open_at v side) same ∙ e)).1

pub law_at : (lasts : Bool) (ends : Ends) (view : LinkView) (side : Side) → link lasts ends ≡ view → is_open_at view side ≡ true → IsLink (link lasts ends) → IsLink (link true ends)
law_at lasts ends view side same e l =
    subst (λ (b : Bool). IsLink (link b ends)) (open_parts (link lasts ends) side (ap (λ (v : LinkView). is_open_at v side) same ∙ e)).0 l

pub answered_at : (ends : Ends) (side : Side) → IsLink (link true ends) → IsAnswered (end_at ends side).trace
answered_at ends First l = (l.answered refl).0
answered_at ends Second l = (l.answered refl).1

pub begun_open : (first second : Start) (one two : End) (from_first from_second : List Message) (ends : Ends) → Begins first one → from_first ≡ openings first.settings → Begins second two → from_second ≡ openings second.settings
    → ends ≡ record { first = record one { inbox = one.inbox ++ from_second }; second = record two { inbox = two.inbox ++ from_first } } → AreBegun first second ends
begun_open first second one two from_first from_second ends a p b q e =
    subst (λ (x : Ends). AreBegun first second x) (sym e)
    (record {
      one = record { settings = a.settings; stands = a.stands; badge = a.badge; inbox = refl };
      two = record { settings = b.settings; stands = b.stands; badge = b.badge; inbox = refl };
      to_first = ap (λ (l : List Message). l ++ from_second) a.inbox ∙ q;
      to_second = ap (λ (l : List Message). l ++ from_first) b.inbox ∙ p;
    })
