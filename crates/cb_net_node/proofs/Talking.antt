-- What a session was given and sent, one entry after another.
use Rattle.std.proofs.Common.{◌≡◌, true, false, List, [], ◌∷◌, ◌++◌, Option, Some, None, refl, sym, ap, subst, ◌∙◌, append_assoc, inl, inr, ◌⊎◌}
use Rattle.std.specs.Prelude.{map, filter}
use Rattle.std.proofs.lemmas.List.{append-nil, map-append}
use Rattle.std.proofs.lemmas.List.Elements.{filter-append}
use Rattle.cb_base.specs.declared.fault.Fault.{Fault}
use Rattle.cb_wire.specs.declared.item.Item.{Item}
use Rattle.cb_wire.specs.declared.item.Item.TheVariants.{Good}
use Rattle.cb_wire.specs.declared.message.Message.{Message}
use Rattle.cb_hall.specs.declared.question.Question.{Question}
use Rattle.cb_hall.specs.Badge.{BadgeState}
use Rattle.cb_hall.specs.Histories.{Reply}
use Rattle.cb_peer_state.specs.declared.event.Event.{Event}
use Rattle.cb_peer_state.specs.declared.event.Event.TheVariants as events
use Rattle.cb_peer_state.specs.declared.session_state.SessionState.{SessionState}
use Rattle.cb_peer_state.specs.declared.settings.Settings.{Settings}
use Rattle.cb_peer_state.specs.Event.{begins, is_beat, is_input, is_told, kind_of}
use Rattle.cb_peer_state.specs.Questions.{pending_question}
use Rattle.cb_peer_state.specs.Session.{Stepped}
use Rattle.cb_trace.specs.declared.trace.TraceEntry.{TraceEntry}
use Rattle.cb_trace.specs.Fold.{Account, account_of, account_step, beats_of, inputs_of, replies, replies_to, sends}
use Rattle.cb_trace.specs.Trace.{Grows, IsAsBefore, Readied, TraceSteps, TraceView, next_step}
use Rattle.cb_trace.proofs.Folds.{account_of_more}
use Rattle.cb_trace.proofs.Traces.{next_is}
use Rattle.cb_session.specs.Conversation.{AnswerOf, beat_in, input_in}
use Rattle.cb_session.proofs.Accounts.{answer_changes}
use Rattle.cb_net_node.specs.Ends.{Fails, Misses, said, with_hall}
use Rattle.cb_net_node.specs.declared.end.End.{End}
use Rattle.cb_net_node.specs.Talks.{Breaks, GoesOn, Moment, Sends, Steps, StepsInto, Talks, moment}

-- what a hall tells, call by call
pub record IsTelling {H : Type 0} (told : H → BadgeState → List Reply → H → BadgeState → Type 0) : Type 0 where
  pub none : (a : H) (x : BadgeState) → told a x [] a x
  pub next : (a b c : H) (x y z : BadgeState) (first later : List Reply) → told a x first b y → told b y later c z → told a x (first ++ later) c z

-- ---- one entry

inputs_more : (entries : List TraceEntry) (entry : TraceEntry) → inputs_of (entries ++ entry ∷ []) ≡ inputs_of entries ++ input_in entry.event
inputs_more entries entry =
    ap (filter (λ (e : Event). is_input (kind_of e))) (map-append (λ (e : TraceEntry). e.event) entries (entry ∷ []))
    ∙ filter-append (λ (e : Event). is_input (kind_of e)) (map (λ (e : TraceEntry). e.event) entries) (entry.event ∷ [])

beats_more : (entries : List TraceEntry) (entry : TraceEntry) → beats_of (entries ++ entry ∷ []) ≡ beats_of entries ++ beat_in entry.event
beats_more entries entry =
    ap (filter (λ (e : Event). is_beat (kind_of e))) (map-append (λ (e : TraceEntry). e.event) entries (entry ∷ []))
    ∙ filter-append (λ (e : Event). is_beat (kind_of e)) (map (λ (e : TraceEntry). e.event) entries) (entry.event ∷ [])

pub talks_grown : {H : Type 0} (told : H → BadgeState → List Reply → H → BadgeState → Type 0) (old new : TraceView) (hall hall' : H) (badge badge' : BadgeState) (entry : TraceEntry)
    → Grows old new entry → told hall badge (replies_to (pending_question old.session) entry.event) hall' badge'
    → Talks told (moment old hall badge) (moment new hall' badge') (input_in entry.event) (beat_in entry.event) (next_step old entry).messages
talks_grown told old new hall hall' badge badge' entry g t =
    record {
      settings = g.settings;
      each = λ history h.
          let more : account_of old.settings (history ++ entry ∷ []) ≡ account_step (account_of old.settings history) entry = account_of_more old.settings history entry in
          record {
            more = entry ∷ [];
            later = history ++ entry ∷ [];
            parts = refl;
            stands = g.history history h;
            inputs_are = inputs_more history entry;
            beats_are = beats_more history entry;
            sends_are = ap (λ (a : Account). a.sent) more ∙ ap (λ (m : Stepped). sends old.settings history ++ m.messages) (sym (next_is old history entry h));
            answers = replies_to (pending_question old.session) entry.event;
            replies_are = ap (λ (a : Account). a.replies) more ∙ ap (λ (x : SessionState). replies old.settings history ++ replies_to (pending_question x) entry.event) (sym h.session);
            told_are = t;
          };
    }

pub talks_sent : {H : Type 0} (told : H → BadgeState → List Reply → H → BadgeState → Type 0) (old new : Moment H) (inputs beats : List Event) (sent sent' : List Message) → sent' ≡ sent → Talks told old new inputs beats sent → Talks told old new inputs beats sent'
talks_sent told old new inputs beats sent sent' e t = subst (λ (ms : List Message). Talks told old new inputs beats ms) (sym e) t

pub talks_step : {H : Type 0} (told : H → BadgeState → List Reply → H → BadgeState → Type 0) (old new : TraceView) (hall hall' : H) (badge badge' : BadgeState) (event : Event) (sent : List Message) (asked : Option Question)
    → TraceSteps old new event sent asked → told hall badge (replies_to (pending_question old.session) event) hall' badge'
    → Talks told (moment old hall badge) (moment new hall' badge') (input_in event) (beat_in event) sent
talks_step told old new hall hall' badge badge' event sent asked s t =
    talks_sent told (moment old hall badge) (moment new hall' badge') (input_in event) (beat_in event) _ sent s.messages
    (talks_grown told old new hall hall' badge badge' (record { event = event; starved = s.starved }) s.grows t)

-- ---- none, and one after the other

pub talks_rest : {H : Type 0} (told : H → BadgeState → List Reply → H → BadgeState → Type 0) → IsTelling told → (old new : TraceView) (hall : H) (badge : BadgeState) → IsAsBefore old new → Talks told (moment old hall badge) (moment new hall badge) [] [] []
talks_rest told telling old new hall badge r =
    record {
      settings = r.settings;
      each = λ history h.
          record {
            more = [];
            later = history;
            parts = sym (append-nil history);
            stands = r.history history h;
            inputs_are = sym (append-nil (inputs_of history));
            beats_are = sym (append-nil (beats_of history));
            sends_are = sym (append-nil (sends old.settings history));
            answers = [];
            replies_are = sym (append-nil (replies old.settings history));
            told_are = telling.none hall badge;
          };
    }

as_it_is : (trace : TraceView) → IsAsBefore trace trace
as_it_is trace = record { settings = refl; session = refl; total = refl; history = λ history h. h }

pub talks_none : {H : Type 0} (told : H → BadgeState → List Reply → H → BadgeState → Type 0) → IsTelling told → (trace : TraceView) (hall : H) (badge : BadgeState) → Talks told (moment trace hall badge) (moment trace hall badge) [] [] []
talks_none told telling trace hall badge = talks_rest told telling trace trace hall badge (as_it_is trace)

pub talks_then : {H : Type 0} (told : H → BadgeState → List Reply → H → BadgeState → Type 0) → IsTelling told → (a b c : Moment H) (i i' j j' : List Event) (s s' : List Message) → Talks told a b i j s → Talks told b c i' j' s' → Talks told a c (i ++ i') (j ++ j') (s ++ s')
talks_then told telling a b c i i' j j' s s' x y =
    record {
      settings = y.settings ∙ x.settings;
      each = λ history h.
          let one : GoesOn told history a b i j s = x.each history h in
          let two : GoesOn told one.later b c i' j' s' = y.each one.later one.stands in
          record {
            more = one.more ++ two.more;
            later = two.later;
            parts = two.parts ∙ ap (λ (l : List TraceEntry). l ++ two.more) one.parts ∙ append_assoc history one.more two.more;
            stands = two.stands;
            inputs_are = two.inputs_are ∙ ap (λ (l : List Event). l ++ i') one.inputs_are ∙ append_assoc (inputs_of history) i i';
            beats_are = two.beats_are ∙ ap (λ (l : List Event). l ++ j') one.beats_are ∙ append_assoc (beats_of history) j j';
            sends_are =
                ap (λ (k : Settings). sends k two.later) (sym x.settings) ∙ two.sends_are
                ∙ ap (λ (k : Settings). sends k one.later ++ s') x.settings
                ∙ ap (λ (l : List Message). l ++ s') one.sends_are ∙ append_assoc (sends a.trace.settings history) s s';
            answers = one.answers ++ two.answers;
            replies_are =
                ap (λ (k : Settings). replies k two.later) (sym x.settings) ∙ two.replies_are
                ∙ ap (λ (k : Settings). replies k one.later ++ two.answers) x.settings
                ∙ ap (λ (l : List Reply). l ++ two.answers) one.replies_are ∙ append_assoc (replies a.trace.settings history) one.answers two.answers;
            told_are = telling.next a.hall b.hall c.hall a.badge b.badge c.badge one.answers two.answers one.told_are two.told_are;
          };
    }

-- ---- what an event is no reply to

no_reply : (pending : Option Question) (event : Event) → is_told (kind_of event) ≡ false → replies_to pending event ≡ []
no_reply None event e = refl
no_reply (Some question) (events.Said item) e = refl
no_reply (Some question) (events.Broken fault) e = refl
no_reply (Some question) events.Tick e = refl
no_reply (Some question) events.Probe e = refl
no_reply (Some question) (events.Told answer) e = absurd cc
no_reply (Some question) events.ReaderEnd e = refl
no_reply (Some question) events.NoMemory e = refl
no_reply (Some question) events.HallFull e = refl
no_reply (Some question) events.WriteFault e = refl

begins_no_reply : (event : Event) → begins (kind_of event) ≡ true → is_told (kind_of event) ≡ false
begins_no_reply (events.Said item) e = refl
begins_no_reply (events.Broken fault) e = refl
begins_no_reply events.Tick e = refl
begins_no_reply events.Probe e = refl
begins_no_reply (events.Told answer) e = absurd cc
begins_no_reply events.ReaderEnd e = refl
begins_no_reply events.NoMemory e = absurd cc
begins_no_reply events.HallFull e = absurd cc
begins_no_reply events.WriteFault e = absurd cc

told_nothing : {H : Type 0} (told : H → BadgeState → List Reply → H → BadgeState → Type 0) → IsTelling told → (hall : H) (badge : BadgeState) (pending : Option Question) (event : Event) → is_told (kind_of event) ≡ false → told hall badge (replies_to pending event) hall badge
told_nothing told telling hall badge pending event e =
    subst (λ (rs : List Reply). told hall badge rs hall badge) (sym (no_reply pending event e)) (telling.none hall badge)

-- an event that asks the hall nothing
pub talks_plain : {H : Type 0} (told : H → BadgeState → List Reply → H → BadgeState → Type 0) → IsTelling told → (old new : TraceView) (hall : H) (badge : BadgeState) (entry : TraceEntry)
    → is_told (kind_of entry.event) ≡ false → Grows old new entry → Talks told (moment old hall badge) (moment new hall badge) (input_in entry.event) (beat_in entry.event) (next_step old entry).messages
talks_plain told telling old new hall badge entry e g = talks_grown told old new hall hall badge badge entry g (told_nothing told telling hall badge (pending_question old.session) entry.event e)

-- want of memory before anything was given
pub breaks_ran : {H : Type 0} (told : H → BadgeState → List Reply → H → BadgeState → Type 0) → IsTelling told → (old new : TraceView) (hall : H) (badge : BadgeState) → Readied old new false → Breaks told (moment old hall badge) (moment new hall badge) [] []
breaks_ran told telling old new hall badge (inl r) =
    record {
      sent = _;
      talks =
          talks_then told telling (moment old hall badge) (moment r.between hall badge) (moment new hall badge) [] [] [] [] [] _
          (talks_rest told telling old r.between hall badge r.rests.same)
          (talks_plain told telling r.between new hall badge (record { event = events.NoMemory; starved = false }) refl r.grows);
    }
breaks_ran told telling old new hall badge (inr l) =
    record { sent = _; talks = talks_plain told telling old new hall badge (record { event = events.NoMemory; starved = false }) refl l.grows }

-- ---- into a list

pub sends_then : {H : Type 0} (told : H → BadgeState → List Reply → H → BadgeState → Type 0) → IsTelling told → (a b c : Moment H) (i i' j j' : List Event) (w w' w'' : List Message) → Sends told a b i j w w' → Sends told b c i' j' w' w'' → Sends told a c (i ++ i') (j ++ j') w w''
sends_then told telling a b c i i' j j' w w' w'' x y =
    record {
      sent = x.sent ++ y.sent;
      behind = y.behind ∙ ap (λ (l : List Message). l ++ y.sent) x.behind ∙ append_assoc w x.sent y.sent;
      talks = talks_then told telling a b c i i' j j' x.sent y.sent x.talks y.talks;
    }

pub breaks_then : {H : Type 0} (told : H → BadgeState → List Reply → H → BadgeState → Type 0) → IsTelling told → (a b c : Moment H) (i i' j j' : List Event) (w w' : List Message) → Sends told a b i j w w' → Breaks told b c i' j' → Breaks told a c (i ++ i') (j ++ j')
breaks_then told telling a b c i i' j j' w w' x y =
    record { sent = x.sent ++ y.sent; talks = talks_then told telling a b c i i' j j' x.sent y.sent x.talks y.talks }

-- behind a rest
pub sends_rested : {H : Type 0} (told : H → BadgeState → List Reply → H → BadgeState → Type 0) → IsTelling told → (old between new : TraceView) (hall hall' : H) (badge badge' : BadgeState) (i j : List Event) (w w' : List Message) → IsAsBefore old between
    → Sends told (moment between hall badge) (moment new hall' badge') i j w w' → Sends told (moment old hall badge) (moment new hall' badge') i j w w'
sends_rested told telling old between new hall hall' badge badge' i j w w' r x =
    record {
      sent = x.sent;
      behind = x.behind;
      talks = talks_then told telling (moment old hall badge) (moment between hall badge) (moment new hall' badge') [] i [] j [] x.sent (talks_rest told telling old between hall badge r) x.talks;
    }

pub breaks_rested : {H : Type 0} (told : H → BadgeState → List Reply → H → BadgeState → Type 0) → IsTelling told → (old between new : TraceView) (hall hall' : H) (badge badge' : BadgeState) (i j : List Event) → IsAsBefore old between
    → Breaks told (moment between hall badge) (moment new hall' badge') i j → Breaks told (moment old hall badge) (moment new hall' badge') i j
breaks_rested told telling old between new hall hall' badge badge' i j r x =
    record {
      sent = x.sent;
      talks = talks_then told telling (moment old hall badge) (moment between hall badge) (moment new hall' badge') [] i [] j [] x.sent (talks_rest told telling old between hall badge r) x.talks;
    }

-- an event that begins something, into a list
pub begun_into : {H : Type 0} (told : H → BadgeState → List Reply → H → BadgeState → Type 0) → IsTelling told → (old new : TraceView) (hall : H) (badge : BadgeState) (event : Event) (asked : Option Question) (w w' : List Message)
    → begins (kind_of event) ≡ true → StepsInto old new event asked w w' → Sends told (moment old hall badge) (moment new hall badge) (input_in event) (beat_in event) w w'
begun_into told telling old new hall badge event asked w w' b s =
    record {
      sent = s.sent;
      behind = s.behind;
      talks = talks_step told old new hall hall badge badge event s.sent asked s.steps (told_nothing told telling hall badge (pending_question old.session) event (begins_no_reply event b));
    }

pub begun_lost : {H : Type 0} (told : H → BadgeState → List Reply → H → BadgeState → Type 0) → IsTelling told → (old new : TraceView) (hall : H) (badge : BadgeState) (event : Event)
    → begins (kind_of event) ≡ true → Steps old new event → Breaks told (moment old hall badge) (moment new hall badge) (input_in event) (beat_in event)
begun_lost told telling old new hall badge event b s =
    record {
      sent = s.sent;
      talks = talks_step told old new hall hall badge badge event s.sent s.asked s.steps (told_nothing told telling hall badge (pending_question old.session) event (begins_no_reply event b));
    }

-- ---- the hall's answer

answer_plain : {H : Type 0} (told : H → BadgeState → List Reply → H → BadgeState → Type 0) (refused : H → BadgeState → Fault → Type 0) (hall hall' : H) (badge badge' : BadgeState) (question : Question) (event : Event)
    → AnswerOf told refused hall badge hall' badge' question event → (input_in event ≡ []) × (beat_in event ≡ [])
answer_plain told refused hall hall' badge badge' question (events.Told answer) a = (refl, refl)
answer_plain told refused hall hall' badge badge' question events.HallFull a = (refl, refl)
answer_plain told refused hall hall' badge badge' question events.NoMemory a = (refl, refl)
answer_plain told refused hall hall' badge badge' question (events.Said item) a = absurd a
answer_plain told refused hall hall' badge badge' question (events.Broken fault) a = absurd a
answer_plain told refused hall hall' badge badge' question events.Tick a = absurd a
answer_plain told refused hall hall' badge badge' question events.Probe a = absurd a
answer_plain told refused hall hall' badge badge' question events.ReaderEnd a = absurd a
answer_plain told refused hall hall' badge badge' question events.WriteFault a = absurd a

talks_answered : {H : Type 0} (told : H → BadgeState → List Reply → H → BadgeState → Type 0) (refused : H → BadgeState → Fault → Type 0) → IsTelling told → (old between new : TraceView) (hall hall' : H) (badge badge' : BadgeState) (question : Question) (event : Event) (sent : List Message) (asked : Option Question)
    → IsAsBefore old between → pending_question old.session ≡ Some question → AnswerOf told refused hall badge hall' badge' question event → TraceSteps between new event sent asked → Talks told (moment old hall badge) (moment new hall' badge') [] [] sent
talks_answered told refused telling old between new hall hall' badge badge' question event sent asked r stands a t =
    let stands' : pending_question between.session ≡ Some question = ap pending_question r.session ∙ stands in
    let told_it = (answer_changes told refused between false hall hall' badge badge' question event stands' a).told_next in
    let step : Talks told (moment between hall badge) (moment new hall' badge') (input_in event) (beat_in event) sent = talks_step told between new hall hall' badge badge' event sent asked t told_it in
    let plain = answer_plain told refused hall hall' badge badge' question event a in
    let one : Talks told (moment between hall badge) (moment new hall' badge') [] (beat_in event) sent = subst (λ (es : List Event). Talks told (moment between hall badge) (moment new hall' badge') es (beat_in event) sent) plain.0 step in
    let two : Talks told (moment between hall badge) (moment new hall' badge') [] [] sent = subst (λ (es : List Event). Talks told (moment between hall badge) (moment new hall' badge') [] es sent) plain.1 one in
    talks_then told telling (moment old hall badge) (moment between hall badge) (moment new hall' badge') [] [] [] [] [] sent (talks_rest told telling old between hall badge r) two

pub answered_into : {H : Type 0} (told : H → BadgeState → List Reply → H → BadgeState → Type 0) (refused : H → BadgeState → Fault → Type 0) → IsTelling told → (old between new : TraceView) (hall hall' : H) (badge badge' : BadgeState) (question : Question) (event : Event) (asked : Option Question) (w w' : List Message)
    → IsAsBefore old between → pending_question old.session ≡ Some question → AnswerOf told refused hall badge hall' badge' question event → StepsInto between new event asked w w' → Sends told (moment old hall badge) (moment new hall' badge') [] [] w w'
answered_into told refused telling old between new hall hall' badge badge' question event asked w w' r stands a s =
    record {
      sent = s.sent;
      behind = s.behind;
      talks = talks_answered told refused telling old between new hall hall' badge badge' question event s.sent asked r stands a s.steps;
    }

pub answered_lost : {H : Type 0} (told : H → BadgeState → List Reply → H → BadgeState → Type 0) (refused : H → BadgeState → Fault → Type 0) → IsTelling told → (old between new : TraceView) (hall hall' : H) (badge badge' : BadgeState) (question : Question) (event : Event)
    → IsAsBefore old between → pending_question old.session ≡ Some question → AnswerOf told refused hall badge hall' badge' question event → Steps between new event → Breaks told (moment old hall badge) (moment new hall' badge') [] []
answered_lost told refused telling old between new hall hall' badge badge' question event r stands a s =
    record { sent = s.sent; talks = talks_answered told refused telling old between new hall hall' badge badge' question event s.sent s.asked r stands a s.steps }

-- ---- one answer more

pub sends_on : {H : Type 0} (told : H → BadgeState → List Reply → H → BadgeState → Type 0) → IsTelling told → (a b c : Moment H) (i j : List Event) (w w' w'' : List Message) → Sends told a b i j w w' → Sends told b c [] [] w' w'' → Sends told a c i j w w''
sends_on told telling a b c i j w w' w'' x y =
    subst (λ (es : List Event). Sends told a c es j w w'') (append-nil i)
    (subst (λ (es : List Event). Sends told a c (i ++ []) es w w'') (append-nil j) (sends_then told telling a b c i [] j [] w w' w'' x y))

pub breaks_on : {H : Type 0} (told : H → BadgeState → List Reply → H → BadgeState → Type 0) → IsTelling told → (a b c : Moment H) (i j : List Event) (w w' : List Message) → Sends told a b i j w w' → Breaks told b c [] [] → Breaks told a c i j
breaks_on told telling a b c i j w w' x y =
    subst (λ (es : List Event). Breaks told a c es j) (append-nil i)
    (subst (λ (es : List Event). Breaks told a c (i ++ []) es) (append-nil j) (breaks_then told telling a b c i [] j [] w w' x y))

pub pending_rested : (old new : TraceView) → IsAsBefore old new → old.session.pending ≡ None → new.session.pending ≡ None
pending_rested old new r free = ap (λ (s : SessionState). s.pending) r.session ∙ free

-- ---- a message that was given

pub heard_as : {H : Type 0} (told : H → BadgeState → List Reply → H → BadgeState → Type 0) (a b : Moment H) (item : Item) (message : Message) (w w' : List Message) → item ≡ Good message
    → Sends told a b (events.Said item ∷ []) [] w w' → Sends told a b (said message ∷ []) [] w w'
heard_as told a b item message w w' e s = subst (λ (i : Item). Sends told a b (events.Said i ∷ []) [] w w') e s

pub failed_heard : {H : Type 0} (told : H → BadgeState → List Reply → H → BadgeState → Type 0) (a b : Moment H) (item : Item) (message : Message) → item ≡ Good message
    → Fails told a b (events.Said item) → Breaks told a b [] [] ⊎ Breaks told a b (said message ∷ []) []
failed_heard told a b item message e (inl f) = inl f.0
failed_heard told a b item message e (inr f) = inr (subst (λ (i : Item). Breaks told a b (events.Said i ∷ []) []) e f)

pub steps_of : (old new : TraceView) (event : Event) (sent : List Message) (asked : Option Question) → TraceSteps old new event sent asked → Steps old new event
steps_of old new event sent asked t = record { sent = sent; asked = asked; steps = t }

-- a message that was taken off and lost, or given
pub missed : {H : Type 0} (told : H → BadgeState → List Reply → H → BadgeState → Type 0) (old new : End) (hall hall' : H) (message : Message) → old.inbox ≡ message ∷ new.inbox
    → Breaks told (with_hall old hall) (with_hall new hall') [] [] ⊎ Breaks told (with_hall old hall) (with_hall new hall') (said message ∷ []) [] → Misses told old new hall hall'
missed told old new hall hall' message first breaks = record { message = message; first = first; breaks = breaks }
