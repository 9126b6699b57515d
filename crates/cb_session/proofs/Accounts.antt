-- The account of a conversation, one entry of its trace at a time.
use Rattle.std.proofs.Common.{◌≡◌, ◌≢◌, ℕ, ◌+◌, ◌-◌, ◌<◌, ◌^◌, min, Bool, true, false, cond, ◌||◌, List, [], ◌∷◌, ◌++◌, length, Option, Some, None, Result, Ok, Err, refl, sym, ap, subst, ◌∙◌, append_assoc, arith, inl, inr, ◌⊎◌}
use Rattle.std.specs.Prelude.{map, filter, fold, IsOk}
use Rattle.std.proofs.lemmas.List.{append-nil, length-append, map-append}
use Rattle.std.proofs.lemmas.List.Elements.{filter-append}
use Rattle.std.proofs.lemmas.List.Folds.{list_any-append}
use Rattle.std.proofs.lemmas.Grind.{flat_map-append}
use Rattle.cb_base.specs.declared.fault.Fault.{Fault}
use Rattle.cb_base.specs.declared.fault.Fault.TheVariants.{JournalFull, Memory}
use Rattle.cb_wire.specs.declared.message.Message.{Message}
use Rattle.cb_wire.specs.Envelope.{envelope_text, text}
use Rattle.cb_wire.specs.Stream.{texts}
use Rattle.cb_peer_state.specs.Writing.{counted, IsTextOfLast, Wrote}
use Rattle.cb_peer_state.proofs.Writes.{tells_still}
use Rattle.cb_base.proofs.Known.{Appends-then}
use Rattle.cb_hall.specs.declared.answer.Answer.{Answer}
use Rattle.cb_hall.specs.declared.question.Question.{Question}
use Rattle.cb_hall.specs.Badge.{BadgeState}
use Rattle.cb_hall.specs.Histories.{Reply}
use Rattle.cb_peer_state.specs.declared.settings.Settings.{Settings}
use Rattle.cb_peer_state.specs.declared.event.Event.{Event}
use Rattle.cb_peer_state.specs.declared.event.Event.TheVariants as events
use Rattle.cb_trace.specs.declared.trace.TraceEntry.{TraceEntry}
use Rattle.cb_peer_state.specs.Questions.{fits, questions_left, pending_question}
use Rattle.cb_peer_state.specs.Event.{Kind, begins, ends_at_once, is_beat, is_hall_full, is_input, is_no_memory, is_told, is_write_fault, kind_of, loses}
use Rattle.cb_peer_state.specs.Session.{Stepped}
use Rattle.cb_peer_state.specs.declared.session_state.SessionState.{SessionState}
use Rattle.cb_peer_state.specs.State.{is_closed}
use Rattle.cb_peer_state.proofs.Steps.{no_question, none_pending, some_left}
use Rattle.cb_trace.specs.Fold.{Account, EachOpen, account_of, account_step, beats_of, entry_step, first_account, has_kind, inputs_of, number_of, replies, replies_to, sends, session_of}
use Rattle.cb_trace.specs.Trace.{AsksPending, Grows, IsAsBefore, IsOpen, Readied, TraceSteps, TraceView, next_step}
use Rattle.cb_trace.proofs.Entries.{entry_ends, entry_fewer, entry_over}
use Rattle.cb_trace.proofs.Folds.{EachPrompt_more, account_of_more, number_more}
use Rattle.cb_trace.proofs.Traces.{next_is}
use Rattle.cb_session.specs.Conversation.{Accounts, AnswerOf, Gave, IsLoss, Lacked, Origin, Progress, IsAnswered, IsPending, MayAsk, Sent, Settled, Underway, beat_in, input_in, left_of, open_question, progress}

-- what the hall told, call by call
pub record IsOracle {H : Type 0} (told : H → BadgeState → List Reply → H → BadgeState → Type 0) (refused : H → BadgeState → Fault → Type 0) : Type 0 where
  pub none : (a : H) (x : BadgeState) → told a x [] a x
  pub next : (a b c : H) (x y z : BadgeState) (first later : List Reply) → told a x first b y → told b y later c z → told a x (first ++ later) c z
  pub stays : (a b : H) (x y : BadgeState) (replies : List Reply) → told a x replies b y → refused a x JournalFull → refused b y JournalFull

-- ---- tests over one entry more

has_more : (test : Kind → Bool) (entries : List TraceEntry) (entry : TraceEntry) → has_kind test (entries ++ entry ∷ []) ≡ (has_kind test entries || (test (kind_of entry.event) || false))
has_more test entries entry = list_any-append (λ (e : TraceEntry). test (kind_of e.event)) entries (entry ∷ [])

or_true : (a b : Bool) → (a || (b || false)) ≡ true → (a ≡ true) ⊎ (b ≡ true)
or_true true b e = inl refl
or_true false true e = inr refl
or_true false false e = absurd cc

or_false : (a b : Bool) → a ≡ false → b ≡ false → (a || (b || false)) ≡ false
or_false true b e f = absurd cc
or_false false true e f = absurd cc
or_false false false e f = refl

or_last : (a b : Bool) → b ≡ true → (a || (b || false)) ≡ true
or_last true b e = refl
or_last false true e = refl
or_last false false e = absurd cc

-- an input is one more input, and nothing else is
inputs_more : (entries : List TraceEntry) (entry : TraceEntry) → inputs_of (entries ++ entry ∷ []) ≡ inputs_of entries ++ input_in entry.event
inputs_more entries entry =
    ap (filter (λ (e : Event). is_input (kind_of e))) (map-append (λ (e : TraceEntry). e.event) entries (entry ∷ []))
    ∙ filter-append (λ (e : Event). is_input (kind_of e)) (map (λ (e : TraceEntry). e.event) entries) (entry.event ∷ [])

-- a timer event is one more, and nothing else is
beats_more : (entries : List TraceEntry) (entry : TraceEntry) → beats_of (entries ++ entry ∷ []) ≡ beats_of entries ++ beat_in entry.event
beats_more entries entry =
    ap (filter (λ (e : Event). is_beat (kind_of e))) (map-append (λ (e : TraceEntry). e.event) entries (entry ∷ []))
    ∙ filter-append (λ (e : Event). is_beat (kind_of e)) (map (λ (e : TraceEntry). e.event) entries) (entry.event ∷ [])

pub no_input : (event : Event) → is_input (kind_of event) ≡ false → input_in event ≡ []
no_input event e = ap (λ b. cond b (event ∷ []) []) e

pub one_input : (event : Event) → is_input (kind_of event) ≡ true → input_in event ≡ event ∷ []
one_input event e = ap (λ b. cond b (event ∷ []) []) e

pub not_both : {P : Type 0} (b : Bool) → b ≡ false → b ≡ true → P
not_both b e f = absurd (let clash = sym e ∙ f in cc)

-- a kind that none of some entries has, and one more hasn't
pub none_more : (test : Kind → Bool) (entries : List TraceEntry) (entry : TraceEntry) → has_kind test entries ≡ false → test (kind_of entry.event) ≡ false → has_kind test (entries ++ entry ∷ []) ≡ false
none_more test entries entry e f = has_more test entries entry ∙ or_false _ _ e f

-- ---- a session that goes on has lost nothing

stays_closed : (account : Account) (entries : List TraceEntry) → is_closed account.session.state ≡ true → EachOpen account entries → entries ≡ []
stays_closed account [] e each = refl
stays_closed account (entry ∷ entries) e each = not_both (is_closed account.session.state) each.0 e

loses_ends : (event : Event) → loses (kind_of event) ≡ true → ends_at_once event ≡ true
loses_ends (events.Said item) e = absurd cc
loses_ends (events.Broken fault) e = absurd cc
loses_ends events.Tick e = absurd cc
loses_ends events.Probe e = absurd cc
loses_ends (events.Told answer) e = absurd cc
loses_ends events.ReaderEnd e = absurd cc
loses_ends events.NoMemory e = refl
loses_ends events.HallFull e = absurd cc
loses_ends events.WriteFault e = refl

lost_none : (account : Account) (entries : List TraceEntry) → EachOpen account entries → is_closed (fold account_step account entries).session.state ≡ false → has_kind loses entries ≡ false
lost_none account [] each going = refl
lost_none account (entry ∷ entries) each going =
    let first : (b : Bool) → loses (kind_of entry.event) ≡ b → (b || has_kind loses entries) ≡ false =
    elim [
      | true ↦ λ e.
          let over = entry_ends account.count account.session entry each.0 (loses_ends entry.event e) in
          let nothing = stays_closed (account_step account entry) entries over each.1 in
          not_both _ (subst (λ (es : List TraceEntry). is_closed (fold account_step (account_step account entry) es).session.state ≡ false) nothing going) over
      | false ↦ λ e. lost_none (account_step account entry) entries each.1 going
    ] in
    first (loses (kind_of entry.event)) refl

open_lost : (settings : Settings) (history : List TraceEntry) → EachOpen (first_account settings) history → is_closed (session_of settings history).state ≡ false → has_kind loses history ≡ false
unfolding account_of
open_lost settings history each going = lost_none (first_account settings) history each going

-- what was lost by a session that goes on
pub not_lost : {H : Type 0} (told : H → BadgeState → List Reply → H → BadgeState → Type 0) (refused : H → BadgeState → Fault → Type 0) (from : Origin H) (now : Progress H) (inputs : List Event) (missing : List ℕ) (lost unkept : Bool)
    → Accounts told refused from now inputs missing lost unkept → IsOpen now.trace → lost ≡ false
not_lost told refused from now inputs missing lost unkept a going =
    sym a.losses ∙ open_lost now.trace.settings a.history a.stands.each (ap (λ (s : SessionState). is_closed s.state) (sym a.stands.session) ∙ going)

shortage_loses : (event : Event) → is_no_memory (kind_of event) ≡ true → loses (kind_of event) ≡ true
shortage_loses (events.Said item) e = absurd cc
shortage_loses (events.Broken fault) e = absurd cc
shortage_loses events.Tick e = absurd cc
shortage_loses events.Probe e = absurd cc
shortage_loses (events.Told answer) e = absurd cc
shortage_loses events.ReaderEnd e = absurd cc
shortage_loses events.NoMemory e = refl
shortage_loses events.HallFull e = absurd cc
shortage_loses events.WriteFault e = absurd cc

either_true : (a b c d : Bool) → (a ≡ true → c ≡ true) → (b ≡ true → d ≡ true) → (a || b) ≡ true → (c || d) ≡ true
either_true true b c d f g e = ap (λ x. x || d) (f refl)
either_true false b true d f g e = refl
either_true false b false d f g e = g e

shortage_among : (entries : List TraceEntry) → has_kind is_no_memory entries ≡ true → has_kind loses entries ≡ true
shortage_among [] e = absurd cc
shortage_among (entry ∷ entries) e = either_true _ _ _ _ (λ h. shortage_loses entry.event h) (λ h. shortage_among entries h) e

-- a session that goes on found memory throughout
pub no_shortage : {H : Type 0} (told : H → BadgeState → List Reply → H → BadgeState → Type 0) (refused : H → BadgeState → Fault → Type 0) (from : Origin H) (now : Progress H) (inputs : List Event) (missing : List ℕ) (lost unkept : Bool) {P : Type 0}
    → (a : Accounts told refused from now inputs missing lost unkept) → IsOpen now.trace → has_kind is_no_memory a.history ≡ true → P
no_shortage told refused from now inputs missing lost unkept a going e =
    not_both _ (a.losses ∙ not_lost told refused from now inputs missing lost unkept a going) (shortage_among a.history e)

-- and has kept all that came
pub open_kept : {H : Type 0} (told : H → BadgeState → List Reply → H → BadgeState → Type 0) (refused : H → BadgeState → Fault → Type 0) (from : Origin H) (now : Progress H) (inputs : List Event) (unkept : Bool) → IsOpen now.trace
    → Settled told refused from now inputs unkept → Settled told refused from now inputs false
open_kept told refused from now inputs unkept going s =
    let a = s.sent.accounts in
    record {
      sent = record {
        missing = s.sent.missing;
        lost = s.sent.lost;
        accounts = record {
          settings = a.settings;
          history = a.history;
          stands = a.stands;
          wrote = a.wrote;
          inputs_are = a.inputs_are;
          prompt = a.prompt;
          replies_are = a.replies_are;
          each_told = a.each_told;
          write_fault = a.write_fault;
          hall_full = a.hall_full;
          no_memory = λ h. no_shortage told refused from now inputs s.sent.missing s.sent.lost unkept a going h;
          beats_are = a.beats_are;
          losses = a.losses;
        };
        whole = s.sent.whole;
        told_loss = s.sent.told_loss;
      };
      answered = s.answered;
    }

-- while the session goes on, only what is to be written later is missing
pub open_whole : {H : Type 0} (told : H → BadgeState → List Reply → H → BadgeState → Type 0) (refused : H → BadgeState → Fault → Type 0) (from : Origin H) (now : Progress H) (inputs : List Event) (later : List ℕ)
    → Sent told refused from now inputs later false → IsOpen now.trace → Accounts told refused from now inputs later false false
open_whole told refused from now inputs later s going =
    let none = not_lost told refused from now inputs s.missing s.lost false s.accounts going in
    subst (λ b. Accounts told refused from now inputs later b false) none (subst (λ (ms : List ℕ). Accounts told refused from now inputs ms s.lost false) (s.whole none) s.accounts)

-- while the session goes on, a sink that has failed had failed before
pub open_told : {H : Type 0} (told : H → BadgeState → List Reply → H → BadgeState → Type 0) (refused : H → BadgeState → Fault → Type 0) (from : Origin H) (now : Progress H) (inputs : List Event) (later : List ℕ)
    → Sent told refused from now inputs later false → IsOpen now.trace → now.failed ≡ true → from.failed ≡ true
open_told told refused from now inputs later s going failed =
    elim (s.told_loss failed) [ inl before ↦ before | inr lost ↦ not_both s.lost (not_lost told refused from now inputs s.missing s.lost false s.accounts going) lost ]

-- ---- one entry more

-- what else changes with an entry
pub record Changes {H : Type 0} (told : H → BadgeState → List Reply → H → BadgeState → Type 0) (refused : H → BadgeState → Fault → Type 0) (trace : TraceView) (failed : Bool) (hall hall' : H) (badge badge' : BadgeState) (event : Event) : Type 0 where
  pub failed_told : is_write_fault (kind_of event) ≡ true → failed ≡ true
  pub full_told : is_hall_full (kind_of event) ≡ true → refused hall' badge' JournalFull
  pub told_next : told hall badge (replies_to (pending_question trace.session) event) hall' badge'
  pub one_told : length (replies_to (pending_question trace.session) event) ≡ cond (is_told (kind_of event)) 1 0
  pub free : begins (kind_of event) ≡ true → trace.session.pending ≡ None

-- what an entry adds to the timer events, the inputs, the missing bytes, and what was lost
pub record Adds (trace : TraceView) (entry : TraceEntry) (beats beats' : List Event) (inputs inputs' : List Event) (missing missing' : List ℕ) (lost lost' : Bool) : Type 0 where
  pub beats_are : beats ++ beat_in entry.event ≡ beats'
  pub inputs_are : inputs ++ input_in entry.event ≡ inputs'
  pub missing_are : missing ++ texts (next_step trace entry).messages ≡ missing'
  pub lost_is : (lost || (loses (kind_of entry.event) || false)) ≡ lost'

-- the account of these entries
pub record AccountsOf {H : Type 0} (told : H → BadgeState → List Reply → H → BadgeState → Type 0) (refused : H → BadgeState → Fault → Type 0) (from : Origin H) (now : Progress H) (inputs : List Event) (missing : List ℕ) (lost unkept : Bool) (entries : List TraceEntry) : Type 0 where
  pub accounts : Accounts told refused from now inputs missing lost unkept
  pub history_is : accounts.history ≡ entries

-- the same origin with these timer events
abbrev pub with_beats : {H : Type 0} → Origin H → List Event → Origin H
with_beats from beats = record from { beats = beats }

-- the trace grew by an entry
pub accounts_grow : {H : Type 0} (told : H → BadgeState → List Reply → H → BadgeState → Type 0) (refused : H → BadgeState → Fault → Type 0) (oracle : IsOracle told refused) (from : Origin H) (trace trace' : TraceView) (hall hall' : H) (badge badge' : BadgeState)
    (held : Option (List ℕ)) (failed : Bool) (written : ℕ) (beats : List Event) (inputs inputs' : List Event) (missing missing' : List ℕ) (lost lost' unkept : Bool) (entry : TraceEntry) → IsOpen trace
    → (a : Accounts told refused from (progress trace hall badge held failed written) inputs missing lost false) → Grows trace trace' entry → Changes told refused trace failed hall hall' badge badge' entry.event
    → Adds trace entry from.beats beats inputs inputs' missing missing' lost lost'
    → (is_no_memory (kind_of entry.event) ≡ true → Lacked refused (progress trace' hall' badge' held failed written) missing' ⊎ (unkept ≡ true))
    → AccountsOf told refused (with_beats from beats) (progress trace' hall' badge' held failed written) inputs' missing' lost' unkept (a.history ++ entry ∷ [])
accounts_grow told refused oracle from trace trace' hall hall' badge badge' held failed written beats inputs inputs' missing missing' lost lost' unkept entry going a g c adds lacked =
    let h : List TraceEntry = a.history in
    let s : Settings = from.settings in
    let step_is : next_step trace entry ≡ entry_step (account_of s h).count (session_of s h) entry =
    next_is trace h entry a.stands ∙ ap (λ (x : Settings). entry_step (account_of x h).count (session_of x h) entry) a.settings in
    let more : account_of s (h ++ entry ∷ []) ≡ account_step (account_of s h) entry = account_of_more s h entry in
    let sent : List Message = (next_step trace entry).messages in
    let sends_more : sends s (h ++ entry ∷ []) ≡ sends s h ++ sent = ap (λ (x : Account). x.sent) more ∙ ap (λ (m : Stepped). sends s h ++ m.messages) (sym step_is) in
    let session_is : trace.session ≡ session_of s h = a.stands.session ∙ ap (λ (x : Settings). session_of x h) a.settings in
    let given : List Reply = replies_to (pending_question trace.session) entry.event in
    let replies_more : replies s (h ++ entry ∷ []) ≡ replies s h ++ given =
    ap (λ (x : Account). x.replies) more ∙ ap (λ (x : SessionState). replies s h ++ replies_to (pending_question x) entry.event) (sym session_is) in
    let answers : length (replies s (h ++ entry ∷ [])) ≡ length (replies s h) + length given = ap length replies_more ∙ length-append (replies s h) given in
    let counted : number_of is_told h ≡ length (replies s h) = a.each_told in
    let one : length given ≡ cond (is_told (kind_of entry.event)) 1 0 = c.one_told in
    record {
      accounts = record {
        settings = g.settings ∙ a.settings;
        history = h ++ entry ∷ [];
        stands = g.history h a.stands;
        wrote = record {
          sent = a.wrote.sent;
          parts =
              ap texts sends_more ∙ flat_map-append text (sends s h) sent
              ∙ ap (λ (x : List ℕ). x ++ texts sent) a.wrote.parts ∙ append_assoc a.wrote.sent missing (texts sent)
              ∙ ap (λ (x : List ℕ). a.wrote.sent ++ x) adds.missing_are;
          appended = a.wrote.appended;
          count = a.wrote.count;
        };
        inputs_are = inputs_more h entry ∙ ap (λ (x : List Event). x ++ input_in entry.event) a.inputs_are ∙ adds.inputs_are;
        prompt = EachPrompt_more s h entry a.prompt (λ b. ap (λ (x : SessionState). x.pending) (sym session_is) ∙ c.free b);
        replies_are =
            subst (λ (rs : List Reply). told from.hall from.badge rs hall' badge') (sym replies_more)
            (oracle.next from.hall hall hall' from.badge badge badge' (replies s h) given a.replies_are c.told_next);
        each_told = omega (arith, number_more is_told h entry, counted, one, answers);
        write_fault = λ x. elim (or_true _ _ (sym (has_more is_write_fault h entry) ∙ x)) [ inl y ↦ a.write_fault y | inr y ↦ c.failed_told y ];
        hall_full =
            λ x. elim (or_true _ _ (sym (has_more is_hall_full h entry) ∙ x)) [
              | inl y ↦ oracle.stays hall hall' badge badge' given c.told_next (a.hall_full y)
              | inr y ↦ c.full_told y
            ];
        no_memory =
            λ x. elim (or_true _ _ (sym (has_more is_no_memory h entry) ∙ x)) [
              | inl y ↦ no_shortage told refused from (progress trace hall badge held failed written) inputs missing lost false a going y
              | inr y ↦ lacked y
            ];
        beats_are = beats_more h entry ∙ ap (λ (x : List Event). x ++ beat_in entry.event) a.beats_are ∙ adds.beats_are;
        losses = has_more loses h entry ∙ ap (λ b. b || (loses (kind_of entry.event) || false)) a.losses ∙ adds.lost_is;
      };
      history_is = refl;
    }

-- the trace rested, and stands for the same history
pub accounts_rest : {H : Type 0} (told : H → BadgeState → List Reply → H → BadgeState → Type 0) (refused : H → BadgeState → Fault → Type 0) (from : Origin H) (trace trace' : TraceView) (hall : H) (badge : BadgeState)
    (held : Option (List ℕ)) (failed : Bool) (written : ℕ) (inputs : List Event) (missing : List ℕ) (lost : Bool) → IsOpen trace → IsAsBefore trace trace'
    → (a : Accounts told refused from (progress trace hall badge held failed written) inputs missing lost false) → AccountsOf told refused from (progress trace' hall badge held failed written) inputs missing lost false a.history
accounts_rest told refused from trace trace' hall badge held failed written inputs missing lost going r a =
    record {
      accounts = record {
        settings = r.settings ∙ a.settings;
        history = a.history;
        stands = r.history a.history a.stands;
        wrote = a.wrote;
        inputs_are = a.inputs_are;
        prompt = a.prompt;
        replies_are = a.replies_are;
        each_told = a.each_told;
        write_fault = a.write_fault;
        hall_full = a.hall_full;
        no_memory = λ h. no_shortage told refused from (progress trace hall badge held failed written) inputs missing lost false a going h;
        beats_are = a.beats_are;
        losses = a.losses;
      };
      history_is = refl;
    }

as_it_is : (trace : TraceView) → IsAsBefore trace trace
as_it_is trace = record { settings = refl; session = refl; total = refl; history = λ history h. h }

-- a trace that is open after a rest
pub rest_open : (trace trace' : TraceView) → IsAsBefore trace trace' → IsOpen trace → IsOpen trace'
rest_open trace trace' r going = ap (λ (s : SessionState). is_closed s.state) r.session ∙ going

-- a step that ends the session is silent
pub silent_more : (trace trace' : TraceView) (entry : TraceEntry) → IsOpen trace → Grows trace trace' entry → is_closed trace'.session.state ≡ true → (next_step trace entry).messages ≡ []
silent_more trace trace' entry going g closed =
    (entry_over trace.total.entries trace.session entry going (ap (λ (s : SessionState). is_closed s.state) (sym g.session) ∙ closed)).silent

-- an event that ends a session at once has ended it
pub ended_more : (trace trace' : TraceView) (entry : TraceEntry) → IsOpen trace → Grows trace trace' entry → ends_at_once entry.event ≡ true → is_closed trace'.session.state ≡ true
ended_more trace trace' entry going g ends = ap (λ (s : SessionState). is_closed s.state) g.session ∙ entry_ends trace.total.entries trace.session entry going ends

-- ---- an event that loses messages

pub loss_plain : (event : Event) → loses (kind_of event) ≡ true → (is_input (kind_of event) ≡ false) × (is_beat (kind_of event) ≡ false) × (begins (kind_of event) ≡ false) × (is_hall_full (kind_of event) ≡ false) × (is_told (kind_of event) ≡ false)
loss_plain (events.Said item) e = absurd cc
loss_plain (events.Broken fault) e = absurd cc
loss_plain events.Tick e = absurd cc
loss_plain events.Probe e = absurd cc
loss_plain (events.Told answer) e = absurd cc
loss_plain events.ReaderEnd e = absurd cc
loss_plain events.NoMemory e = (refl, refl, refl, refl, refl)
loss_plain events.HallFull e = absurd cc
loss_plain events.WriteFault e = (refl, refl, refl, refl, refl)

loss_replies : (pending : Option Question) (event : Event) → loses (kind_of event) ≡ true → replies_to pending event ≡ []
loss_replies pending (events.Said item) e = absurd cc
loss_replies pending (events.Broken fault) e = absurd cc
loss_replies pending events.Tick e = absurd cc
loss_replies pending events.Probe e = absurd cc
loss_replies pending (events.Told answer) e = absurd cc
loss_replies pending events.ReaderEnd e = absurd cc
loss_replies None events.NoMemory e = refl
loss_replies (Some question) events.NoMemory e = refl
loss_replies pending events.HallFull e = absurd cc
loss_replies None events.WriteFault e = refl
loss_replies (Some question) events.WriteFault e = refl

-- an event that is no timer event adds none
pub same_beats : (beats : List Event) (event : Event) → is_beat (kind_of event) ≡ false → beats ++ beat_in event ≡ beats
same_beats beats event e = ap (λ b. beats ++ cond b (event ∷ []) []) e ∙ append-nil beats

-- what isn't the hall's answer is no reply
pub no_answer : (given : List Reply) (b : Bool) → given ≡ [] → b ≡ false → length given ≡ cond b 1 0
no_answer [] false e f = refl
no_answer [] true e f = absurd cc
no_answer (reply ∷ given) b e f = absurd cc

-- an event that is no input adds none
pub same_inputs : (inputs : List Event) (event : Event) → is_input (kind_of event) ≡ false → inputs ++ input_in event ≡ inputs
same_inputs inputs event e = ap (λ (is : List Event). inputs ++ is) (no_input event e) ∙ append-nil inputs

-- a silent step adds no bytes
pub same_missing : (missing : List ℕ) (sent : List Message) → sent ≡ [] → missing ++ texts sent ≡ missing
same_missing missing sent none = ap (λ (ms : List Message). missing ++ texts ms) none ∙ append-nil missing

-- a trace grew by an event by which messages are lost
pub accounts_lost : {H : Type 0} (told : H → BadgeState → List Reply → H → BadgeState → Type 0) (refused : H → BadgeState → Fault → Type 0) (oracle : IsOracle told refused) (from : Origin H) (trace mid trace' : TraceView) (hall : H) (badge : BadgeState)
    (held : Option (List ℕ)) (failed : Bool) (written : ℕ) (inputs : List Event) (missing : List ℕ) (lost unkept : Bool) (entry : TraceEntry)
    → IsOpen trace → IsAsBefore trace mid → Grows mid trace' entry → IsLoss entry.event → (is_write_fault (kind_of entry.event) ≡ true → failed ≡ true)
    → (is_no_memory (kind_of entry.event) ≡ true → Lacked refused (progress trace' hall badge held failed written) missing ⊎ (unkept ≡ true))
    → (a : Accounts told refused from (progress trace hall badge held failed written) inputs missing lost false)
    → AccountsOf told refused from (progress trace' hall badge held failed written) inputs missing true unkept (a.history ++ entry ∷ [])
accounts_lost told refused oracle from trace mid trace' hall badge held failed written inputs missing lost unkept entry going r g l write lacked a =
    let going' = rest_open trace mid r going in
    let b = accounts_rest told refused from trace mid hall badge held failed written inputs missing lost going r a in
    let plain = loss_plain entry.event l.loses_messages in
    let none = loss_replies (pending_question mid.session) entry.event l.loses_messages in
    let changes : Changes told refused mid failed hall hall badge badge entry.event =
    record {
      failed_told = write;
      full_told = λ e. not_both (is_hall_full (kind_of entry.event)) plain.3 e;
      told_next = subst (λ (rs : List Reply). told hall badge rs hall badge) (sym none) (oracle.none hall badge);
      one_told = no_answer _ _ none plain.4;
      free = λ e. not_both (begins (kind_of entry.event)) plain.2 e;
    } in
    let adds : Adds mid entry from.beats from.beats inputs inputs missing missing lost true =
    record {
      beats_are = same_beats from.beats entry.event plain.1;
      inputs_are = same_inputs inputs entry.event plain.0;
      missing_are = same_missing missing _ (silent_more mid trace' entry going' g (ended_more mid trace' entry going' g l.ends));
      lost_is = or_last lost (loses (kind_of entry.event)) l.loses_messages;
    } in
    subst (λ (h : List TraceEntry). AccountsOf told refused from (progress trace' hall badge held failed written) inputs missing true unkept (h ++ entry ∷ [])) b.history_is
    (accounts_grow told refused oracle from mid trace' hall hall badge badge held failed written from.beats inputs inputs missing missing lost true unkept entry going' b.accounts g changes adds lacked)

pub no_memory_loss : IsLoss events.NoMemory
no_memory_loss = record { loses_messages = refl; ends = refl }

-- want of memory as an entry
abbrev pub ran_out : TraceEntry
ran_out = record { event = events.NoMemory; starved = false }

-- a trace that ended for want of memory
pub accounts_ran : {H : Type 0} (told : H → BadgeState → List Reply → H → BadgeState → Type 0) (refused : H → BadgeState → Fault → Type 0) (oracle : IsOracle told refused) (from : Origin H) (trace trace' : TraceView) (hall : H) (badge : BadgeState)
    (held : Option (List ℕ)) (failed : Bool) (written : ℕ) (inputs : List Event) (missing : List ℕ) (lost unkept : Bool)
    → IsOpen trace → Readied trace trace' false → (a : Accounts told refused from (progress trace hall badge held failed written) inputs missing lost false)
    → AccountsOf told refused from (progress trace' hall badge held failed written) inputs missing true unkept (a.history ++ ran_out ∷ [])
accounts_ran told refused oracle from trace trace' hall badge held failed written inputs missing lost unkept going (inl r) a =
    accounts_lost told refused oracle from trace r.between trace' hall badge held failed written inputs missing lost unkept ran_out going r.rests.same r.grows no_memory_loss (λ e. absurd cc) (λ _. inl (inl (inl r.room))) a
accounts_ran told refused oracle from trace trace' hall badge held failed written inputs missing lost unkept going (inr l) a =
    accounts_lost told refused oracle from trace trace trace' hall badge held failed written inputs missing lost unkept ran_out going (as_it_is trace) l.grows no_memory_loss (λ e. absurd cc)
    (λ _. inl (inl (inr record { before = trace; lacks = l }))) a

-- it is over
pub ran_closed : (trace trace' : TraceView) → Readied trace trace' false → is_closed trace'.session.state ≡ true
ran_closed trace trace' (inl r) = r.closed
ran_closed trace trace' (inr l) = l.closed

-- ---- asking

reply_is : (pending : Option Question) (question : Question) (answer : Answer) → pending ≡ Some question → replies_to pending (events.Told answer) ≡ record { question = question; answer = answer } ∷ []
reply_is pending question answer e = ap (λ o. replies_to o (events.Told answer)) e

no_reply : (pending : Option Question) → (replies_to pending events.HallFull ≡ []) × (replies_to pending events.NoMemory ≡ [])
no_reply None = (refl, refl)
no_reply (Some question) = (refl, refl)

-- what the hall made of a question, as a change of the account
pub answer_changes : {H : Type 0} (told : H → BadgeState → List Reply → H → BadgeState → Type 0) (refused : H → BadgeState → Fault → Type 0) (trace : TraceView) (failed : Bool) (hall hall' : H) (badge badge' : BadgeState) (question : Question) (event : Event)
    → pending_question trace.session ≡ Some question → AnswerOf told refused hall badge hall' badge' question event → Changes told refused trace failed hall hall' badge badge' event
answer_changes told refused trace failed hall hall' badge badge' question (events.Told answer) stands a =
    record {
      failed_told = λ e. absurd cc;
      full_told = λ e. absurd cc;
      told_next = subst (λ (rs : List Reply). told hall badge rs hall' badge') (sym (reply_is (pending_question trace.session) question answer stands)) a.0;
      one_told = ap length (reply_is (pending_question trace.session) question answer stands);
      free = λ e. absurd cc;
    }
answer_changes told refused trace failed hall hall' badge badge' question events.HallFull stands a =
    record {
      failed_told = λ e. absurd cc;
      full_told = λ e. a.1;
      told_next = subst (λ (rs : List Reply). told hall badge rs hall' badge') (sym (no_reply (pending_question trace.session)).0) a.0;
      one_told = ap length (no_reply (pending_question trace.session)).0;
      free = λ e. absurd cc;
    }
answer_changes told refused trace failed hall hall' badge badge' question events.NoMemory stands a =
    record {
      failed_told = λ e. absurd cc;
      full_told = λ e. absurd cc;
      told_next = subst (λ (rs : List Reply). told hall badge rs hall' badge') (sym (no_reply (pending_question trace.session)).1) a.0;
      one_told = ap length (no_reply (pending_question trace.session)).1;
      free = λ e. absurd cc;
    }
answer_changes told refused trace failed hall hall' badge badge' question (events.Said item) stands a = absurd a
answer_changes told refused trace failed hall hall' badge badge' question (events.Broken fault) stands a = absurd a
answer_changes told refused trace failed hall hall' badge badge' question events.Tick stands a = absurd a
answer_changes told refused trace failed hall hall' badge badge' question events.Probe stands a = absurd a
answer_changes told refused trace failed hall hall' badge badge' question events.ReaderEnd stands a = absurd a
answer_changes told refused trace failed hall hall' badge badge' question events.WriteFault stands a = absurd a

answer_plain : {H : Type 0} (told : H → BadgeState → List Reply → H → BadgeState → Type 0) (refused : H → BadgeState → Fault → Type 0) (hall hall' : H) (badge badge' : BadgeState) (question : Question) (event : Event)
    → AnswerOf told refused hall badge hall' badge' question event → (is_input (kind_of event) ≡ false) × (is_beat (kind_of event) ≡ false)
answer_plain told refused hall hall' badge badge' question (events.Told answer) a = (refl, refl)
answer_plain told refused hall hall' badge badge' question events.HallFull a = (refl, refl)
answer_plain told refused hall hall' badge badge' question events.NoMemory a = (refl, refl)
answer_plain told refused hall hall' badge badge' question (events.Said item) a = absurd a
answer_plain told refused hall hall' badge badge' question (events.Broken fault) a = absurd a
answer_plain told refused hall hall' badge badge' question events.Tick a = absurd a
answer_plain told refused hall hall' badge badge' question events.Probe a = absurd a
answer_plain told refused hall hall' badge badge' question events.ReaderEnd a = absurd a
answer_plain told refused hall hall' badge badge' question events.WriteFault a = absurd a

-- the hall refused it for want of memory
answer_lacked : {H : Type 0} (told : H → BadgeState → List Reply → H → BadgeState → Type 0) (refused : H → BadgeState → Fault → Type 0) (hall hall' : H) (badge badge' : BadgeState) (question : Question) (event : Event)
    → AnswerOf told refused hall badge hall' badge' question event → is_no_memory (kind_of event) ≡ true → refused hall' badge' Memory
answer_lacked told refused hall hall' badge badge' question (events.Told answer) a e = absurd cc
answer_lacked told refused hall hall' badge badge' question events.HallFull a e = absurd cc
answer_lacked told refused hall hall' badge badge' question events.NoMemory a e = a.1
answer_lacked told refused hall hall' badge badge' question (events.Said item) a e = absurd a
answer_lacked told refused hall hall' badge badge' question (events.Broken fault) a e = absurd a
answer_lacked told refused hall hall' badge badge' question events.Tick a e = absurd a
answer_lacked told refused hall hall' badge badge' question events.Probe a e = absurd a
answer_lacked told refused hall hall' badge badge' question events.ReaderEnd a e = absurd a
answer_lacked told refused hall hall' badge badge' question events.WriteFault a e = absurd a

-- the session was told what the hall made of its question
pub accounts_asked : {H : Type 0} (told : H → BadgeState → List Reply → H → BadgeState → Type 0) (refused : H → BadgeState → Fault → Type 0) (oracle : IsOracle told refused) (from : Origin H) (trace mid trace' : TraceView) (hall hall' : H) (badge badge' : BadgeState)
    (held : Option (List ℕ)) (failed : Bool) (written : ℕ) (inputs : List Event) (question : Question) (event : Event) (sent : List Message) (asked : Option Question)
    → IsOpen trace → IsAsBefore trace mid → pending_question trace.session ≡ Some question → AnswerOf told refused hall badge hall' badge' question event → TraceSteps mid trace' event sent asked
    → Accounts told refused from (progress trace hall badge held failed written) inputs [] false false → Underway told refused from (progress trace' hall' badge' held failed written) inputs (texts sent) false
accounts_asked told refused oracle from trace mid trace' hall hall' badge badge' held failed written inputs question event sent asked going r stands answer t a =
    let b = accounts_rest told refused from trace mid hall badge held failed written inputs [] false going r a in
    let stands' : pending_question mid.session ≡ Some question = ap pending_question r.session ∙ stands in
    let plain = answer_plain told refused hall hall' badge badge' question event answer in
    let adds : Adds mid (record { event = event; starved = t.starved }) from.beats from.beats inputs inputs [] (texts sent) false (loses (kind_of event) || false) =
    record {
      beats_are = same_beats from.beats event plain.1;
      inputs_are = same_inputs inputs event plain.0;
      missing_are = ap texts (sym t.messages);
      lost_is = refl;
    } in
    let grown = accounts_grow told refused oracle from mid trace' hall hall' badge badge' held failed written from.beats inputs inputs [] (texts sent) false (loses (kind_of event) || false) false (record { event = event; starved = t.starved }) (rest_open trace mid r going) b.accounts t.grows
    (answer_changes told refused mid failed hall hall' badge badge' question event stands' answer) adds
    (λ e. inl (inr (inl (record { before = mid; question = question; asked = stands'; entry = record { event = event; starved = t.starved }; ran_out = e; grows = t.grows }, answer_lacked told refused hall hall' badge badge' question event answer e)))) in
    record { lost = loses (kind_of event) || false; accounts = grown.accounts }

-- ---- what is left to be answered

-- the question that is open in a session that goes on
pub question_open : (trace : TraceView) (question : Question) → open_question trace ≡ Some question → (is_closed trace.session.state ≡ false) × (pending_question trace.session ≡ Some question)
question_open trace question e =
    let by_state : (b : Bool) → is_closed trace.session.state ≡ b → cond b None (pending_question trace.session) ≡ Some question → (is_closed trace.session.state ≡ false) × (pending_question trace.session ≡ Some question) =
    elim [ true ↦ λ s x. absurd (let z : None ≡ Some question = x in cc) | false ↦ λ s x. (s, x) ] in
    by_state (is_closed trace.session.state) refl e

pub open_question_is : (trace : TraceView) (question : Question) → is_closed trace.session.state ≡ false → pending_question trace.session ≡ Some question → open_question trace ≡ Some question
open_question_is trace question going stands = ap (λ b. cond b None (pending_question trace.session)) going ∙ stands

-- where nothing is to be asked, nothing is pending
pub all_answered : (trace : TraceView) (next : Option Question) → IsPending trace next → next ≡ None → IsAnswered trace
all_answered trace next what none going = none_pending trace.session (sym (what going) ∙ none)

left_open : (trace : TraceView) → is_closed trace.session.state ≡ false → left_of trace ≡ questions_left trace.session.pending
left_open trace e = ap (λ b. cond b 0 (questions_left trace.session.pending)) e

left_closed : (trace : TraceView) → is_closed trace.session.state ≡ true → left_of trace ≡ 0
left_closed trace e = ap (λ b. cond b 0 (questions_left trace.session.pending)) e

-- a session that is over waits for nothing
pub left_over : (trace trace' : TraceView) (question : Question) → open_question trace ≡ Some question → is_closed trace'.session.state ≡ true → left_of trace' < left_of trace
left_over trace trace' question stands closed =
    let q = question_open trace question stands in
    let zero = left_closed trace' closed in
    let same = left_open trace q.0 in
    let some = some_left trace.session question q.1 in
    omega (arith, zero, same, some)

-- an answer that fits leaves fewer
left_told : (mid trace' : TraceView) (question : Question) (answer : Answer) (starved : Bool) → is_closed mid.session.state ≡ false → pending_question mid.session ≡ Some question
    → fits question answer ≡ true → Grows mid trace' (record { event = events.Told answer; starved = starved }) → is_closed trace'.session.state ≡ false → questions_left trace'.session.pending < questions_left mid.session.pending
left_told mid trace' question answer starved going stands fit g after =
    subst (λ (s : SessionState). questions_left s.pending < questions_left mid.session.pending) (sym g.session)
    (entry_fewer mid.total.entries mid.session question answer starved going stands fit (ap (λ (s : SessionState). is_closed s.state) (sym g.session) ∙ after))

-- what the hall made of the question leaves fewer
pub left_asked : {H : Type 0} (told : H → BadgeState → List Reply → H → BadgeState → Type 0) (refused : H → BadgeState → Fault → Type 0) (hall hall' : H) (badge badge' : BadgeState) (trace mid trace' : TraceView) (question : Question) (event : Event) (starved : Bool)
    → open_question trace ≡ Some question → IsAsBefore trace mid → AnswerOf told refused hall badge hall' badge' question event → Grows mid trace' (record { event = event; starved = starved }) → left_of trace' < left_of trace
left_asked told refused hall hall' badge badge' trace mid trace' question (events.Told answer) starved stands r a g =
    let q = question_open trace question stands in
    let by_state : (b : Bool) → is_closed trace'.session.state ≡ b → left_of trace' < left_of trace =
    elim [
      | true ↦ λ s. left_over trace trace' question stands s
      | false ↦ λ s.
          let fewer = left_told mid trace' question answer starved (rest_open trace mid r q.0) (ap pending_question r.session ∙ q.1) a.1 g s in
          let after = left_open trace' s in
          let before = left_open trace q.0 in
          let same = ap (λ (x : SessionState). questions_left x.pending) r.session in
          omega (arith, fewer, after, before, same)
    ] in
    by_state (is_closed trace'.session.state) refl
left_asked told refused hall hall' badge badge' trace mid trace' question events.HallFull starved stands r a g =
    left_over trace trace' question stands (ended_more mid trace' (record { event = events.HallFull; starved = starved }) (rest_open trace mid r (question_open trace question stands).0) g refl)
left_asked told refused hall hall' badge badge' trace mid trace' question events.NoMemory starved stands r a g =
    left_over trace trace' question stands (ended_more mid trace' (record { event = events.NoMemory; starved = starved }) (rest_open trace mid r (question_open trace question stands).0) g refl)
left_asked told refused hall hall' badge badge' trace mid trace' question (events.Said item) starved stands r a g = absurd a
left_asked told refused hall hall' badge badge' trace mid trace' question (events.Broken fault) starved stands r a g = absurd a
left_asked told refused hall hall' badge badge' trace mid trace' question events.Tick starved stands r a g = absurd a
left_asked told refused hall hall' badge badge' trace mid trace' question events.Probe starved stands r a g = absurd a
left_asked told refused hall hall' badge badge' trace mid trace' question events.ReaderEnd starved stands r a g = absurd a
left_asked told refused hall hall' badge badge' trace mid trace' question events.WriteFault starved stands r a g = absurd a

-- after an answer that left fewer, what is asked is what is open
pub asks_next : (trace mid trace' : TraceView) (question : Question) (asked : Option Question) → open_question trace ≡ Some question → IsAsBefore trace mid → AsksPending mid.session trace'.session asked → left_of trace' < left_of trace → IsPending trace' asked
asks_next trace mid trace' question asked stands r (inl is) fewer going = is
asks_next trace mid trace' question asked stands r (inr same) fewer going =
    let e : trace'.session.pending ≡ trace.session.pending = same.1 ∙ ap (λ (s : SessionState). s.pending) r.session in
    absurd (omega (arith, fewer, left_open trace' going, left_open trace (question_open trace question stands).0, ap questions_left e))

-- what an input makes a session ask is open, where nothing was before it
pub asks_first : (mid trace' : TraceView) (asked : Option Question) → mid.session.pending ≡ None → AsksPending mid.session trace'.session asked → IsPending trace' asked
asks_first mid trace' asked free (inl is) going = is
asks_first mid trace' asked free (inr same) going = same.0 ∙ sym (no_question trace'.session (same.1 ∙ free))

-- whatever is asked may be asked on
pub may_ask : (before after : SessionState) (trace : TraceView) (asked : Option Question) → AsksPending before after asked → (is_closed trace.session.state ≡ false → trace.session ≡ after) → MayAsk trace asked
may_ask before after trace asked (inl is) kept question some going = ap pending_question (kept going) ∙ sym is ∙ some
may_ask before after trace asked (inr same) kept question some going = absurd (let clash : None ≡ Some question = sym same.0 ∙ some in cc)

pub may_ask_on : (trace : TraceView) (asked : Option Question) → IsPending trace asked → MayAsk trace asked
may_ask_on trace asked is question some going = sym (is going) ∙ some

-- what may be asked may be asked where the trace is as it was, if it goes on
pub may_ask_kept : (trace trace' : TraceView) (asked : Option Question) → (is_closed trace'.session.state ≡ false → trace' ≡ trace) → MayAsk trace asked → MayAsk trace' asked
may_ask_kept trace trace' asked kept may question some going =
    let same : trace' ≡ trace = kept going in
    ap (λ (t : TraceView). pending_question t.session) same ∙ may question some (ap (λ (t : TraceView). is_closed t.session.state) (sym same) ∙ going)

-- what is open goes on to where the trace is as it was, if it goes on
pub pending_on : (trace trace' : TraceView) (asked : Option Question) → (is_closed trace'.session.state ≡ false → trace' ≡ trace) → IsPending trace asked → IsPending trace' asked
pending_on trace trace' asked kept is going =
    let same : trace' ≡ trace = kept going in
    is (ap (λ (t : TraceView). is_closed t.session.state) (sym same) ∙ going) ∙ ap (λ (t : TraceView). pending_question t.session) (sym same)

-- a step that ends the session has nothing to send
pub silent_step : (trace trace' : TraceView) (event : Event) (sent : List Message) (asked : Option Question) → IsOpen trace → TraceSteps trace trace' event sent asked → is_closed trace'.session.state ≡ true → sent ≡ []
silent_step trace trace' event sent asked going t closed = t.messages ∙ silent_more trace trace' (record { event = event; starved = t.starved }) going t.grows closed

-- ---- sending

counted_more : (x y : List ℕ) (n k m : ℕ) → n ≡ counted x → k ≡ counted y → m ≡ min (n + k) (2 ^ 64 - 1) → m ≡ counted (x ++ y)
counted_more x y n k m a b e = omega (arith, length-append x y)

append_right : {T : Type 0} (xs ys : List T) → xs ++ ys ≡ [] → ys ≡ []
append_right [] ys e = e
append_right (x ∷ xs) ys e = absurd cc

-- where nothing was to be written but what follows, what lacked memory is still so
lacked_still : {H : Type 0} (refused : H → BadgeState → Fault → Type 0) (trace : TraceView) (hall : H) (badge : BadgeState) (held held' : Option (List ℕ)) (failed failed' : Bool) (written written' : ℕ) (text rest following : List ℕ) → text ≡ []
    → Lacked refused (progress trace hall badge held failed written) (text ++ following) ⊎ (false ≡ true) → Lacked refused (progress trace hall badge held' failed' written') (rest ++ following) ⊎ (false ≡ true)
lacked_still refused trace hall badge held held' failed failed' written written' text rest following none (inl (inl place)) = inl (inl place)
lacked_still refused trace hall badge held held' failed failed' written written' text rest following none (inl (inr (inl call))) = inl (inr (inl call))
lacked_still refused trace hall badge held held' failed failed' written written' text rest following none (inl (inr (inr some))) =
    inl (inr (inr (λ e. some (ap (λ (x : List ℕ). x ++ following) none ∙ append_right rest following e))))
lacked_still refused trace hall badge held held' failed failed' written written' text rest following none (inr e) = inr e

-- some of what was to be written went out, before what follows it
pub accounts_wrote : {H : Type 0} (told : H → BadgeState → List Reply → H → BadgeState → Type 0) (refused : H → BadgeState → Fault → Type 0) (from : Origin H) (trace : TraceView) (hall : H) (badge : BadgeState)
    (held held' : Option (List ℕ)) (failed failed' : Bool) (written written' n : ℕ) (inputs : List Event) (text rest following : List ℕ) (lost : Bool)
    → (is_closed trace.session.state ≡ true → text ≡ []) → Wrote held held' text n rest → written' ≡ min (written + n) (2 ^ 64 - 1) → (failed ≡ true → failed' ≡ true)
    → Accounts told refused from (progress trace hall badge held failed written) inputs (text ++ following) lost false → Accounts told refused from (progress trace hall badge held' failed' written') inputs (rest ++ following) lost false
accounts_wrote told refused from trace hall badge held held' failed failed' written written' n inputs text rest following lost silent w count stays a =
    record {
      settings = a.settings;
      history = a.history;
      stands = a.stands;
      wrote = record {
        sent = a.wrote.sent ++ w.sent;
        parts =
            a.wrote.parts ∙ ap (λ (x : List ℕ). a.wrote.sent ++ (x ++ following)) w.parts
            ∙ ap (λ (x : List ℕ). a.wrote.sent ++ x) (append_assoc w.sent rest following) ∙ sym (append_assoc a.wrote.sent w.sent (rest ++ following));
        appended = Appends-then from.held held held' a.wrote.sent w.sent a.wrote.appended w.appended;
        count = λ tells. counted_more a.wrote.sent w.sent written n written' (a.wrote.count tells) (w.count (tells_still from.held held a.wrote.sent a.wrote.appended tells)) count;
      };
      inputs_are = a.inputs_are;
      prompt = a.prompt;
      replies_are = a.replies_are;
      each_told = a.each_told;
      write_fault = λ h. stays (a.write_fault h);
      hall_full = a.hall_full;
      no_memory =
          let by_state : (b : Bool) → is_closed trace.session.state ≡ b → has_kind is_no_memory a.history ≡ true → Lacked refused (progress trace hall badge held' failed' written') (rest ++ following) ⊎ (false ≡ true) =
          elim [
            | true ↦ λ over h. lacked_still refused trace hall badge held held' failed failed' written written' text rest following (silent over) (a.no_memory h)
            | false ↦ λ going h. no_shortage told refused from (progress trace hall badge held failed written) inputs (text ++ following) lost false a going h
          ] in
          by_state (is_closed trace.session.state) refl;
      beats_are = a.beats_are;
      losses = a.losses;
    }

pub ok_err : {T E : Type 0} (r : Result T E) (e : E) → r ≡ Err e → IsOk r → ⊥
ok_err (Ok x) e is h = absurd cc
ok_err (Err x) e is h = cc

text_some : (message : Message) → text message ≢ []
unfolding envelope_text
text_some message e = absurd (let empty = e in cc)

append_left : {T : Type 0} (xs ys : List T) → xs ++ ys ≡ [] → xs ≡ []
append_left [] ys e = refl
append_left (x ∷ xs) ys e = absurd cc

texts_some : (messages : List Message) → messages ≢ [] → texts messages ≢ []
texts_some [] some e = some refl
texts_some (message ∷ messages) some e = text_some message (append_left (text message) (texts messages) e)

-- where a whole message is left, bytes are missing
pub whole_missing : (messages : List Message) (missing : List ℕ) → IsTextOfLast messages missing → missing ≢ []
whole_missing messages missing left none = texts_some left.last left.some (sym left.text_is ∙ none)

-- and with what follows them
pub front_some : {T : Type 0} (xs ys : List T) → xs ≢ [] → xs ++ ys ≢ []
front_some xs ys some e = some (append_left xs ys e)

-- ---- giving an input

-- there was no room for an input
pub gave_none : {H : Type 0} (told : H → BadgeState → List Reply → H → BadgeState → Type 0) (refused : H → BadgeState → Fault → Type 0) (from : Origin H) (now : Progress H) (inputs : List Event) (missing : List ℕ) (event : Event)
    → Accounts told refused from now inputs missing true false → is_closed now.trace.session.state ≡ true → Gave told refused from now inputs event
gave_none told refused from now inputs missing event a closed =
    record {
      given = inputs;
      settled = record {
        sent = record { missing = missing; lost = true; accounts = a; whole = λ h. absurd (let clash : true ≡ false = h in cc); told_loss = λ h. inr refl };
        answered = λ h. not_both (is_closed now.trace.session.state) h closed;
      };
      which = inr (refl, closed);
    }

-- ---- one conversation

-- messages were on their way, and went out or were lost
pub sent_ok : {H : Type 0} (told : H → BadgeState → List Reply → H → BadgeState → Type 0) (refused : H → BadgeState → Fault → Type 0) (from : Origin H) (now : Progress H) (inputs : List Event) (missing later : List ℕ) (lost : Bool)
    → Accounts told refused from now inputs missing lost false → missing ≡ later → (now.failed ≡ true → from.failed ≡ true) → Sent told refused from now inputs later false
sent_ok told refused from now inputs missing later lost a e before = record { missing = missing; lost = lost; accounts = a; whole = λ h. e; told_loss = λ h. inl (before h) }

pub sent_lost : {H : Type 0} (told : H → BadgeState → List Reply → H → BadgeState → Type 0) (refused : H → BadgeState → Fault → Type 0) (from : Origin H) (now : Progress H) (inputs : List Event) (missing later : List ℕ) (unkept : Bool)
    → Accounts told refused from now inputs missing true unkept → Sent told refused from now inputs later unkept
sent_lost told refused from now inputs missing later unkept a = record { missing = missing; lost = true; accounts = a; whole = λ h. absurd (let clash : true ≡ false = h in cc); told_loss = λ h. inr refl }

-- with nothing that follows
pub underway_nil : {H : Type 0} (told : H → BadgeState → List Reply → H → BadgeState → Type 0) (refused : H → BadgeState → Fault → Type 0) (from : Origin H) (now : Progress H) (inputs : List Event) (missing : List ℕ) (unkept : Bool)
    → Underway told refused from now inputs missing unkept → Underway told refused from now inputs (missing ++ []) unkept
underway_nil told refused from now inputs missing unkept u = subst (λ (ms : List ℕ). Underway told refused from now inputs ms unkept) (sym (append-nil missing)) u
