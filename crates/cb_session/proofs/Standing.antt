-- The account between two inputs, while messages may be held back.
use Rattle.std.proofs.Common.{◌≡◌, ℕ, Bool, true, false, ◌||◌, List, [], ◌∷◌, ◌++◌, ◌⊎◌, Option, None, Some, refl, sym, ap, subst, ◌∙◌, inl, inr}
use Rattle.cb_base.specs.declared.fault.Fault.{Fault}
use Rattle.cb_wire.specs.declared.message.Message.{Message}
use Rattle.cb_wire.specs.Stream.{texts}
use Rattle.cb_hall.specs.Badge.{BadgeState}
use Rattle.cb_hall.specs.Histories.{Reply}
use Rattle.cb_hall.specs.declared.question.Question.{Question}
use Rattle.cb_peer_state.specs.declared.settings.Settings.{Settings}
use Rattle.cb_peer_state.specs.declared.event.Event.{Event}
use Rattle.cb_peer_state.specs.declared.event.Event.TheVariants as events
use Rattle.cb_peer_state.specs.declared.session_state.SessionState.{SessionState}
use Rattle.cb_peer_state.specs.Event.{begins, is_beat, is_hall_full, is_input, is_no_memory, is_told, is_write_fault, kind_of, loses}
use Rattle.cb_peer_state.specs.Questions.{pending_question}
use Rattle.cb_peer_state.specs.Session.{openings}
use Rattle.cb_peer_state.specs.State.{is_closed}
use Rattle.cb_trace.specs.declared.trace.TraceEntry.{TraceEntry}
use Rattle.cb_trace.specs.Fold.{has_kind, replies_to}
use Rattle.cb_trace.specs.Trace.{IsAsBefore, IsOpen, Readied, StandsFor, TraceSteps, TraceView}
use Rattle.cb_session.specs.Conversation.{Accounts, Gave, IsLoss, Origin, Progress, Sent, Settled, Stands, Underway, beat_in, input_in, origin_of, progress, with_event}
use Rattle.cb_session.proofs.Accounts.{AccountsOf, Adds, Changes, IsOracle, accounts_grow, accounts_lost, accounts_ran, accounts_rest, ended_more, loss_plain, no_answer, none_more, not_both, one_input, open_told, open_whole, ran_closed, ran_out, rest_open, same_beats, same_missing, silent_step, with_beats}
use Rattle.cb_session.proofs.Ending.{accounts_first, first_free}

-- ---- nothing is held back

-- a conversation that is settled holds nothing back
pub settled_stands : {H : Type 0} (told : H → BadgeState → List Reply → H → BadgeState → Type 0) (refused : H → BadgeState → Fault → Type 0) (from : Origin H) (now : Progress H) (inputs : List Event) (held_back : List ℕ) (unkept : Bool)
    → held_back ≡ [] → Settled told refused from now inputs unkept → Stands told refused from now inputs held_back unkept
settled_stands told refused from now inputs held_back unkept none s =
    record {
      sent = subst (λ (bytes : List ℕ). Sent told refused from now inputs bytes unkept) (sym none) s.sent;
      unasked = λ some. absurd (some none);
      answered = s.answered;
    }

-- and one that holds nothing back is settled
pub stands_settled : {H : Type 0} (told : H → BadgeState → List Reply → H → BadgeState → Type 0) (refused : H → BadgeState → Fault → Type 0) (from : Origin H) (now : Progress H) (inputs : List Event) (held_back : List ℕ) (unkept : Bool)
    → held_back ≡ [] → Stands told refused from now inputs held_back unkept → Settled told refused from now inputs unkept
stands_settled told refused from now inputs held_back unkept none s =
    record {
      sent = subst (λ (bytes : List ℕ). Sent told refused from now inputs bytes unkept) none s.sent;
      answered = s.answered;
    }

-- what is left of nothing is nothing
pub left_none : {T : Type 0} (left held_back : List T) → (left ≡ held_back) ⊎ (left ≡ []) → held_back ≡ [] → left ≡ []
left_none left held_back (inl same) none = same ∙ none
left_none left held_back (inr empty) none = empty

-- ---- the same in other words for where it is

-- how far a conversation is, part by part
progress_is : {H : Type 0} (trace trace' : TraceView) (hall hall' : H) (badge badge' : BadgeState) (held held' : Option (List ℕ)) (failed failed' : Bool) (written written' : ℕ)
    → trace' ≡ trace → hall' ≡ hall → badge' ≡ badge → held' ≡ held → failed' ≡ failed → written' ≡ written → progress trace' hall' badge' held' failed' written' ≡ progress trace hall badge held failed written
progress_is {H = H} trace trace' hall hall' badge badge' held held' failed failed' written written' t h b k f w =
    ap (λ (x : TraceView). progress x hall' badge' held' failed' written') t ∙ ap (λ (x : H). progress trace x badge' held' failed' written') h
    ∙ ap (λ (x : BadgeState). progress trace hall x held' failed' written') b ∙ ap (λ (x : Option (List ℕ)). progress trace hall badge x failed' written') k
    ∙ ap (λ (x : Bool). progress trace hall badge held x written') f ∙ ap (λ (x : ℕ). progress trace hall badge held failed x) w

pub stands_at : {H : Type 0} (told : H → BadgeState → List Reply → H → BadgeState → Type 0) (refused : H → BadgeState → Fault → Type 0) (from : Origin H) (trace trace' : TraceView) (hall hall' : H) (badge badge' : BadgeState) (held held' : Option (List ℕ)) (failed failed' : Bool) (written written' : ℕ) (inputs : List Event) (held_back : List ℕ) (unkept : Bool)
    → trace' ≡ trace → hall' ≡ hall → badge' ≡ badge → held' ≡ held → failed' ≡ failed → written' ≡ written
    → Stands told refused from (progress trace hall badge held failed written) inputs held_back unkept → Stands told refused from (progress trace' hall' badge' held' failed' written') inputs held_back unkept
stands_at {H = H} told refused from trace trace' hall hall' badge badge' held held' failed failed' written written' inputs held_back unkept t h b k f w s =
    subst (λ (now : Progress H). Stands told refused from now inputs held_back unkept) (sym (progress_is trace trace' hall hall' badge badge' held held' failed failed' written written' t h b k f w)) s

-- ---- at the beginning

-- a trace with no entries, whose opening messages are held back
pub stands_first : {H : Type 0} (told : H → BadgeState → List Reply → H → BadgeState → Type 0) (refused : H → BadgeState → Fault → Type 0) (oracle : IsOracle told refused) (settings : Settings) (trace : TraceView) (hall : H) (badge : BadgeState)
    (held : Option (List ℕ)) (failed : Bool) (messages : List Message) → trace.settings ≡ settings → StandsFor trace [] → messages ≡ openings settings
    → Stands told refused (origin_of settings hall badge held failed) (progress trace hall badge held failed 0) [] (texts messages) false
stands_first told refused oracle settings trace hall badge held failed messages s stands m =
    let first = accounts_first told refused oracle settings trace hall badge held failed messages s stands m in
    record {
      sent = record { missing = texts messages; lost = false; accounts = first.accounts; whole = λ _. refl; told_loss = λ h. inl h };
      unasked = λ _. ap (has_kind is_told) first.history_is;
      answered = first_free trace trace stands (λ _. refl);
    }

-- ---- room in the trace

-- room was made for an event
pub stands_ready : {H : Type 0} (told : H → BadgeState → List Reply → H → BadgeState → Type 0) (refused : H → BadgeState → Fault → Type 0) (from : Origin H) (trace trace' : TraceView) (hall : H) (badge : BadgeState)
    (held : Option (List ℕ)) (failed : Bool) (written : ℕ) (inputs : List Event) (held_back : List ℕ) → IsOpen trace → Readied trace trace' true
    → Stands told refused from (progress trace hall badge held failed written) inputs held_back false → Stands told refused from (progress trace' hall badge held failed written) inputs held_back false
stands_ready told refused from trace trace' hall badge held failed written inputs held_back going ready s =
    let same = ready.rests.same in
    let rested = accounts_rest told refused from trace trace' hall badge held failed written inputs s.sent.missing s.sent.lost going same s.sent.accounts in
    record {
      sent = record { missing = s.sent.missing; lost = s.sent.lost; accounts = rested.accounts; whole = s.sent.whole; told_loss = s.sent.told_loss };
      unasked = λ some. ap (has_kind is_told) rested.history_is ∙ s.unasked some;
      answered = λ h. ap (λ (x : SessionState). x.pending) same.session ∙ s.answered going;
    }

-- an event that loses messages was logged
stands_over : {H : Type 0} (told : H → BadgeState → List Reply → H → BadgeState → Type 0) (refused : H → BadgeState → Fault → Type 0) (from : Origin H) (now now' : Progress H) (inputs : List Event) (held_back missing : List ℕ) (unkept : Bool) (entry : TraceEntry)
    → (s : Stands told refused from now inputs held_back false) → AccountsOf told refused from now' inputs missing true unkept (s.sent.accounts.history ++ entry ∷ []) → is_told (kind_of entry.event) ≡ false → is_closed now'.trace.session.state ≡ true
    → Stands told refused from now' inputs held_back unkept
stands_over told refused from now now' inputs held_back missing unkept entry s a plain closed =
    record {
      sent = record { missing = missing; lost = true; accounts = a.accounts; whole = λ h. absurd (let clash : true ≡ false = h in cc); told_loss = λ h. inr refl };
      unasked = λ some. ap (has_kind is_told) a.history_is ∙ none_more is_told s.sent.accounts.history entry (s.unasked some) plain;
      answered = λ h. not_both (is_closed now'.trace.session.state) h closed;
    }

-- there was no room, and `NoMemory` was logged with its cause: the trace has no place
pub stands_starved : {H : Type 0} (told : H → BadgeState → List Reply → H → BadgeState → Type 0) (refused : H → BadgeState → Fault → Type 0) (oracle : IsOracle told refused) (from : Origin H) (trace trace' : TraceView) (hall : H) (badge : BadgeState)
    (held : Option (List ℕ)) (failed : Bool) (written : ℕ) (inputs : List Event) (held_back : List ℕ) (unkept : Bool) → IsOpen trace → Readied trace trace' false
    → Stands told refused from (progress trace hall badge held failed written) inputs held_back false → Stands told refused from (progress trace' hall badge held failed written) inputs held_back unkept
stands_starved told refused oracle from trace trace' hall badge held failed written inputs held_back unkept going starved s =
    stands_over told refused from (progress trace hall badge held failed written) (progress trace' hall badge held failed written) inputs held_back s.sent.missing unkept ran_out s
    (accounts_ran told refused oracle from trace trace' hall badge held failed written inputs s.sent.missing s.sent.lost unkept going starved s.sent.accounts) refl (ran_closed trace trace' starved)

-- the trace was given an event that loses messages
pub stands_lost : {H : Type 0} (told : H → BadgeState → List Reply → H → BadgeState → Type 0) (refused : H → BadgeState → Fault → Type 0) (oracle : IsOracle told refused) (from : Origin H) (trace mid trace' : TraceView) (hall : H) (badge : BadgeState)
    (held : Option (List ℕ)) (failed : Bool) (written : ℕ) (inputs : List Event) (held_back : List ℕ) (event : Event) (sent : List Message) (asked : Option Question)
    → IsOpen trace → IsAsBefore trace mid → TraceSteps mid trace' event sent asked → IsLoss event → is_write_fault (kind_of event) ≡ false
    → Stands told refused from (progress trace hall badge held failed written) inputs held_back false → Stands told refused from (progress trace' hall badge held failed written) inputs held_back true
stands_lost told refused oracle from trace mid trace' hall badge held failed written inputs held_back event sent asked going r t loss unwritten s =
    let entry : TraceEntry = record { event = event; starved = t.starved } in
    stands_over told refused from (progress trace hall badge held failed written) (progress trace' hall badge held failed written) inputs held_back s.sent.missing true entry s
    (accounts_lost told refused oracle from trace mid trace' hall badge held failed written inputs s.sent.missing s.sent.lost true entry going r t.grows loss (λ h. not_both (is_write_fault (kind_of event)) unwritten h) (λ _. inr refl) s.sent.accounts)
    (loss_plain event loss.loses_messages).4 (ended_more mid trace' entry (rest_open trace mid r going) t.grows loss.ends)

-- ---- an event that begins something new

-- it is no answer, loses nothing, and says nothing of the sink or the hall
record IsPlain (event : Event) : Type 0 where
  no_told : is_told (kind_of event) ≡ false
  no_write : is_write_fault (kind_of event) ≡ false
  no_hall : is_hall_full (kind_of event) ≡ false
  no_shortage : is_no_memory (kind_of event) ≡ false
  no_loss : loses (kind_of event) ≡ false
  replies_none : (pending : Option Question) → replies_to pending event ≡ []

begins_plain : (event : Event) → begins (kind_of event) ≡ true → IsPlain event
begins_plain (events.Said item) e = record { no_told = refl; no_write = refl; no_hall = refl; no_shortage = refl; no_loss = refl; replies_none = elim [ None ↦ refl | Some q ↦ refl ] }
begins_plain (events.Broken fault) e = record { no_told = refl; no_write = refl; no_hall = refl; no_shortage = refl; no_loss = refl; replies_none = elim [ None ↦ refl | Some q ↦ refl ] }
begins_plain events.Tick e = record { no_told = refl; no_write = refl; no_hall = refl; no_shortage = refl; no_loss = refl; replies_none = elim [ None ↦ refl | Some q ↦ refl ] }
begins_plain events.Probe e = record { no_told = refl; no_write = refl; no_hall = refl; no_shortage = refl; no_loss = refl; replies_none = elim [ None ↦ refl | Some q ↦ refl ] }
begins_plain (events.Told answer) e = absurd cc
begins_plain events.ReaderEnd e = record { no_told = refl; no_write = refl; no_hall = refl; no_shortage = refl; no_loss = refl; replies_none = elim [ None ↦ refl | Some q ↦ refl ] }
begins_plain events.NoMemory e = absurd cc
begins_plain events.HallFull e = absurd cc
begins_plain events.WriteFault e = absurd cc

-- an input begins something new, and is no timer event
pub input_begins : (event : Event) → is_input (kind_of event) ≡ true → begins (kind_of event) ≡ true
input_begins (events.Said item) e = refl
input_begins (events.Broken fault) e = refl
input_begins events.Tick e = refl
input_begins events.Probe e = refl
input_begins (events.Told answer) e = absurd cc
input_begins events.ReaderEnd e = refl
input_begins events.NoMemory e = absurd cc
input_begins events.HallFull e = absurd cc
input_begins events.WriteFault e = absurd cc

input_no_beat : (event : Event) → is_input (kind_of event) ≡ true → is_beat (kind_of event) ≡ false
input_no_beat (events.Said item) e = refl
input_no_beat (events.Broken fault) e = refl
input_no_beat events.Tick e = absurd cc
input_no_beat events.Probe e = absurd cc
input_no_beat (events.Told answer) e = refl
input_no_beat events.ReaderEnd e = refl
input_no_beat events.NoMemory e = refl
input_no_beat events.HallFull e = refl
input_no_beat events.WriteFault e = refl

-- what was lost is so with it
or_kept : (a b : Bool) → b ≡ false → (a || (b || false)) ≡ a
or_kept true b e = refl
or_kept false true e = absurd cc
or_kept false false e = refl

-- a trace grew by it
accounts_begun : {H : Type 0} (told : H → BadgeState → List Reply → H → BadgeState → Type 0) (refused : H → BadgeState → Fault → Type 0) (oracle : IsOracle told refused) (from : Origin H) (trace trace' : TraceView) (hall : H) (badge : BadgeState)
    (held : Option (List ℕ)) (failed : Bool) (written : ℕ) (inputs : List Event) (missing : List ℕ) (lost : Bool) (event : Event) (sent : List Message) (asked : Option Question)
    → IsOpen trace → begins (kind_of event) ≡ true → trace.session.pending ≡ None → (t : TraceSteps trace trace' event sent asked)
    → (a : Accounts told refused from (progress trace hall badge held failed written) inputs missing lost false)
    → AccountsOf told refused (with_event from event) (progress trace' hall badge held failed written) (inputs ++ input_in event) (missing ++ texts sent) lost false (a.history ++ record { event = event; starved = t.starved } ∷ [])
accounts_begun told refused oracle from trace trace' hall badge held failed written inputs missing lost event sent asked going new free t a =
    let p = begins_plain event new in
    let none = p.replies_none (pending_question trace.session) in
    let changes : Changes told refused trace failed hall hall badge badge event =
    record {
      failed_told = λ h. not_both (is_write_fault (kind_of event)) p.no_write h;
      full_told = λ h. not_both (is_hall_full (kind_of event)) p.no_hall h;
      told_next = subst (λ (rs : List Reply). told hall badge rs hall badge) (sym none) (oracle.none hall badge);
      one_told = no_answer _ _ none p.no_told;
      free = λ _. free;
    } in
    let adds : Adds trace (record { event = event; starved = t.starved }) from.beats (from.beats ++ beat_in event) inputs (inputs ++ input_in event) missing (missing ++ texts sent) lost lost =
    record {
      beats_are = refl;
      inputs_are = refl;
      missing_are = ap (λ (ms : List Message). missing ++ texts ms) (sym t.messages);
      lost_is = or_kept lost (loses (kind_of event)) p.no_loss;
    } in
    accounts_grow told refused oracle from trace trace' hall hall badge badge held failed written (from.beats ++ beat_in event) inputs (inputs ++ input_in event) missing (missing ++ texts sent) lost lost false
    (record { event = event; starved = t.starved }) going a t.grows changes adds (λ h. not_both (is_no_memory (kind_of event)) p.no_shortage h)

-- it ended the session, and nothing was written
pub stands_ended : {H : Type 0} (told : H → BadgeState → List Reply → H → BadgeState → Type 0) (refused : H → BadgeState → Fault → Type 0) (oracle : IsOracle told refused) (from : Origin H) (trace trace' : TraceView) (hall : H) (badge : BadgeState)
    (held : Option (List ℕ)) (failed : Bool) (written : ℕ) (inputs : List Event) (held_back : List ℕ) (event : Event) (sent : List Message) (asked : Option Question)
    → IsOpen trace → begins (kind_of event) ≡ true → TraceSteps trace trace' event sent asked → is_closed trace'.session.state ≡ true
    → Stands told refused from (progress trace hall badge held failed written) inputs held_back false → Stands told refused (with_event from event) (progress trace' hall badge held failed written) (inputs ++ input_in event) held_back false
stands_ended {H = H} told refused oracle from trace trace' hall badge held failed written inputs held_back event sent asked going new t closed s =
    let a = accounts_begun told refused oracle from trace trace' hall badge held failed written inputs s.sent.missing s.sent.lost event sent asked going new (s.answered going) t s.sent.accounts in
    let silent : sent ≡ [] = silent_step trace trace' event sent asked going t closed in
    record {
      sent = record {
        missing = s.sent.missing ++ texts sent;
        lost = s.sent.lost;
        accounts = a.accounts;
        whole = λ h. same_missing s.sent.missing sent silent ∙ s.sent.whole h;
        told_loss = s.sent.told_loss;
      };
      unasked = λ some. ap (has_kind is_told) a.history_is ∙ none_more is_told s.sent.accounts.history (record { event = event; starved = t.starved }) (s.unasked some) (begins_plain event new).no_told;
      answered = λ h. not_both (is_closed trace'.session.state) h closed;
    }

-- it didn't end the session: what was held back and its messages are on their way, and lead to
-- where nothing is held back
pub stands_on : {H : Type 0} (told : H → BadgeState → List Reply → H → BadgeState → Type 0) (refused : H → BadgeState → Fault → Type 0) (oracle : IsOracle told refused) (from : Origin H) (trace trace' : TraceView) (hall : H) (badge : BadgeState)
    (held : Option (List ℕ)) (failed : Bool) (written : ℕ) (now : Progress H) (inputs : List Event) (held_back left : List ℕ) (event : Event) (sent : List Message) (asked : Option Question)
    → IsOpen trace → begins (kind_of event) ≡ true → TraceSteps trace trace' event sent asked → left ≡ []
    → ((o : Origin H) → (failed ≡ true → o.failed ≡ true) → Underway told refused o (progress trace' hall badge held failed written) (inputs ++ input_in event) (held_back ++ texts sent) false → Settled told refused o now (inputs ++ input_in event) false)
    → Stands told refused from (progress trace hall badge held failed written) inputs held_back false → Stands told refused (with_event from event) now (inputs ++ input_in event) left false
stands_on {H = H} told refused oracle from trace trace' hall badge held failed written now inputs held_back left event sent asked going new t none leads s =
    let before : Progress H = progress trace hall badge held failed written in
    let a = accounts_begun told refused oracle from trace trace' hall badge held failed written inputs held_back false event sent asked going new (s.answered going) t (open_whole told refused from before inputs held_back s.sent going) in
    settled_stands told refused (with_event from event) now (inputs ++ input_in event) left false none
    (leads (with_event from event) (λ h. open_told told refused from before inputs held_back s.sent going h) (record { lost = false; accounts = a.accounts }))

-- ---- an input given where nothing is held back

-- it stands among the inputs
pub stands_gave : {H : Type 0} (told : H → BadgeState → List Reply → H → BadgeState → Type 0) (refused : H → BadgeState → Fault → Type 0) (from : Origin H) (now : Progress H) (inputs : List Event) (held_back : List ℕ) (event : Event) → is_input (kind_of event) ≡ true → held_back ≡ []
    → Stands told refused (with_event from event) now (inputs ++ input_in event) held_back false → Gave told refused from now inputs event
stands_gave {H = H} told refused from now inputs held_back event input none s =
    let same : with_event from event ≡ from = ap (with_beats from) (same_beats from.beats event (input_no_beat event input)) in
    let one : inputs ++ input_in event ≡ inputs ++ event ∷ [] = ap (λ (is : List Event). inputs ++ is) (one_input event input) in
    record {
      given = inputs ++ event ∷ [];
      settled =
          subst (λ (is : List Event). Settled told refused from now is false) one
          (subst (λ (o : Origin H). Settled told refused o now (inputs ++ input_in event) false) same (stands_settled told refused (with_event from event) now (inputs ++ input_in event) held_back false none s));
      which = inl refl;
    }
