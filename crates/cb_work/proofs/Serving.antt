-- The account of a work, one event at a time.
use Rattle.std.proofs.Common.{◌≡◌, ◌⊎◌, ◌≤◌, ◌<◌, ℕ, ◌+◌, Bool, true, false, List, [], ◌∷◌, ◌++◌, length, Option, inl, inr, refl, sym, ap, subst, ◌∙◌, zero-add}
use Rattle.std.specs.Prelude.{None}
use Rattle.std.proofs.lemmas.Bool.{cases_lt}
use Rattle.std.proofs.lemmas.List.{append-nil}
use Rattle.cb_base.specs.declared.fault.Fault.{Fault}
use Rattle.cb_state.specs.declared.connection.Connection.{Connection}
use Rattle.cb_wire.specs.declared.message.Message.{Message}
use Rattle.cb_wire.specs.Stream.{texts}
use Rattle.cb_hall.specs.Badge.{BadgeState, fresh_badge}
use Rattle.cb_hall.specs.Histories.{Reply}
use Rattle.cb_peer_state.specs.declared.settings.Settings.{Settings}
use Rattle.cb_peer_state.specs.declared.event.Event.{Event}
use Rattle.cb_peer_state.specs.declared.event.Event.TheVariants as events
use Rattle.cb_peer_state.specs.Event.{begins, is_told, kind_of}
use Rattle.cb_peer_state.specs.Session.{openings}
use Rattle.cb_peer_state.specs.State.{is_closed}
use Rattle.cb_peer_state.specs.declared.session_state.SessionState.{SessionState}
use Rattle.cb_trace.specs.Fold.{has_kind}
use Rattle.cb_trace.specs.Trace.{IsShed, Readied, StandsFor, TraceView, weight_of}
use Rattle.cb_trace.specs.declared.trace.Counts.{Counts}
use Rattle.cb_session.specs.Conversation.{Accounts, Origin, Stands, beat_in, input_in, progress, with_event}
use Rattle.cb_session.proofs.Accounts.{AccountsOf, IsOracle, not_both}
use Rattle.cb_session.proofs.Standing.{stands_first, stands_ready, stands_starved}
use Rattle.cb_crew.specs.declared.work.Given.{Given}
use Rattle.cb_crew.specs.declared.work.Given.TheVariants as given
use Rattle.cb_session.specs.declared.input.Input.{Input}
use Rattle.cb_session.specs.declared.input.Input.TheVariants as inputs
use Rattle.cb_work.specs.PeerWork.{HoldsNothing, Serves, WorkState, beginning, events_of, is_over, items_after, reached, was_starved}

-- ---- one item more

starved_more : (items : List (Given Input)) (next : Given Input) → was_starved items ≡ false → was_starved (items ++ next ∷ []) ≡ was_starved (next ∷ [])
starved_more [] next e = refl
starved_more (given.Item (inputs.Said item) ∷ items) next e = starved_more items next e
starved_more (given.Item (inputs.Broken fault) ∷ items) next e = starved_more items next e
starved_more (given.Item inputs.NoMemory ∷ items) next e = absurd cc
starved_more (given.End ∷ items) next e = starved_more items next e

events_more : (items : List (Given Input)) (next : Given Input) → was_starved items ≡ false → events_of (items ++ next ∷ []) ≡ events_of items ++ events_of (next ∷ [])
events_more [] next e = refl
events_more (given.Item (inputs.Said item) ∷ items) next e = ap (λ (es : List Event). events.Said item ∷ es) (events_more items next e)
events_more (given.Item (inputs.Broken fault) ∷ items) next e = ap (λ (es : List Event). events.Broken fault ∷ es) (events_more items next e)
events_more (given.Item inputs.NoMemory ∷ items) next e = absurd cc
events_more (given.End ∷ items) next e = ap (λ (es : List Event). events.ReaderEnd ∷ es) (events_more items next e)

more_than_none : {T P : Type 0} (items : List T) (next : T) → items ++ next ∷ [] ≡ [] → P
more_than_none [] next e = absurd cc
more_than_none (item ∷ items) next e = absurd cc

-- ---- one event more

after_starved : (items : List (Given Input)) (event : Event) → was_starved items ≡ false → was_starved (items_after items event) ≡ false
after_starved items (events.Said item) e = starved_more items (given.Item (inputs.Said item)) e
after_starved items (events.Broken fault) e = starved_more items (given.Item (inputs.Broken fault)) e
after_starved items events.Tick e = e
after_starved items events.Probe e = e
after_starved items (events.Told answer) e = e
after_starved items events.ReaderEnd e = starved_more items given.End e
after_starved items events.NoMemory e = e
after_starved items events.HallFull e = e
after_starved items events.WriteFault e = e

after_events : (items : List (Given Input)) (event : Event) → was_starved items ≡ false → events_of (items_after items event) ≡ events_of items ++ input_in event
after_events items (events.Said item) e = events_more items (given.Item (inputs.Said item)) e
after_events items (events.Broken fault) e = events_more items (given.Item (inputs.Broken fault)) e
after_events items events.Tick e = sym (append-nil (events_of items))
after_events items events.Probe e = sym (append-nil (events_of items))
after_events items (events.Told answer) e = sym (append-nil (events_of items))
after_events items events.ReaderEnd e = events_more items given.End e
after_events items events.NoMemory e = sym (append-nil (events_of items))
after_events items events.HallFull e = sym (append-nil (events_of items))
after_events items events.WriteFault e = sym (append-nil (events_of items))

-- what begins something new is an item, a tick or a probe
some_after : {P : Type 0} (items : List (Given Input)) (beats : List Event) (event : Event) → begins (kind_of event) ≡ true → items_after items event ≡ [] → beats ++ beat_in event ≡ [] → P
some_after items beats (events.Said item) b e f = more_than_none items _ e
some_after items beats (events.Broken fault) b e f = more_than_none items _ e
some_after items beats events.Tick b e f = more_than_none beats _ f
some_after items beats events.Probe b e f = more_than_none beats _ f
some_after items beats (events.Told answer) b e f = absurd cc
some_after items beats events.ReaderEnd b e f = more_than_none items _ e
some_after items beats events.NoMemory b e f = absurd cc
some_after items beats events.HallFull b e f = absurd cc
some_after items beats events.WriteFault b e f = absurd cc

-- ---- where a work began

abbrev origin : {H : Type 0} → H → Option (List ℕ) → List Event → Settings → Connection → Origin H
origin hall held beats settings connection = record { settings = settings; hall = hall; badge = fresh_badge connection; held = held; failed = false; beats = beats }

origin_after : {H : Type 0} (hall : H) (held : Option (List ℕ)) (beats : List Event) (settings : Settings) (connection : Connection) (event : Event)
    → with_event (origin hall held beats settings connection) event ≡ origin hall held (beats ++ beat_in event) settings connection
origin_after hall held beats settings connection event = refl

-- an oracle keeps the badge's connection
abbrev pub KeepsConnection : {H : Type 0} → (H → BadgeState → List Reply → H → BadgeState → Type 0) → Type 0
KeepsConnection {H} told = (a b : H) (x y : BadgeState) (replies : List Reply) → told a x replies b y → y.connection ≡ x.connection

-- an account from where a work began is one from where it begins as it is now
moved : {S H F : Type 0} (told : H → BadgeState → List Reply → H → BadgeState → Type 0) (refused : H → BadgeState → Fault → Type 0) (contents : S → Option (List ℕ)) (has_failed : S → Bool)
    (same : KeepsConnection told) (hall : H) (held : Option (List ℕ)) (beats : List Event) (settings : Settings) (connection : Connection) (new : WorkState S H F) (given : List Event) (unsent : List ℕ) (unkept : Bool)
    → Stands told refused (origin hall held beats settings connection) (reached contents has_failed new) given unsent unkept
    → Stands told refused (beginning new hall held beats) (reached contents has_failed new) given unsent unkept
moved told refused contents has_failed same hall held beats settings connection new given unsent unkept s =
    let kept : new.badge.connection ≡ connection = same _ _ _ _ _ s.sent.accounts.replies_are in
    let set : new.trace.settings ≡ settings = s.sent.accounts.settings in
    subst (λ (c : Connection). Stands told refused (origin hall held beats new.trace.settings c) (reached contents has_failed new) given unsent unkept) (sym kept)
    (subst (λ (t : Settings). Stands told refused (origin hall held beats t connection) (reached contents has_failed new) given unsent unkept) (sym set) s)

-- the badge's connection stays
pub same_badge : {S H F : Type 0} (told : H → BadgeState → List Reply → H → BadgeState → Type 0) (refused : H → BadgeState → Fault → Type 0) (contents : S → Option (List ℕ)) (has_failed : S → Bool)
    (same : KeepsConnection told) (old new : WorkState S H F) (hall : H) (held : Option (List ℕ)) (beats : List Event) (given : List Event) (unsent : List ℕ) (unkept : Bool)
    → Stands told refused (beginning old hall held beats) (reached contents has_failed new) given unsent unkept → new.badge.connection ≡ old.badge.connection
same_badge told refused contents has_failed same old new hall held beats given unsent unkept s = same _ _ _ _ _ s.sent.accounts.replies_are

-- ---- a work that goes on

not_starved : (starved over : Bool) → (starved ≡ true → over ≡ true) → over ≡ false → starved ≡ false
not_starved true over ends going = not_both over going (ends refl)
not_starved false over ends going = refl

-- its items don't say that memory ran out
pub unstarved : {S H F : Type 0} (told : H → BadgeState → List Reply → H → BadgeState → Type 0) (refused : H → BadgeState → Fault → Type 0) (contents : S → Option (List ℕ)) (has_failed : S → Bool)
    (work : WorkState S H F) (items : List (Given Input)) (beats : List Event) → is_over work ≡ false → Serves told refused contents has_failed work items beats → was_starved items ≡ false
unstarved told refused contents has_failed work items beats going s = not_starved (was_starved items) (is_over work) s.starved going

-- and its account says that all was kept
stands_kept : {S H F : Type 0} (told : H → BadgeState → List Reply → H → BadgeState → Type 0) (refused : H → BadgeState → Fault → Type 0) (contents : S → Option (List ℕ)) (has_failed : S → Bool)
    (work : WorkState S H F) (items : List (Given Input)) (beats : List Event) → is_over work ≡ false → (s : Serves told refused contents has_failed work items beats)
    → Stands told refused (beginning work s.hall (contents s.sink) beats) (reached contents has_failed work) (events_of items) (texts work.unsent) false
stands_kept told refused contents has_failed work items beats going s =
    subst (λ (b : Bool). Stands told refused (beginning work s.hall (contents s.sink) beats) (reached contents has_failed work) (events_of items) (texts work.unsent) b)
    (unstarved told refused contents has_failed work items beats going s) s.stands

-- ---- the calls

-- how a conversation goes from one work to the next by an event
abbrev pub Begins : {S H F : Type 0} → (H → BadgeState → List Reply → H → BadgeState → Type 0) → (H → BadgeState → Fault → Type 0) → (S → Option (List ℕ)) → (S → Bool) → WorkState S H F → Event → WorkState S H F → Type 0
Begins {S} {H} {F} told refused contents has_failed old event new =
    (from : Origin H) (given : List Event) → Stands told refused from (reached contents has_failed old) given (texts old.unsent) false
    → Stands told refused (with_event from event) (reached contents has_failed new) (given ++ input_in event) (texts new.unsent) false

-- an event was given that begins something new
pub serves_next : {S H F : Type 0} (told : H → BadgeState → List Reply → H → BadgeState → Type 0) (refused : H → BadgeState → Fault → Type 0) (contents : S → Option (List ℕ)) (has_failed : S → Bool)
    (same : KeepsConnection told) (old new : WorkState S H F) (event : Event) (items : List (Given Input)) (beats : List Event)
    → is_over old ≡ false → begins (kind_of event) ≡ true → Begins told refused contents has_failed old event new
    → Serves told refused contents has_failed old items beats → Serves told refused contents has_failed new (items_after items event) (beats ++ beat_in event)
serves_next {H = H} told refused contents has_failed same old new event items beats going begun leads s =
    let none = unstarved told refused contents has_failed old items beats going s in
    let held = contents s.sink in
    let after = leads (beginning old s.hall held beats) (events_of items) (stands_kept told refused contents has_failed old items beats going s) in
    let from = subst (λ (o : Origin H). Stands told refused o (reached contents has_failed new) (events_of items ++ input_in event) (texts new.unsent) false)
    (origin_after s.hall held beats old.trace.settings old.badge.connection event) after in
    let here = moved told refused contents has_failed same s.hall held (beats ++ beat_in event) old.trace.settings old.badge.connection new (events_of items ++ input_in event) (texts new.unsent) false from in
    record {
      hall = s.hall;
      sink = s.sink;
      empty = s.empty;
      unfailed = s.unfailed;
      stands =
          subst (λ (b : Bool). Stands told refused (beginning new s.hall held (beats ++ beat_in event)) (reached contents has_failed new) (events_of (items_after items event)) (texts new.unsent) b)
          (sym (after_starved items event none))
          (subst (λ (es : List Event). Stands told refused (beginning new s.hall held (beats ++ beat_in event)) (reached contents has_failed new) es (texts new.unsent) false)
          (sym (after_events items event none)) here);
      starved = λ h. not_both _ (after_starved items event none) h;
      waits = λ e f. some_after items beats event begun e f;
    }

-- the badge that it leaves
pub next_badge : {S H F : Type 0} (told : H → BadgeState → List Reply → H → BadgeState → Type 0) (refused : H → BadgeState → Fault → Type 0) (contents : S → Option (List ℕ)) (has_failed : S → Bool)
    (same : KeepsConnection told) (old new : WorkState S H F) (event : Event) (items : List (Given Input)) (beats : List Event)
    → is_over old ≡ false → Begins told refused contents has_failed old event new
    → Serves told refused contents has_failed old items beats → new.badge.connection ≡ old.badge.connection
next_badge {H = H} told refused contents has_failed same old new event items beats going leads s =
    let held = contents s.sink in
    let after = leads (beginning old s.hall held beats) (events_of items) (stands_kept told refused contents has_failed old items beats going s) in
    same_badge told refused contents has_failed same old new s.hall held (beats ++ beat_in event) _ _ _
    (subst (λ (o : Origin H). Stands told refused o (reached contents has_failed new) (events_of items ++ input_in event) (texts new.unsent) false)
    (origin_after s.hall held beats old.trace.settings old.badge.connection event) after)

-- memory ran out for what the peer sent
pub serves_lost : {S H F : Type 0} (told : H → BadgeState → List Reply → H → BadgeState → Type 0) (refused : H → BadgeState → Fault → Type 0) (contents : S → Option (List ℕ)) (has_failed : S → Bool)
    (same : KeepsConnection told) (old new : WorkState S H F) (items : List (Given Input)) (beats : List Event)
    → is_over old ≡ false → is_over new ≡ true → new.unsent ≡ old.unsent
    → ((from : Origin H) (given : List Event) (held_back : List ℕ) → Stands told refused from (reached contents has_failed old) given held_back false → Stands told refused from (reached contents has_failed new) given held_back true)
    → Serves told refused contents has_failed old items beats → Serves told refused contents has_failed new (items ++ given.Item inputs.NoMemory ∷ []) beats
serves_lost told refused contents has_failed same old new items beats going over unsent leads s =
    let none = unstarved told refused contents has_failed old items beats going s in
    let held = contents s.sink in
    let after = leads (beginning old s.hall held beats) (events_of items) (texts old.unsent) (stands_kept told refused contents has_failed old items beats going s) in
    let here = moved told refused contents has_failed same s.hall held beats old.trace.settings old.badge.connection new (events_of items) (texts old.unsent) true after in
    let kept = events_more items (given.Item inputs.NoMemory) none ∙ append-nil (events_of items) in
    record {
      hall = s.hall;
      sink = s.sink;
      empty = s.empty;
      unfailed = s.unfailed;
      stands =
          subst (λ (b : Bool). Stands told refused (beginning new s.hall held beats) (reached contents has_failed new) (events_of (items ++ given.Item inputs.NoMemory ∷ [])) (texts new.unsent) b)
          (sym (starved_more items (given.Item inputs.NoMemory) none))
          (subst (λ (es : List Event). Stands told refused (beginning new s.hall held beats) (reached contents has_failed new) es (texts new.unsent) true) (sym kept)
          (subst (λ (ms : List Message). Stands told refused (beginning new s.hall held beats) (reached contents has_failed new) (events_of items) (texts ms) true) (sym unsent) here));
      starved = λ _. over;
      waits = λ e f. more_than_none items _ e;
    }

-- the work with this trace
abbrev pub with_trace : {S H F : Type 0} → WorkState S H F → TraceView → WorkState S H F
with_trace work trace = record work { trace = trace }

-- room was made, or there was none
pub serves_readied : {S H F : Type 0} (told : H → BadgeState → List Reply → H → BadgeState → Type 0) (refused : H → BadgeState → Fault → Type 0) (contents : S → Option (List ℕ)) (has_failed : S → Bool)
    (oracle : IsOracle told refused) (same : KeepsConnection told) (old : WorkState S H F) (trace : TraceView) (made : Bool) (items : List (Given Input)) (beats : List Event)
    → is_over old ≡ false → Readied old.trace trace made
    → Serves told refused contents has_failed old items beats → Serves told refused contents has_failed (with_trace old trace) items beats
serves_readied told refused contents has_failed oracle same old trace made items beats going readied s =
    let none = unstarved told refused contents has_failed old items beats going s in
    let held = contents s.sink in
    let from = beginning old s.hall held beats in
    let before = stands_kept told refused contents has_failed old items beats going s in
    let on : (b : Bool) → Readied old.trace trace b → Stands told refused from (reached contents has_failed (with_trace old trace)) (events_of items) (texts old.unsent) false =
    elim [
      | true ↦ λ r. stands_ready told refused from old.trace trace old.hall old.badge (contents old.sink) (has_failed old.sink) old.written (events_of items) (texts old.unsent) going r before
      | false ↦ λ r. stands_starved told refused oracle from old.trace trace old.hall old.badge (contents old.sink) (has_failed old.sink) old.written (events_of items) (texts old.unsent) false going r before
    ] in
    let after = on made readied in
    let set : trace.settings ≡ old.trace.settings = after.sent.accounts.settings in
    record {
      hall = s.hall;
      sink = s.sink;
      empty = s.empty;
      unfailed = s.unfailed;
      stands =
          subst (λ (b : Bool). Stands told refused (beginning (with_trace old trace) s.hall held beats) (reached contents has_failed (with_trace old trace)) (events_of items) (texts old.unsent) b) (sym none)
          (moved told refused contents has_failed same s.hall held beats old.trace.settings old.badge.connection (with_trace old trace) (events_of items) (texts old.unsent) false after);
      starved = λ h. not_both _ none h;
      waits = λ e f. s.waits e f ∙ ap openings (sym set);
    }

-- the trace was shed: the history is the same
accounts_shed : {H : Type 0} (told : H → BadgeState → List Reply → H → BadgeState → Type 0) (refused : H → BadgeState → Fault → Type 0) (from : Origin H) (trace trace' : TraceView) (hall : H) (badge : BadgeState)
    (held : Option (List ℕ)) (failed : Bool) (written : ℕ) (inputs : List Event) (missing : List ℕ) (lost unkept : Bool) → IsShed trace trace'
    → (a : Accounts told refused from (progress trace hall badge held failed written) inputs missing lost unkept) → AccountsOf told refused from (progress trace' hall badge held failed written) inputs missing lost unkept a.history
accounts_shed told refused from trace trace' hall badge held failed written inputs missing lost unkept shed a =
    record {
      accounts = record {
        settings = shed.same.settings ∙ a.settings;
        history = a.history;
        stands = shed.same.history a.history a.stands;
        wrote = a.wrote;
        inputs_are = a.inputs_are;
        prompt = a.prompt;
        replies_are = a.replies_are;
        each_told = a.each_told;
        write_fault = a.write_fault;
        hall_full = a.hall_full;
        no_memory = λ _. inl (inl (inl shed.room));
        beats_are = a.beats_are;
        losses = a.losses;
      };
      history_is = refl;
    }

stands_shed : {H : Type 0} (told : H → BadgeState → List Reply → H → BadgeState → Type 0) (refused : H → BadgeState → Fault → Type 0) (from : Origin H) (trace trace' : TraceView) (hall : H) (badge : BadgeState)
    (held : Option (List ℕ)) (failed : Bool) (written : ℕ) (inputs : List Event) (held_back : List ℕ) (unkept : Bool) → IsShed trace trace'
    → Stands told refused from (progress trace hall badge held failed written) inputs held_back unkept → Stands told refused from (progress trace' hall badge held failed written) inputs held_back unkept
stands_shed told refused from trace trace' hall badge held failed written inputs held_back unkept shed s =
    let after = accounts_shed told refused from trace trace' hall badge held failed written inputs s.sent.missing s.sent.lost unkept shed s.sent.accounts in
    record {
      sent = record { missing = s.sent.missing; lost = s.sent.lost; accounts = after.accounts; whole = s.sent.whole; told_loss = s.sent.told_loss };
      unasked = λ some. ap (has_kind is_told) after.history_is ∙ s.unasked some;
      answered = subst (λ (x : SessionState). is_closed x.state ≡ false → x.pending ≡ None) (sym shed.same.session) s.answered;
    }

-- its trace was shed, or is as it was
pub serves_shed : {S H F : Type 0} (told : H → BadgeState → List Reply → H → BadgeState → Type 0) (refused : H → BadgeState → Fault → Type 0) (contents : S → Option (List ℕ)) (has_failed : S → Bool)
    (same : KeepsConnection told) (old : WorkState S H F) (trace : TraceView) (items : List (Given Input)) (beats : List Event)
    → (trace ≡ old.trace) ⊎ IsShed old.trace trace
    → Serves told refused contents has_failed old items beats → Serves told refused contents has_failed (with_trace old trace) items beats
serves_shed told refused contents has_failed same old trace items beats (inl e) s =
    subst (λ (t : TraceView). Serves told refused contents has_failed (with_trace old t) items beats) (sym e) s
serves_shed told refused contents has_failed same old trace items beats (inr shed) s =
    let held = contents s.sink in
    let after =
    stands_shed told refused (beginning old s.hall held beats) old.trace trace old.hall old.badge (contents old.sink) (has_failed old.sink) old.written (events_of items) (texts old.unsent) (was_starved items) shed s.stands in
    record {
      hall = s.hall;
      sink = s.sink;
      empty = s.empty;
      unfailed = s.unfailed;
      stands = moved told refused contents has_failed same s.hall held beats old.trace.settings old.badge.connection (with_trace old trace) (events_of items) (texts old.unsent) (was_starved items) after;
      starved = λ h. ap (λ (x : SessionState). is_closed x.state) shed.same.session ∙ s.starved h;
      waits = λ e f. s.waits e f ∙ ap openings (sym shed.same.settings);
    }

-- which of both it is
pub kept_or_shed : (old new : TraceView) (most : ℕ) → (weight_of old ≤ most → new ≡ old) → (most < weight_of old → IsShed old new) → (new ≡ old) ⊎ IsShed old new
kept_or_shed old new most kept shed = elim (cases_lt most (weight_of old)) [ inl more ↦ inr (shed more) | inr few ↦ inl (kept few) ]

-- over or not, as it was
pub shed_closed : (old new : TraceView) → (new ≡ old) ⊎ IsShed old new → is_closed new.session.state ≡ is_closed old.session.state
shed_closed old new (inl e) = ap (λ (t : TraceView). is_closed t.session.state) e
shed_closed old new (inr shed) = ap (λ (x : SessionState). is_closed x.state) shed.same.session

-- the flags are no part of it
pub serves_flags : {S H F : Type 0} (told : H → BadgeState → List Reply → H → BadgeState → Type 0) (refused : H → BadgeState → Fault → Type 0) (contents : S → Option (List ℕ)) (has_failed : S → Bool)
    (work : WorkState S H F) (flags : F) (items : List (Given Input)) (beats : List Event)
    → Serves told refused contents has_failed work items beats → Serves told refused contents has_failed (record work { flags = flags }) items beats
serves_flags told refused contents has_failed work flags items beats s =
    record { hall = s.hall; sink = s.sink; empty = s.empty; unfailed = s.unfailed; stands = s.stands; starved = s.starved; waits = s.waits }

-- ---- a new work

fresh_is : (badge : BadgeState) → badge.count ≡ 0 → badge.full ≡ false → fresh_badge badge.connection ≡ badge
fresh_is badge none unmarked =
    ap (λ (n : ℕ). let b : BadgeState = record { connection = badge.connection; count = n; full = false } in b) (sym none)
    ∙ ap (λ (f : Bool). let b : BadgeState = record { connection = badge.connection; count = badge.count; full = f } in b) (sym unmarked)

-- it served nothing
pub serves_first : {S H F : Type 0} (told : H → BadgeState → List Reply → H → BadgeState → Type 0) (refused : H → BadgeState → Fault → Type 0) (contents : S → Option (List ℕ)) (has_failed : S → Bool)
    (oracle : IsOracle told refused) (work : WorkState S H F)
    → StandsFor work.trace [] → work.unsent ≡ openings work.trace.settings → work.badge.count ≡ 0 → work.badge.full ≡ false → work.written ≡ 0
    → HoldsNothing (contents work.sink) → has_failed work.sink ≡ false → Serves told refused contents has_failed work [] []
serves_first {H = H} told refused contents has_failed oracle work stands unsent none unmarked unwritten empty unfailed =
    let held = contents work.sink in
    let first = stands_first told refused oracle work.trace.settings work.trace work.hall work.badge held (has_failed work.sink) work.unsent refl stands unsent in
    let on : ℕ → Bool → BadgeState → Type 0 =
    λ written failed badge. Stands told refused (record { settings = work.trace.settings; hall = work.hall; badge = badge; held = held; failed = failed; beats = [] }) (progress work.trace work.hall work.badge held (has_failed work.sink) written) [] (texts work.unsent) false in
    record {
      hall = work.hall;
      sink = work.sink;
      empty = empty;
      unfailed = unfailed;
      stands =
          subst (λ (w : ℕ). on w false (fresh_badge work.badge.connection)) (sym unwritten)
          (subst (λ (b : BadgeState). on 0 false b) (sym (fresh_is work.badge none unmarked))
          (subst (λ (f : Bool). on 0 f work.badge) unfailed first));
      starved = λ h. absurd cc;
      waits = λ e f. unsent;
    }

-- ---- what the badge counts

-- the session was given as many answers as the badge counts
pub counted_told : {S H F : Type 0} (told : H → BadgeState → List Reply → H → BadgeState → Type 0) (refused : H → BadgeState → Fault → Type 0) (contents : S → Option (List ℕ)) (has_failed : S → Bool)
    (counts : (a b : H) (x y : BadgeState) (replies : List Reply) → told a x replies b y → y.count ≡ x.count + length replies)
    (work : WorkState S H F) (items : List (Given Input)) (beats : List Event) → Serves told refused contents has_failed work items beats → work.trace.total.told ≡ work.badge.count
counted_told told refused contents has_failed counts work items beats s =
    let a = s.stands.sent.accounts in
    let n = counts _ _ _ _ _ a.replies_are in
    ap (λ (c : Counts). c.told) a.stands.total ∙ a.each_told ∙ sym (n ∙ zero-add _)
