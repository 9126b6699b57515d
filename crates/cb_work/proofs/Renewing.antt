-- A work that begins anew before its first event: another session stands in the place of the first.
use Rattle.std.proofs.Common.{◌≡◌, ℕ, Bool, false, List, [], ◌∷◌, ◌++◌, length, Option, inl, inr, refl, sym, ap, subst, ◌∙◌, arith}
use Rattle.std.proofs.lemmas.List.{length-append}
use Rattle.std.specs.Io.KnownBytes.{Appends}
use Rattle.cb_base.specs.declared.fault.Fault.{Fault}
use Rattle.cb_wire.specs.declared.message.Message.{Message}
use Rattle.cb_wire.specs.Stream.{texts}
use Rattle.cb_hall.specs.Badge.{BadgeState, fresh_badge}
use Rattle.cb_hall.specs.Histories.{Reply}
use Rattle.cb_peer_state.specs.declared.event.Event.{Event}
use Rattle.cb_peer_state.specs.Event.{loses}
use Rattle.cb_peer_state.specs.Session.{openings}
use Rattle.cb_peer_state.specs.State.{is_closed}
use Rattle.cb_peer_state.specs.declared.session_state.SessionState.{SessionState}
use Rattle.cb_trace.specs.declared.trace.Counts.{Counts}
use Rattle.cb_trace.specs.declared.trace.TraceEntry.{TraceEntry}
use Rattle.cb_trace.specs.Fold.{account_of, beats_of, has_kind, inputs_of, replies, sends}
use Rattle.cb_trace.specs.Trace.{StandsFor, TraceView}
use Rattle.cb_peer_state.specs.Writing.{counted}
use Rattle.cb_crew.specs.declared.work.Given.{Given}
use Rattle.cb_crew.specs.declared.work.Given.TheVariants as given
use Rattle.cb_session.specs.declared.input.Input.{Input}
use Rattle.cb_session.specs.declared.input.Input.TheVariants as inputs
use Rattle.cb_work.specs.PeerWork.{Serves, WorkState, events_of, is_over, was_starved}
use Rattle.cb_work.proofs.Serving.{unstarved}

-- the work with this trace, whose opening messages are held back
abbrev pub anew : {S H F : Type 0} → WorkState S H F → TraceView → List Message → WorkState S H F
anew work trace unsent = record work { trace = trace; unsent = unsent }

nothing_in : {T : Type 0} (list : List T) → length list ≡ 0 → list ≡ []
nothing_in [] none = refl
nothing_in (item ∷ list) none = absurd (omega (arith, none))

-- what stands before all of a list is nothing
nothing_before : (before list : List ℕ) → list ≡ before ++ list → before ≡ []
nothing_before [] list e = refl
nothing_before (byte ∷ before) list e = absurd (omega (arith, ap length e ∙ length-append (byte ∷ before) list))

-- no items came, where none is an event and memory didn't run out
no_items : (items : List (Given Input)) → was_starved items ≡ false → events_of items ≡ [] → items ≡ []
no_items [] none e = refl
no_items (given.Item (inputs.Said item) ∷ items) none e = absurd cc
no_items (given.Item (inputs.Broken fault) ∷ items) none e = absurd cc
no_items (given.Item inputs.NoMemory ∷ items) none e = absurd cc
no_items (given.End ∷ items) none e = absurd cc

-- no entry was logged
no_history : (trace : TraceView) (history : List TraceEntry) → trace.total.entries ≡ 0 → StandsFor trace history → history ≡ []
no_history trace history none stands = nothing_in history (sym (ap (λ (c : Counts). c.entries) stands.total) ∙ none)

-- a session to which nothing was given isn't over
pub opens_anew : (trace : TraceView) → StandsFor trace [] → is_closed trace.session.state ≡ false
unfolding account_of
opens_anew trace stands = ap (λ (s : SessionState). is_closed s.state) stands.session

-- nothing was given, so another session serves nothing as well
anew_first : {S H F : Type 0} (told : H → BadgeState → List Reply → H → BadgeState → Type 0) (refused : H → BadgeState → Fault → Type 0) (contents : S → Option (List ℕ)) (has_failed : S → Bool)
    (old : WorkState S H F) (trace : TraceView) (unsent : List Message)
    → old.trace.total.entries ≡ 0 → StandsFor trace [] → unsent ≡ openings trace.settings
    → Serves told refused contents has_failed old [] [] → Serves told refused contents has_failed (anew old trace unsent) [] []
unfolding account_of
anew_first told refused contents has_failed old trace unsent none stands first s =
    let a = s.stands.sent.accounts in
    let e : a.history ≡ [] = no_history old.trace a.history none a.stands in
    let kept : s.stands.sent.lost ≡ false = sym a.losses ∙ ap (has_kind loses) e in
    let missing : s.stands.sent.missing ≡ texts (openings old.trace.settings) = s.stands.sent.whole kept ∙ ap texts (s.waits refl refl) in
    let parts : texts (openings old.trace.settings) ≡ a.wrote.sent ++ s.stands.sent.missing =
    sym (ap (λ (h : List TraceEntry). texts (sends old.trace.settings h)) e) ∙ a.wrote.parts in
    let sent : a.wrote.sent ≡ [] = nothing_before a.wrote.sent (texts (openings old.trace.settings)) (parts ∙ ap (λ (x : List ℕ). a.wrote.sent ++ x) missing) in
    record {
      hall = s.hall;
      sink = s.sink;
      empty = s.empty;
      unfailed = s.unfailed;
      stands = record {
        sent = record {
          missing = texts unsent;
          lost = false;
          accounts = record {
            settings = refl;
            history = [];
            stands = stands;
            wrote = record {
              sent = [];
              parts = sym (ap texts first);
              appended = subst (λ (x : List ℕ). Appends (contents s.sink) (contents old.sink) x) sent a.wrote.appended;
              count = λ tells. a.wrote.count tells ∙ ap counted sent;
            };
            inputs_are = refl;
            prompt = tt;
            replies_are = subst (λ (h : List TraceEntry). told s.hall (fresh_badge old.badge.connection) (replies old.trace.settings h) old.hall old.badge) e a.replies_are;
            each_told = refl;
            write_fault = λ h. absurd cc;
            hall_full = λ h. absurd cc;
            no_memory = λ h. absurd cc;
            beats_are = refl;
            losses = refl;
          };
          whole = λ _. refl;
          told_loss = λ h. elim (s.stands.sent.told_loss h) [ inl failed ↦ inl failed | inr lost ↦ inr (sym kept ∙ lost) ];
        };
        unasked = λ _. refl;
        answered = λ _. ap (λ (x : SessionState). x.pending) stands.session;
      };
      starved = λ h. absurd cc;
      waits = λ _ _. first;
    }

-- whatever the work served, it was nothing
pub serves_anew : {S H F : Type 0} (told : H → BadgeState → List Reply → H → BadgeState → Type 0) (refused : H → BadgeState → Fault → Type 0) (contents : S → Option (List ℕ)) (has_failed : S → Bool)
    (old : WorkState S H F) (trace : TraceView) (unsent : List Message) (items : List (Given Input)) (beats : List Event)
    → is_over old ≡ false → old.trace.total.entries ≡ 0 → StandsFor trace [] → unsent ≡ openings trace.settings
    → Serves told refused contents has_failed old items beats → Serves told refused contents has_failed (anew old trace unsent) items beats
serves_anew told refused contents has_failed old trace unsent items beats going none stands first s =
    let a = s.stands.sent.accounts in
    let e : a.history ≡ [] = no_history old.trace a.history none a.stands in
    let nothing : items ≡ [] = no_items items (unstarved told refused contents has_failed old items beats going s) (sym a.inputs_are ∙ ap inputs_of e) in
    let unticked : beats ≡ [] = sym a.beats_are ∙ ap beats_of e in
    let new = anew old trace unsent in
    subst (λ (i : List (Given Input)). Serves told refused contents has_failed new i beats) (sym nothing)
    (subst (λ (bs : List Event). Serves told refused contents has_failed new [] bs) (sym unticked)
    (anew_first told refused contents has_failed old trace unsent none stands first
    (subst (λ (bs : List Event). Serves told refused contents has_failed old [] bs) unticked
    (subst (λ (i : List (Given Input)). Serves told refused contents has_failed old i beats) nothing s))))
