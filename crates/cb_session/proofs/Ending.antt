-- How serving begins and ends.
use Rattle.std.proofs.Common.{◌≡◌, ◌≢◌, ℕ, Bool, true, false, List, [], ◌∷◌, ◌++◌, Option, refl, sym, ap, subst, ◌∙◌}
use Rattle.std.proofs.lemmas.List.{append-nil}
use Rattle.cb_base.specs.declared.fault.Fault.{Fault}
use Rattle.cb_wire.specs.declared.message.Message.{Message}
use Rattle.cb_wire.specs.Stream.{Assembled, texts}
use Rattle.std.specs.Io.KnownBytes.{Consumes}
use Rattle.cb_base.proofs.Known.{Appends-nothing, Keeps-same}
use Rattle.cb_hall.specs.Badge.{BadgeState}
use Rattle.cb_hall.specs.Histories.{Reply}
use Rattle.cb_peer_state.specs.declared.settings.Settings.{Settings}
use Rattle.cb_peer_state.specs.declared.event.Event.{Event}
use Rattle.cb_peer_state.specs.declared.event.Event.TheVariants as events
use Rattle.cb_peer_state.specs.Session.{openings}
use Rattle.cb_peer_state.specs.declared.session_state.SessionState.{SessionState}
use Rattle.cb_peer_state.specs.State.{is_closed}
use Rattle.cb_trace.specs.Fold.{account_of, session_of}
use Rattle.cb_trace.specs.Prompt.{NonePending}
use Rattle.cb_trace.specs.Trace.{StandsFor, TraceView}
use Rattle.cb_base.specs.declared.read_end.ReadEnd.{ReadEnd}
use Rattle.cb_base.specs.declared.read_end.ReadEnd.TheVariants as ends
use Rattle.cb_session.specs.Conversation.{Gave, IsAnswered, Origin, Progress, Settled, origin_of, progress}
use Rattle.cb_session.specs.Reading.{SourceEndsSo}
use Rattle.cb_session.specs.Serving.{EndsSo, IsInOrder, Pieced, Serves, broken, end_mark, queue, said}
use Rattle.cb_session.proofs.Accounts.{AccountsOf, IsOracle, open_kept}
use Rattle.cb_session.proofs.Inputs.{in_order_ended, in_order_stopped}

-- ---- the end

-- reading ended at the source
source_ended : (end : ReadEnd) (remaining : Option (List ℕ)) (failed_before failed : Bool) (read : List ℕ) → SourceEndsSo end remaining failed_before failed read → EndsSo end remaining failed read × (end ≢ ends.Stopped)
source_ended ends.Eof remaining failed_before failed read h = (h.0, λ e. cc)
source_ended ends.Fault remaining failed_before failed read h = (h, λ e. cc)
source_ended ends.Turns remaining failed_before failed read h = (h.0, λ e. cc)
source_ended ends.Stopped remaining failed_before failed read h = absurd h

marked : (end : ReadEnd) → end ≢ ends.Stopped → end_mark end ≡ events.ReaderEnd ∷ []
marked ends.Eof other = refl
marked ends.Fault other = refl
marked ends.Turns other = refl
marked ends.Stopped other = absurd (other refl)

-- no question is open after the history
none_pending : {H : Type 0} (told : H → BadgeState → List Reply → H → BadgeState → Type 0) (refused : H → BadgeState → Fault → Type 0) (from : Origin H) (now : Progress H) (inputs : List Event) (unkept : Bool) (s : Settled told refused from now inputs unkept) → NonePending from.settings s.sent.accounts.history
none_pending told refused from now inputs unkept s going =
    let same : now.trace.session ≡ session_of from.settings s.sent.accounts.history = s.sent.accounts.stands.session ∙ ap (λ (x : Settings). session_of x s.sent.accounts.history) s.sent.accounts.settings in
    ap (λ (x : SessionState). x.pending) (sym same) ∙ s.answered (ap (λ (x : SessionState). is_closed x.state) same ∙ going)

-- the session was over before reading ended
pub serves_stopped : {H : Type 0} (told : H → BadgeState → List Reply → H → BadgeState → Type 0) (refused : H → BadgeState → Fault → Type 0) (from : Origin H) (input remaining : Option (List ℕ)) (failed : Bool) (now : Progress H) (end : ReadEnd) (read : List ℕ) (assembled : Assembled) → end ≡ ends.Stopped → is_closed now.trace.session.state ≡ true → Consumes input remaining read
    → Pieced told refused from now read assembled → Serves told refused from input remaining failed now end
serves_stopped told refused from input remaining failed now end read assembled stopped closed consumed p =
    let o = in_order_stopped told refused from now p.inputs p.later p.items p.fault p.unkept p.parts p.settled in
    record {
      read = read;
      consumed = consumed;
      items = p.items;
      rest = p.rest;
      fault = p.fault;
      stream = p.stream;
      inputs = p.inputs;
      unkept = p.unkept;
      settled = p.settled;
      short = p.short;
      in_order = subst (λ (e : ReadEnd). IsInOrder (queue p.items p.fault e) from.settings p.settled.sent.accounts.history) (sym stopped) o.0;
      prompt = record { each = p.settled.sent.accounts.prompt; done = none_pending told refused from now p.inputs p.unkept p.settled };
      cause = subst (λ (e : ReadEnd). EndsSo e remaining failed read) (sym stopped) tt;
      stopped = λ _. o.1;
      closed = closed;
    }

-- reading came to its end, and the session was told
pub serves_ended : {H : Type 0} (told : H → BadgeState → List Reply → H → BadgeState → Type 0) (refused : H → BadgeState → Fault → Type 0) (from : Origin H) (input remaining : Option (List ℕ)) (failed_before failed : Bool) (before now : Progress H) (end : ReadEnd) (read : List ℕ) (assembled : Assembled) → SourceEndsSo end remaining failed_before failed read → is_closed before.trace.session.state ≡ false
    → Consumes input remaining read → Pieced told refused from before read assembled → ((inputs : List Event) → Settled told refused from before inputs false → Gave told refused from now inputs events.ReaderEnd) → is_closed now.trace.session.state ≡ true
    → Serves told refused from input remaining failed now end
serves_ended told refused from input remaining failed_before failed before now end read assembled source going consumed p give closed =
    let up = p.going going in
    let cause = source_ended end remaining failed_before failed read source in
    let all : p.inputs ≡ said p.items ++ broken p.fault = sym (append-nil p.inputs) ∙ ap (λ (is : List Event). p.inputs ++ is) (sym up.none_later) ∙ p.parts in
    let g = give p.inputs (open_kept told refused from before p.inputs p.unkept going p.settled) in
    record {
      read = read;
      consumed = consumed;
      items = p.items;
      rest = p.rest;
      fault = p.fault;
      stream = p.stream;
      inputs = g.given;
      unkept = false;
      settled = g.settled;
      short = λ h. absurd (let clash : false ≡ true = h in cc);
      in_order = in_order_ended told refused from now p.inputs p.items p.fault end (marked end cause.1) all g;
      prompt = record { each = g.settled.sent.accounts.prompt; done = none_pending told refused from now g.given false g.settled };
      cause = cause.0;
      stopped = λ is. absurd (cause.1 is);
      closed = closed;
    }

-- the same in other words for where it is
pub serves_at : {H : Type 0} (told : H → BadgeState → List Reply → H → BadgeState → Type 0) (refused : H → BadgeState → Fault → Type 0) (from : Origin H) (input remaining : Option (List ℕ)) (read_failed : Bool) (trace trace' : TraceView) (hall hall' : H) (badge badge' : BadgeState) (held held' : Option (List ℕ)) (failed failed' : Bool) (written written' : ℕ) (end : ReadEnd)
    → trace' ≡ trace → hall' ≡ hall → badge' ≡ badge → held' ≡ held → failed' ≡ failed → written' ≡ written
    → Serves told refused from input remaining read_failed (progress trace hall badge held failed written) end → Serves told refused from input remaining read_failed (progress trace' hall' badge' held' failed' written') end
serves_at {H = H} told refused from input remaining read_failed trace trace' hall hall' badge badge' held held' failed failed' written written' end t h b k f w s =
    subst (λ (x : TraceView). Serves told refused from input remaining read_failed (progress x hall' badge' held' failed' written') end) (sym t)
    (subst (λ (x : H). Serves told refused from input remaining read_failed (progress trace x badge' held' failed' written') end) (sym h)
    (subst (λ (x : BadgeState). Serves told refused from input remaining read_failed (progress trace hall x held' failed' written') end) (sym b)
    (subst (λ (x : Option (List ℕ)). Serves told refused from input remaining read_failed (progress trace hall badge x failed' written') end) (sym k)
    (subst (λ x. Serves told refused from input remaining read_failed (progress trace hall badge held x written') end) (sym f)
    (subst (λ (x : ℕ). Serves told refused from input remaining read_failed (progress trace hall badge held failed x) end) (sym w) s)))))

-- ---- the beginning

-- a trace with no entries, whose opening messages are still to be written
pub accounts_first : {H : Type 0} (told : H → BadgeState → List Reply → H → BadgeState → Type 0) (refused : H → BadgeState → Fault → Type 0) (oracle : IsOracle told refused) (settings : Settings) (trace : TraceView) (hall : H) (badge : BadgeState)
    (held : Option (List ℕ)) (failed : Bool) (messages : List Message) → trace.settings ≡ settings → StandsFor trace [] → messages ≡ openings settings
    → AccountsOf told refused (origin_of settings hall badge held failed) (progress trace hall badge held failed 0) [] (texts messages) false false []
unfolding account_of
accounts_first told refused oracle settings trace hall badge held failed messages s stands m =
    record {
      accounts = record {
        settings = s;
        history = [];
        stands = stands;
        wrote = record { sent = []; parts = ap texts (sym m); appended = Appends-nothing held held (Keeps-same held); count = λ tells. refl };
        inputs_are = refl;
        prompt = tt;
        replies_are = oracle.none hall badge;
        each_told = refl;
        write_fault = λ h. absurd cc;
        hall_full = λ h. absurd cc;
        no_memory = λ h. absurd cc;
        beats_are = refl;
        losses = refl;
      };
      history_is = refl;
    }

-- nothing is pending in a trace with no entries
pub first_free : (old new : TraceView) → StandsFor old [] → (is_closed new.session.state ≡ false → new ≡ old) → IsAnswered new
unfolding account_of
first_free old new stands kept going = ap (λ (t : TraceView). t.session.pending) (kept going) ∙ ap (λ (s : SessionState). s.pending) stands.session

-- and it goes on
pub first_open : (trace : TraceView) → StandsFor trace [] → is_closed trace.session.state ≡ false
unfolding account_of
first_open trace stands = ap (λ (s : SessionState). is_closed s.state) stands.session
