-- What a connection has heard: its inputs against what the bytes spell.
use Rattle.std.proofs.Common.{◌≡◌, ◌≢◌, ◌<◌, ℕ, Bool, true, false, cond, ◌||◌, List, [], ◌∷◌, ◌++◌, length, Option, Some, None, Result, Ok, Err, refl, sym, ap, subst, ◌∙◌, append_assoc, arith, inl, inr, ◌⊎◌}
use Rattle.std.specs.Prelude.{fold, IsOk, IsOkUnless}
use Rattle.std.specs.List.{list_any}
use Rattle.std.proofs.lemmas.List.Folds.{list_any-append}
use Rattle.std.proofs.lemmas.List.{append-nil, map-append}
use Rattle.cb_base.specs.declared.fault.Fault.{Fault}
use Rattle.cb_base.specs.declared.fault.Fault.TheVariants.{Memory}
use Rattle.cb_wire.specs.declared.item.Item.{Item}
use Rattle.cb_wire.specs.declared.envelope.Front.{Front}
use Rattle.cb_wire.specs.declared.envelope.Front.TheVariants.{Partial, Broken, Whole}
use Rattle.cb_wire.specs.Envelope.{front_at}
use Rattle.cb_wire.specs.Stream.{Assembled, Ends, Stream}
use Rattle.cb_wire.proofs.Streams.{Stream-grows, front_at-nil, reading_of}
use Rattle.cb_hall.specs.Badge.{BadgeState}
use Rattle.cb_hall.specs.Histories.{Reply}
use Rattle.cb_peer_state.specs.declared.settings.Settings.{Settings}
use Rattle.cb_peer_state.specs.declared.event.Event.{Event}
use Rattle.cb_peer_state.specs.declared.event.Event.TheVariants as events
use Rattle.cb_peer_state.specs.declared.state.State.{State}
use Rattle.cb_peer_state.specs.declared.state.State.TheVariants.{Start, Closed}
use Rattle.cb_peer_state.specs.declared.state.CloseReason.TheVariants.{Bye}
use Rattle.cb_trace.specs.declared.trace.TraceEntry.{TraceEntry}
use Rattle.cb_peer_state.specs.Event.{is_input, is_reader_end, kind_of}
use Rattle.cb_peer_state.specs.State.{is_closed}
use Rattle.cb_trace.specs.Fold.{Account, EachOpen, account_of, account_step, first_account, inputs_of, session_of}
use Rattle.cb_trace.proofs.Entries.{entry_bye}
use Rattle.cb_base.specs.declared.read_end.ReadEnd.{ReadEnd}
use Rattle.cb_base.specs.declared.read_end.ReadEnd.TheVariants as ends
use Rattle.cb_session.specs.declared.conversation.Conversation.{Conversation}
use Rattle.cb_session.specs.Conversation.{Accounts, Gave, GaveItem, Origin, Progress, SameReferences, Settled, WritesOn, at}
use Rattle.cb_session.specs.Serving.{HasHeard, IsInOrder, Pieced, Took, broken, end_mark, has_end, queue, said}
use Rattle.cb_session.proofs.Accounts.{ok_err, open_kept, sent_lost}

not_true : false ≡ true → ⊥
not_true e = cc

-- what follows a whole is nothing
append_self : {T : Type 0} (xs ys : List T) → xs ++ ys ≡ xs → ys ≡ []
append_self [] ys e = e
append_self (x ∷ xs) ys e = append_self xs ys (let more = e in cc)

-- lists without an element behind one another
front_nil : {T : Type 0} (xs ys : List T) → xs ++ ys ≡ [] → xs ≡ []
front_nil [] ys e = refl
front_nil (x ∷ xs) ys e = absurd cc

-- something comes behind the inputs, so they aren't all
some_later : (inputs later whole : List Event) → inputs ++ later ≡ whole → later ≢ [] → inputs ≢ whole
some_later inputs later whole parts some same = some (append_self inputs later (parts ∙ sym same))

said_some : (items : List Item) → items ≢ [] → said items ≢ []
said_some [] some e = some refl
said_some (item ∷ items) some e = cc

said_more : (xs ys : List Item) → said (xs ++ ys) ≡ said xs ++ said ys
said_more xs ys = map-append (λ item. events.Said item) xs ys

-- ---- items in turn

-- nothing was taken yet
pub took_none : {H : Type 0} (told : H → BadgeState → List Reply → H → BadgeState → Type 0) (refused : H → BadgeState → Fault → Type 0) (from : Origin H) (now : Progress H) (inputs : List Event) → Settled told refused from now inputs false → Took told refused from now inputs []
took_none told refused from now inputs s =
    record { front = []; rest = []; parts = refl; unkept = false; settled = subst (λ (is : List Event). Settled told refused from now is false) (sym (append-nil inputs)) s; short = λ h. absurd (not_true h); all = λ _. refl }

-- one more item was given to a session that went on
pub took_more : {H : Type 0} (told : H → BadgeState → List Reply → H → BadgeState → Type 0) (refused : H → BadgeState → Fault → Type 0) (from : Origin H) (before now : Progress H) (inputs : List Event) (taken : List Item) (item : Item) → is_closed before.trace.session.state ≡ false → (t : Took told refused from before inputs taken)
    → GaveItem told refused from now (inputs ++ said t.front) item → Took told refused from now inputs (taken ++ item ∷ [])
took_more told refused from before now inputs taken item going t g =
    let none : t.rest ≡ [] = t.all going in
    let front : taken ≡ t.front = t.parts ∙ ap (λ (xs : List Item). t.front ++ xs) none ∙ append-nil t.front in
    let some : item ∷ [] ≢ [] = λ e. cc in
    let gave : Gave told refused from now (inputs ++ said t.front) (events.Said item) → Took told refused from now inputs (taken ++ item ∷ []) =
    λ g.
    elim g.which [
      | inl e ↦
          record {
            front = taken ++ item ∷ [];
            rest = [];
            parts = sym (append-nil (taken ++ item ∷ []));
            unkept = false;
            short = λ h. absurd (not_true h);
            settled =
                subst (λ (is : List Event). Settled told refused from now is false)
                (e ∙ append_assoc inputs (said t.front) (events.Said item ∷ []) ∙ ap (λ (xs : List Event). inputs ++ xs) (sym (said_more t.front (item ∷ []))) ∙ ap (λ (xs : List Item). inputs ++ said (xs ++ item ∷ [])) (sym front))
                g.settled;
            all = λ _. refl;
          }
      | inr e ↦
          record {
            front = taken;
            rest = item ∷ [];
            parts = refl;
            unkept = false;
            short = λ h. absurd (not_true h);
            settled = subst (λ (is : List Event). Settled told refused from now is false) (e.0 ∙ ap (λ (xs : List Item). inputs ++ said xs) (sym front)) g.settled;
            all = λ h. absurd (let clash = sym h ∙ e.1 in cc);
          }
    ] in
    elim g [
      | inl given ↦ gave given
      | inr lacked ↦
          record {
            front = taken;
            rest = item ∷ [];
            parts = refl;
            unkept = true;
            short = λ _. some;
            settled = subst (λ (is : List Event). Settled told refused from now is true) (ap (λ (xs : List Item). inputs ++ said xs) (sym front)) lacked.settled;
            all = λ h. absurd (let clash = sym h ∙ lacked.closed in cc);
          }
    ]

-- the session was over before the rest
pub took_stopped : {H : Type 0} (told : H → BadgeState → List Reply → H → BadgeState → Type 0) (refused : H → BadgeState → Fault → Type 0) (from : Origin H) (now : Progress H) (inputs : List Event) (taken more all : List Item) → all ≡ taken ++ more → is_closed now.trace.session.state ≡ true → Took told refused from now inputs taken → Took told refused from now inputs all
took_stopped told refused from now inputs taken more all e closed t =
    record {
      front = t.front;
      rest = t.rest ++ more;
      parts = e ∙ ap (λ (xs : List Item). xs ++ more) t.parts ∙ append_assoc t.front t.rest more;
      unkept = t.unkept;
      short = λ h none. t.short h (front_nil t.rest more none);
      settled = t.settled;
      all = λ h. absurd (let clash = sym h ∙ closed in cc);
    }

-- ---- a piece

-- what was given of some items and a fault behind them, and what is still to come
took_parts : (items more front rest : List Item) (fault : Option Fault) → more ≡ front ++ rest → (said items ++ said front) ++ (said rest ++ broken fault) ≡ said (items ++ more) ++ broken fault
took_parts items more front rest fault parts =
    append_assoc (said items) (said front) (said rest ++ broken fault)
    ∙ ap (λ (is : List Event). said items ++ is) (sym (append_assoc (said front) (said rest) (broken fault)) ∙ ap (λ (is : List Event). is ++ broken fault) (sym (said_more front rest) ∙ ap said (sym parts)))
    ∙ sym (append_assoc (said items) (said more) (broken fault))
    ∙ ap (λ (is : List Event). is ++ broken fault) (sym (said_more items more))

-- the first of the items were given
pub pieced_took : {H : Type 0} (told : H → BadgeState → List Reply → H → BadgeState → Type 0) (refused : H → BadgeState → Fault → Type 0) (from : Origin H) (now : Progress H) (bytes : List ℕ) (assembled : Assembled) (items more : List Item) (fault : Option Fault) → fault ≡ assembled.fault
    → Stream bytes (items ++ more) assembled.rest assembled.fault → Took told refused from now (said items) more → (is_closed now.trace.session.state ≡ false → fault ≡ None) → Pieced told refused from now bytes assembled
pieced_took told refused from now bytes assembled items more fault same s t none =
    record {
      items = items ++ more;
      rest = assembled.rest;
      fault = assembled.fault;
      stream = s;
      inputs = said items ++ said t.front;
      later = said t.rest ++ broken assembled.fault;
      parts = took_parts items more t.front t.rest assembled.fault t.parts;
      unkept = t.unkept;
      settled = t.settled;
      short = λ h.
          inl (some_later (said items ++ said t.front) (said t.rest ++ broken assembled.fault) _ (took_parts items more t.front t.rest assembled.fault t.parts) (λ none. said_some t.rest (t.short h) (front_nil (said t.rest) (broken assembled.fault) none)));
      going = λ h.
          let e : assembled.fault ≡ None = sym same ∙ none h in
          record {
            rest_is = refl;
            fault_is = e;
            no_fault = e;
            none_later = ap (λ (xs : List Item). said xs ++ broken assembled.fault) (t.all h) ∙ ap broken e;
          };
    }

-- what is still to come of an input: nothing where it was given, else that input
rest_of : (given inputs : List Event) (event : Event) (C : Type 0) → ((given ≡ inputs ++ event ∷ []) ⊎ ((given ≡ inputs) × C)) → List Event
rest_of given inputs event C (inl e) = []
rest_of given inputs event C (inr e) = event ∷ []

given_parts : (given inputs whole : List Event) (event : Event) (C : Type 0) (which : (given ≡ inputs ++ event ∷ []) ⊎ ((given ≡ inputs) × C)) → inputs ≡ whole → given ++ rest_of given inputs event C which ≡ whole ++ event ∷ []
unfolding rest_of
given_parts given inputs whole event C (inl e) w = append-nil given ∙ e ∙ ap (λ (is : List Event). is ++ event ∷ []) w
given_parts given inputs whole event C (inr e) w = ap (λ (is : List Event). is ++ event ∷ []) (e.0 ∙ w)

-- all items were given, and the stream's fault behind them
pub pieced_broken : {H : Type 0} (told : H → BadgeState → List Reply → H → BadgeState → Type 0) (refused : H → BadgeState → Fault → Type 0) (from : Origin H) (before now : Progress H) (bytes : List ℕ) (assembled : Assembled) (items more : List Item) (why : Fault) → Some why ≡ assembled.fault
    → Stream bytes (items ++ more) assembled.rest assembled.fault → (t : Took told refused from before (said items) more) → is_closed before.trace.session.state ≡ false
    → is_closed now.trace.session.state ≡ true → Gave told refused from now (said items ++ said t.front) (events.Broken why) → Pieced told refused from now bytes assembled
pieced_broken told refused from before now bytes assembled items more why same s t going closed g =
    let front : more ≡ t.front = t.parts ∙ ap (λ (xs : List Item). t.front ++ xs) (t.all going) ∙ append-nil t.front in
    let whole : said items ++ said t.front ≡ said (items ++ more) = ap (λ (xs : List Item). said items ++ said xs) (sym front) ∙ sym (said_more items more) in
    let last : broken assembled.fault ≡ events.Broken why ∷ [] = ap broken (sym same) in
    let parts : (g.given ++ rest_of g.given (said items ++ said t.front) (events.Broken why) _ g.which) ≡ said (items ++ more) ++ broken assembled.fault =
    given_parts g.given (said items ++ said t.front) (said (items ++ more)) (events.Broken why) _ g.which whole ∙ ap (λ (is : List Event). said (items ++ more) ++ is) (sym last) in
    record {
      items = items ++ more;
      rest = assembled.rest;
      fault = assembled.fault;
      stream = s;
      inputs = g.given;
      later = rest_of g.given (said items ++ said t.front) (events.Broken why) _ g.which;
      parts = parts;
      unkept = false;
      settled = g.settled;
      short = λ h. absurd (not_true h);
      going = λ h. absurd (let clash = sym h ∙ closed in cc);
    }

-- bytes spell an item or a fault, or are left over
more_comes : (bytes : List ℕ) (more : List Item) (rest : List ℕ) (fault : Option Fault) → Stream bytes more rest fault → bytes ≢ [] → (said more ++ broken fault ≢ []) ⊎ (rest ≢ [])
more_comes bytes (item ∷ more) rest fault s some = inl (λ e. cc)
more_comes bytes [] rest (Some why) s some = inl (λ e. cc)
more_comes bytes [] rest None s some =
    let by_front : (front : Front) → Ends front bytes rest None → (broken None ≢ []) ⊎ (rest ≢ []) =
    elim [
      | Partial ↦ λ x. inr (λ e. some (sym x.0 ∙ e))
      | Broken why ↦ λ x. absurd (let clash = x.1 in cc)
      | Whole size ↦ λ x. absurd x
    ] in
    by_front (front_at bytes) s

append_some : {T : Type 0} (xs ys : List T) → 0 < length ys → xs ++ ys ≢ []
append_some [] [] some e = absurd (let zero : 0 < 0 = some in omega (arith, zero))
append_some [] (y ∷ ys) some e = cc
append_some (x ∷ xs) ys some e = cc

-- a piece is refused only where the stream has no fault
pub no_fault : {T : Type 0} (fault : Option Fault) (result : Result T Fault) (e : Fault) → ((why : Fault) → fault ≡ Some why → IsOk result) → result ≡ Err e → fault ≡ None
no_fault None result e broken is = refl
no_fault (Some why) result e broken is = absurd (ok_err result e is (broken why refl))

-- and it isn't empty
pub lacked_some : {T : Type 0} (result : Result T Fault) (e : Fault) (piece : List ℕ) → result ≡ Err e → IsOkUnless result Memory → (result ≡ Err Memory → 0 < length piece) → 0 < length piece
lacked_some (Ok x) e piece is memory paid = absurd (let clash = is in cc)
lacked_some (Err x) e piece is memory paid = paid (ap Err memory)

-- a piece was refused, for want of memory: it spells more than was given
pub pieced_refused : {H : Type 0} (told : H → BadgeState → List Reply → H → BadgeState → Type 0) (refused : H → BadgeState → Fault → Type 0) (from : Origin H) (now : Progress H) (bytes piece rest : List ℕ) (assembled : Assembled) (items : List Item) → Stream bytes items rest None → 0 < length piece
    → is_closed now.trace.session.state ≡ true → Settled told refused from now (said items) true → Pieced told refused from now (bytes ++ piece) assembled
pieced_refused told refused from now bytes piece rest assembled items stream some closed s =
    let tail = reading_of (rest ++ piece) in
    let parts : said items ++ (said tail.items ++ broken tail.fault) ≡ said (items ++ tail.items) ++ broken tail.fault =
    sym (append_assoc (said items) (said tail.items) (broken tail.fault)) ∙ ap (λ (is : List Event). is ++ broken tail.fault) (sym (said_more items tail.items)) in
    record {
      items = items ++ tail.items;
      rest = tail.rest;
      fault = tail.fault;
      stream = Stream-grows bytes piece items rest tail.items tail.rest tail.fault stream tail.stream;
      inputs = said items;
      later = said tail.items ++ broken tail.fault;
      parts = parts;
      unkept = true;
      settled = s;
      short = λ _.
          elim (more_comes (rest ++ piece) tail.items tail.rest tail.fault tail.stream (append_some rest piece some)) [
            | inl comes ↦ inl (some_later (said items) (said tail.items ++ broken tail.fault) _ parts comes)
            | inr left ↦ inr left
          ];
      going = λ h. absurd (let clash = sym h ∙ closed in cc);
    }

-- an end by which messages are lost settles what is missing
pub settled_lost : {H : Type 0} (told : H → BadgeState → List Reply → H → BadgeState → Type 0) (refused : H → BadgeState → Fault → Type 0) (from : Origin H) (now : Progress H) (inputs : List Event) (missing : List ℕ) (unkept : Bool) → Accounts told refused from now inputs missing true unkept → is_closed now.trace.session.state ≡ true → Settled told refused from now inputs unkept
settled_lost told refused from now inputs missing unkept a closed =
    record { sent = sent_lost told refused from now inputs missing [] unkept a; answered = λ h. absurd (let clash = sym h ∙ closed in cc) }

-- ---- pieces in turn

-- nothing was read yet
pub pieced_none : {H : Type 0} (told : H → BadgeState → List Reply → H → BadgeState → Type 0) (refused : H → BadgeState → Fault → Type 0) (from : Origin H) (now : Progress H) (assembled : Assembled) → assembled ≡ record { rest = []; fault = None } → Settled told refused from now [] false → Pieced told refused from now [] assembled
pieced_none told refused from now assembled new s =
    record {
      items = [];
      rest = [];
      fault = None;
      stream = subst (λ front. Ends front [] [] None) (sym front_at-nil) (refl, refl);
      inputs = [];
      later = [];
      parts = refl;
      unkept = false;
      settled = s;
      short = λ h. absurd (let clash : false ≡ true = h in cc);
      going = λ _. record { rest_is = ap (λ (a : Assembled). a.rest) (sym new); fault_is = ap (λ (a : Assembled). a.fault) new; no_fault = refl; none_later = refl };
    }

-- one piece more
pub pieced_more : {H : Type 0} (told : H → BadgeState → List Reply → H → BadgeState → Type 0) (refused : H → BadgeState → Fault → Type 0) (from : Origin H) (now now' : Progress H) (bytes piece : List ℕ) (assembled assembled' : Assembled) → is_closed now.trace.session.state ≡ false → Pieced told refused from now bytes assembled
    → ((bytes : List ℕ) (items : List Item) → Stream bytes items assembled.rest assembled.fault → Settled told refused from now (said items) false → Pieced told refused from now' (bytes ++ piece) assembled')
    → Pieced told refused from now' (bytes ++ piece) assembled'
pieced_more told refused from now now' bytes piece assembled assembled' going p step =
    let up = p.going going in
    let stream : Stream bytes p.items assembled.rest assembled.fault =
    subst (λ (r : List ℕ). Stream bytes p.items r assembled.fault) up.rest_is (subst (λ (f : Option Fault). Stream bytes p.items p.rest f) (up.no_fault ∙ sym up.fault_is) p.stream) in
    let inputs : p.inputs ≡ said p.items =
    sym (append-nil p.inputs) ∙ ap (λ (is : List Event). p.inputs ++ is) (sym up.none_later) ∙ p.parts ∙ ap (λ (f : Option Fault). said p.items ++ broken f) up.no_fault ∙ append-nil (said p.items) in
    step bytes p.items stream (open_kept told refused from now (said p.items) p.unkept going (subst (λ (is : List Event). Settled told refused from now is p.unkept) inputs p.settled))

-- nothing was heard yet
pub heard_none : {W H : Type 0} (contents : W → Option (List ℕ)) (has_failed : W → Bool) (heeds_failure : W → W → Type 0) (heeds_none : (a : W) → heeds_failure a a) (told : H → BadgeState → List Reply → H → BadgeState → Type 0) (refused : H → BadgeState → Fault → Type 0) (now : Conversation W H) (assembled : Assembled) → assembled ≡ record { rest = []; fault = None }
    → HasHeard contents has_failed heeds_failure told refused now now [] assembled
heard_none contents has_failed heeds_failure heeds_none told refused now assembled new =
    record { ends = (refl, refl, refl, refl); heeds = λ w. (heeds_none _, w); pieced = λ origin s. pieced_none told refused origin (at contents has_failed now) assembled new s }

-- one piece more was heard
pub heard_more : {W H : Type 0} (contents : W → Option (List ℕ)) (has_failed : W → Bool) (heeds_failure : W → W → Type 0) (heeds_then : (a b c : W) → heeds_failure a b → heeds_failure b c → heeds_failure a c) (told : H → BadgeState → List Reply → H → BadgeState → Type 0) (refused : H → BadgeState → Fault → Type 0) (from now now' : Conversation W H) (bytes piece : List ℕ) (assembled assembled' : Assembled)
    → is_closed now.trace.now.session.state ≡ false → HasHeard contents has_failed heeds_failure told refused from now bytes assembled → SameReferences now now'
    → (WritesOn now.trace.now (has_failed now.writer.now) → heeds_failure now.writer.now now'.writer.now × WritesOn now'.trace.now (has_failed now'.writer.now))
    → ((origin : Origin H) (bytes : List ℕ) (items : List Item) → Stream bytes items assembled.rest assembled.fault → Settled told refused origin (at contents has_failed now) (said items) false → Pieced told refused origin (at contents has_failed now') (bytes ++ piece) assembled')
    → HasHeard contents has_failed heeds_failure told refused from now' (bytes ++ piece) assembled'
heard_more contents has_failed heeds_failure heeds_then told refused from now now' bytes piece assembled assembled' going h ends heeds step = record {
  ends = (ends.0 ∙ h.ends.0, ends.1 ∙ h.ends.1, ends.2 ∙ h.ends.2, ends.3 ∙ h.ends.3);
  heeds =
      λ w.
      let before = h.heeds w in
      let after = heeds before.1 in
      (heeds_then from.writer.now now.writer.now now'.writer.now before.0 after.0, after.1);
  pieced = λ origin s. pieced_more told refused origin (at contents has_failed now) (at contents has_failed now') bytes piece assembled assembled' going (h.pieced origin s) (step origin);
}

-- ---- the end

or_right : (a b : Bool) → b ≡ true → (a || b) ≡ true
or_right true b e = refl
or_right false b e = e

or_left : (a b : Bool) → (a || b) ≡ false → a ≡ false
or_left true b e = e
or_left false b e = refl

-- the session was closed by the peer's end before, or P holds
abbrev pub WasBye : State → Type 0 → Type 0
WasBye state P = (state ≡ Closed Bye) ⊎ P

bye_fold : (account : Account) (entries : List TraceEntry) → (fold account_step account entries).session.state ≡ Closed Bye → WasBye account.session.state (has_end entries ≡ true)
bye_fold account [] e = inl e
bye_fold account (entry ∷ entries) e =
    elim (bye_fold (account_step account entry) entries e) [
      | inl x ↦ elim (entry_bye account.count account.session entry x) [ inl y ↦ inl y | inr y ↦ inr (ap (λ b. b || has_end entries) y) ]
      | inr x ↦ inr (or_right (is_reader_end entry.event) _ x)
    ]

-- a session that the peer's end closed was given that end
bye_ended : (settings : Settings) (history : List TraceEntry) → (session_of settings history).state ≡ Closed Bye → has_end history ≡ true
unfolding account_of
bye_ended settings history e =
    elim (bye_fold (first_account settings) history e) [ inl x ↦ absurd (let y : Start ≡ Closed Bye = x in cc) | inr x ↦ x ]

end_cases : (event : Event) (more : Bool) (inputs : List Event) → more ≡ list_any is_reader_end inputs → (is_reader_end event || more) ≡ list_any is_reader_end (cond (is_input (kind_of event)) (event ∷ inputs) inputs)
end_cases (events.Said item) more inputs e = e
end_cases (events.Broken fault) more inputs e = e
end_cases events.Tick more inputs e = e
end_cases events.Probe more inputs e = e
end_cases (events.Told answer) more inputs e = e
end_cases events.ReaderEnd more inputs e = refl
end_cases events.NoMemory more inputs e = e
end_cases events.HallFull more inputs e = e
end_cases events.WriteFault more inputs e = e

-- the peer's end is among the inputs
end_is_input : (entries : List TraceEntry) → has_end entries ≡ list_any is_reader_end (inputs_of entries)
end_is_input [] = refl
end_is_input (entry ∷ entries) = end_cases entry.event (has_end entries) (inputs_of entries) (end_is_input entries)

no_end_said : (items : List Item) → list_any is_reader_end (said items) ≡ false
no_end_said [] = refl
no_end_said (item ∷ items) = no_end_said items

no_end_broken : (fault : Option Fault) → list_any is_reader_end (broken fault) ≡ false
no_end_broken None = refl
no_end_broken (Some why) = refl

-- neither items nor a fault of the stream are the peer's end
no_end : (inputs later : List Event) (items : List Item) (fault : Option Fault) → inputs ++ later ≡ said items ++ broken fault → list_any is_reader_end inputs ≡ false
no_end inputs later items fault e =
    or_left _ _ (
    sym (list_any-append is_reader_end inputs later) ∙ ap (list_any is_reader_end) e ∙ list_any-append is_reader_end (said items) (broken fault)
    ∙ ap (λ b. b || list_any is_reader_end (broken fault)) (no_end_said items) ∙ no_end_broken fault
    )

-- no entry stands after the end, from the settings where it began
each_from : {H : Type 0} (told : H → BadgeState → List Reply → H → BadgeState → Type 0) (refused : H → BadgeState → Fault → Type 0) (from : Origin H) (now : Progress H) (inputs : List Event) (missing : List ℕ) (lost unkept : Bool) (a : Accounts told refused from now inputs missing lost unkept) → EachOpen (first_account from.settings) a.history
each_from told refused from now inputs missing lost unkept a = subst (λ (s : Settings). EachOpen (first_account s) a.history) a.settings a.stands.each

-- reading stopped before its end
pub in_order_stopped : {H : Type 0} (told : H → BadgeState → List Reply → H → BadgeState → Type 0) (refused : H → BadgeState → Fault → Type 0) (from : Origin H) (now : Progress H) (inputs later : List Event) (items : List Item) (fault : Option Fault) (unkept : Bool) → inputs ++ later ≡ said items ++ broken fault → (s : Settled told refused from now inputs unkept)
    → IsInOrder (queue items fault ends.Stopped) from.settings s.sent.accounts.history × (has_end s.sent.accounts.history ≡ false)
in_order_stopped told refused from now inputs later items fault unkept e s =
    let history : List TraceEntry = s.sent.accounts.history in
    let is : inputs_of history ≡ inputs = s.sent.accounts.inputs_are in
    let none : has_end history ≡ false = end_is_input history ∙ ap (list_any is_reader_end) is ∙ no_end inputs later items fault e in (
      record {
        later = later;
        beginning = ap (λ (x : List Event). x ++ later) is ∙ e ∙ ap (λ (x : List Event). said items ++ x) (sym (append-nil (broken fault)));
        none_after = each_from told refused from now inputs s.sent.missing s.sent.lost unkept s.sent.accounts;
        all_at_bye = λ bye. absurd (let end = bye_ended from.settings history bye in let clash = sym none ∙ end in cc);
      },
      none,
    )

-- reading came to its end, and the session was given the end mark
pub in_order_ended : {H : Type 0} (told : H → BadgeState → List Reply → H → BadgeState → Type 0) (refused : H → BadgeState → Fault → Type 0) (from : Origin H) (now : Progress H) (inputs : List Event) (items : List Item) (fault : Option Fault) (end : ReadEnd) → end_mark end ≡ events.ReaderEnd ∷ [] → inputs ≡ said items ++ broken fault
    → (g : Gave told refused from now inputs events.ReaderEnd) → IsInOrder (queue items fault end) from.settings g.settled.sent.accounts.history
in_order_ended told refused from now inputs items fault end mark e g =
    let history : List TraceEntry = g.settled.sent.accounts.history in
    let is : inputs_of history ≡ g.given = g.settled.sent.accounts.inputs_are in
    let each = each_from told refused from now g.given g.settled.sent.missing g.settled.sent.lost false g.settled.sent.accounts in
    let all : said items ++ (broken fault ++ end_mark end) ≡ inputs ++ events.ReaderEnd ∷ [] =
    ap (λ (x : List Event). said items ++ (broken fault ++ x)) mark ∙ sym (append_assoc (said items) (broken fault) (events.ReaderEnd ∷ [])) ∙ ap (λ (x : List Event). x ++ events.ReaderEnd ∷ []) (sym e) in
    elim g.which [
      | inl given ↦
          record {
            later = [];
            beginning = append-nil (inputs_of history) ∙ is ∙ given ∙ sym all;
            none_after = each;
            all_at_bye = λ _. is ∙ given ∙ sym all;
          }
      | inr given ↦
          record {
            later = events.ReaderEnd ∷ [];
            beginning = ap (λ (x : List Event). x ++ events.ReaderEnd ∷ []) (is ∙ given.0) ∙ sym all;
            none_after = each;
            all_at_bye = λ bye.
                absurd (
                let end = bye_ended from.settings history bye in
                let none = no_end inputs [] items fault (append-nil inputs ∙ e) in
                let clash = sym (end_is_input history ∙ ap (list_any is_reader_end) (is ∙ given.0) ∙ none) ∙ end in cc
                );
          }
    ]
