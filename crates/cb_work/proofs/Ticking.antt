-- How often a work was ticked, and which timer events its session was given, one call at a time.
use Rattle.std.proofs.Common.{◌≡◌, ◌≤◌, ℕ, ◌+◌, Bool, true, false, cond, List, [], ◌∷◌, ◌++◌, length, refl, sym, ap, subst, ◌∙◌, append_assoc, arith, inl, inr}
use Rattle.std.specs.Prelude.{Option}
use Rattle.std.proofs.lemmas.Bool.{cases_Bool}
use Rattle.std.proofs.lemmas.Grind.{flat_map-append}
use Rattle.std.proofs.lemmas.List.{append-nil, length-append}
use Rattle.cb_base.specs.declared.fault.Fault.{Fault}
use Rattle.cb_hall.specs.Badge.{BadgeState}
use Rattle.cb_hall.specs.Histories.{Reply}
use Rattle.cb_peer_state.specs.declared.event.Event.{Event}
use Rattle.cb_peer_state.specs.declared.event.Event.TheVariants as events
use Rattle.cb_peer_state.specs.Event.{begins, is_beat, kind_of}
use Rattle.cb_session.specs.Conversation.{beat_in}
use Rattle.cb_session.proofs.Accounts.{not_both}
use Rattle.cb_crew.specs.declared.work.Given.{Given}
use Rattle.cb_session.specs.declared.input.Input.{Input}
use Rattle.cb_work.specs.declared.flags.Beats.{Beats}
use Rattle.cb_work.specs.Flags.{due_by, due_in}
use Rattle.cb_work.specs.PeerWork.{EachBeat, GaveBeats, Serves, ServesNext, ServesOn, WasTicked, WorkState, is_over, items_after}

-- ---- what looks found due

-- one look more
due_more : (answers : List Beats) (answer : Beats) → due_in (answers ++ answer ∷ []) ≡ due_in answers ++ due_by answer
due_more answers answer = flat_map-append due_by answers (answer ∷ []) ∙ ap (λ (l : List Event). due_in answers ++ l) (append-nil (due_by answer))

few_by : (tick probe : Bool) → length (cond tick (events.Tick ∷ []) [] ++ cond probe (events.Probe ∷ []) []) ≤ 2
few_by true true = omega arith
few_by true false = omega arith
few_by false true = omega arith
few_by false false = omega arith

-- all that was due was given
pub each_all : (beats : List Event) (answers : List Beats) (over : Bool) → due_in answers ≡ beats → EachBeat beats answers over
each_all beats answers over all = record { missing = []; parts = all ∙ sym (append-nil beats); few = omega arith; all = λ _. refl }

-- and is, by a work that goes on
all_given : (beats : List Event) (answers : List Beats) (over : Bool) → over ≡ false → EachBeat beats answers over → due_in answers ≡ beats
all_given beats answers over going e = e.parts ∙ ap (λ (l : List Event). beats ++ l) (e.all going) ∙ append-nil beats

each_more : (beats : List Event) (answers : List Beats) (answer : Beats) (given missing : List Event) (over : Bool) → due_in answers ≡ beats → due_by answer ≡ given ++ missing → (over ≡ false → missing ≡ []) → EachBeat (beats ++ given) (answers ++ answer ∷ []) over
each_more beats answers answer given missing over before parts all =
    record {
      missing = missing;
      parts =
          due_more answers answer ∙ ap (λ (l : List Event). l ++ due_by answer) before ∙ ap (λ (l : List Event). beats ++ l) parts
          ∙ sym (append_assoc beats given missing);
      few = (let most = few_by answer.tick answer.probe in let sum = ap length parts ∙ length-append given missing in omega (arith, most, sum));
      all = all;
    }

-- ---- calls

-- it wasn't ticked
pub ticked_on : {S H F : Type 0} (told : H → BadgeState → List Reply → H → BadgeState → Type 0) (refused : H → BadgeState → Fault → Type 0) (contents : S → Option (List ℕ)) (has_failed : S → Bool) (looks : F → List Beats → Type 0)
    (old new : WorkState S H F) (at : List ℕ) (items : List (Given Input) → List (Given Input))
    → is_over old ≡ false → ((answers : List Beats) → looks old.flags answers → looks new.flags answers)
    → ((given : List (Given Input)) (beats : List Event) → Serves told refused contents has_failed old given beats → Serves told refused contents has_failed new (items given) beats)
    → WasTicked told refused contents has_failed looks old at → WasTicked told refused contents has_failed looks new at
ticked_on told refused contents has_failed looks old new at items going looked serves t =
    record {
      answers = t.answers;
      looked = looked t.answers t.looked;
      often = t.often;
      items = items t.items;
      beats = t.beats;
      serves = serves t.items t.beats t.serves;
      each = each_all t.beats t.answers (is_over new) (all_given t.beats t.answers (is_over old) going t.each);
    }

-- nor was one whose session is over
pub ticked_over : {S H F : Type 0} (told : H → BadgeState → List Reply → H → BadgeState → Type 0) (refused : H → BadgeState → Fault → Type 0) (contents : S → Option (List ℕ)) (has_failed : S → Bool) (looks : F → List Beats → Type 0)
    (old new : WorkState S H F) (at : List ℕ)
    → is_over old ≡ true → is_over new ≡ true → ((answers : List Beats) → looks old.flags answers → looks new.flags answers)
    → ((given : List (Given Input)) (beats : List Event) → Serves told refused contents has_failed old given beats → Serves told refused contents has_failed new given beats)
    → WasTicked told refused contents has_failed looks old at → WasTicked told refused contents has_failed looks new at
ticked_over told refused contents has_failed looks old new at over still looked serves t =
    record {
      answers = t.answers;
      looked = looked t.answers t.looked;
      often = t.often;
      items = t.items;
      beats = t.beats;
      serves = serves t.items t.beats t.serves;
      each = subst (λ (b : Bool). EachBeat t.beats t.answers b) (over ∙ sym still) t.each;
    }

-- it was ticked: what is due by the look was given
pub ticked_more : {S H F : Type 0} (told : H → BadgeState → List Reply → H → BadgeState → Type 0) (refused : H → BadgeState → Fault → Type 0) (contents : S → Option (List ℕ)) (has_failed : S → Bool) (looks : F → List Beats → Type 0)
    (old new : WorkState S H F) (at : List ℕ) (number : ℕ) (answer : Beats)
    → is_over old ≡ false → ((answers : List Beats) → looks old.flags answers → looks new.flags (answers ++ answer ∷ []))
    → GaveBeats told refused contents has_failed old (due_by answer) new
    → WasTicked told refused contents has_failed looks old at → WasTicked told refused contents has_failed looks new (at ++ number ∷ [])
ticked_more told refused contents has_failed looks old new at number answer going looked gave t =
    record {
      answers = t.answers ++ answer ∷ [];
      looked = looked t.answers t.looked;
      often = length-append t.answers (answer ∷ []) ∙ ap (λ (n : ℕ). n + 1) t.often ∙ sym (length-append at (number ∷ []));
      items = t.items;
      beats = t.beats ++ gave.given;
      serves = gave.serves t.items t.beats t.serves;
      each = each_more t.beats t.answers answer gave.given gave.missing (is_over new) (all_given t.beats t.answers (is_over old) going t.each) gave.parts gave.all;
    }

-- ---- timer events

-- a timer event begins something new, and is no item
pub beat_begins : (event : Event) → is_beat (kind_of event) ≡ true → begins (kind_of event) ≡ true
beat_begins (events.Said item) e = refl
beat_begins (events.Broken fault) e = refl
beat_begins events.Tick e = refl
beat_begins events.Probe e = refl
beat_begins (events.Told answer) e = absurd cc
beat_begins events.ReaderEnd e = refl
beat_begins events.NoMemory e = absurd cc
beat_begins events.HallFull e = absurd cc
beat_begins events.WriteFault e = absurd cc

beat_items : (items : List (Given Input)) (event : Event) → is_beat (kind_of event) ≡ true → items_after items event ≡ items
beat_items items (events.Said item) e = absurd cc
beat_items items (events.Broken fault) e = absurd cc
beat_items items events.Tick e = refl
beat_items items events.Probe e = refl
beat_items items (events.Told answer) e = absurd cc
beat_items items events.ReaderEnd e = absurd cc
beat_items items events.NoMemory e = absurd cc
beat_items items events.HallFull e = absurd cc
beat_items items events.WriteFault e = absurd cc

beat_one : (event : Event) → is_beat (kind_of event) ≡ true → beat_in event ≡ event ∷ []
beat_one event e = ap (λ b. cond b (event ∷ []) []) e

-- none more was given
on_none : {S H F : Type 0} (told : H → BadgeState → List Reply → H → BadgeState → Type 0) (refused : H → BadgeState → Fault → Type 0) (contents : S → Option (List ℕ)) (has_failed : S → Bool)
    (old new : WorkState S H F) → ServesOn told refused contents has_failed old new
    → (items : List (Given Input)) (beats : List Event) → Serves told refused contents has_failed old items beats → Serves told refused contents has_failed new items (beats ++ [])
on_none told refused contents has_failed old new on items beats s =
    subst (λ (bs : List Event). Serves told refused contents has_failed new items bs) (sym (append-nil beats)) (on items beats s)

-- an item is no timer event
pub no_beat : {S H F : Type 0} (told : H → BadgeState → List Reply → H → BadgeState → Type 0) (refused : H → BadgeState → Fault → Type 0) (contents : S → Option (List ℕ)) (has_failed : S → Bool)
    (work : WorkState S H F) (items : List (Given Input)) (beats : List Event) → Serves told refused contents has_failed work items (beats ++ []) → Serves told refused contents has_failed work items beats
no_beat told refused contents has_failed work items beats s = subst (λ (bs : List Event). Serves told refused contents has_failed work items bs) (append-nil beats) s

-- one that isn't due is passed over
pub gave_none : {S H F : Type 0} (told : H → BadgeState → List Reply → H → BadgeState → Type 0) (refused : H → BadgeState → Fault → Type 0) (contents : S → Option (List ℕ)) (has_failed : S → Bool)
    (work : WorkState S H F) (due : Bool) (event : Event) → due ≡ false → GaveBeats told refused contents has_failed work (cond due (event ∷ []) []) work
gave_none told refused contents has_failed work due event e =
    record {
      given = [];
      missing = [];
      parts = ap (λ b. cond b (event ∷ []) []) e;
      all = λ _. refl;
      none = λ over. (refl, over);
      serves = on_none told refused contents has_failed work work (λ items beats s. s);
    }

-- so is one that finds the session over
pub gave_over : {S H F : Type 0} (told : H → BadgeState → List Reply → H → BadgeState → Type 0) (refused : H → BadgeState → Fault → Type 0) (contents : S → Option (List ℕ)) (has_failed : S → Bool)
    (work : WorkState S H F) (due : List Event) → is_over work ≡ true → GaveBeats told refused contents has_failed work due work
gave_over told refused contents has_failed work due over =
    record {
      given = [];
      missing = due;
      parts = refl;
      all = λ going. not_both (is_over work) going over;
      none = λ _. (refl, over);
      serves = on_none told refused contents has_failed work work (λ items beats s. s);
    }

-- there was no place for it
pub gave_refused : {S H F : Type 0} (told : H → BadgeState → List Reply → H → BadgeState → Type 0) (refused : H → BadgeState → Fault → Type 0) (contents : S → Option (List ℕ)) (has_failed : S → Bool)
    (old new : WorkState S H F) (due : List Event) → is_over old ≡ false → is_over new ≡ true → ServesOn told refused contents has_failed old new → GaveBeats told refused contents has_failed old due new
gave_refused told refused contents has_failed old new due going over on =
    record {
      given = [];
      missing = due;
      parts = refl;
      all = λ goes. not_both (is_over new) goes over;
      none = λ ends. not_both (is_over old) going ends;
      serves = on_none told refused contents has_failed old new on;
    }

-- it was given
pub gave_one : {S H F : Type 0} (told : H → BadgeState → List Reply → H → BadgeState → Type 0) (refused : H → BadgeState → Fault → Type 0) (contents : S → Option (List ℕ)) (has_failed : S → Bool)
    (old new : WorkState S H F) (due : Bool) (event : Event) → due ≡ true → is_beat (kind_of event) ≡ true → is_over old ≡ false → ServesNext told refused contents has_failed old event new
    → GaveBeats told refused contents has_failed old (cond due (event ∷ []) []) new
gave_one told refused contents has_failed old new due event e beat going next =
    record {
      given = event ∷ [];
      missing = [];
      parts = ap (λ b. cond b (event ∷ []) []) e;
      all = λ _. refl;
      none = λ ends. not_both (is_over old) going ends;
      serves = λ items beats s.
          subst (λ (bs : List Event). Serves told refused contents has_failed new items (beats ++ bs)) (beat_one event beat)
          (subst (λ (is : List (Given Input)). Serves told refused contents has_failed new is (beats ++ beat_in event)) (beat_items items event beat) (next items beats s));
    }

-- some and then others
gave_both : {S H F : Type 0} (told : H → BadgeState → List Reply → H → BadgeState → Type 0) (refused : H → BadgeState → Fault → Type 0) (contents : S → Option (List ℕ)) (has_failed : S → Bool)
    (old mid new : WorkState S H F) (first others : List Event) → GaveBeats told refused contents has_failed old first mid → GaveBeats told refused contents has_failed mid others new
    → GaveBeats told refused contents has_failed old (first ++ others) new
gave_both told refused contents has_failed old mid new first others f o =
    elim (cases_Bool (is_over mid)) [
      | inl over ↦
          (let none = o.none over in
          record {
            given = f.given;
            missing = f.missing ++ others;
            parts = ap (λ (l : List Event). l ++ others) f.parts ∙ append_assoc f.given f.missing others;
            all = λ goes. not_both (is_over new) goes none.1;
            none = λ ends. ((f.none ends).0, none.1);
            serves = λ items beats s.
                subst (λ (bs : List Event). Serves told refused contents has_failed new items bs) (ap (λ (l : List Event). (beats ++ f.given) ++ l) none.0 ∙ append-nil (beats ++ f.given))
                (o.serves items (beats ++ f.given) (f.serves items beats s));
          })
      | inr going ↦
          (let whole : first ≡ f.given = f.parts ∙ ap (λ (l : List Event). f.given ++ l) (f.all going) ∙ append-nil f.given in
          record {
            given = f.given ++ o.given;
            missing = o.missing;
            parts = ap (λ (l : List Event). l ++ others) whole ∙ ap (λ (l : List Event). f.given ++ l) o.parts ∙ sym (append_assoc f.given o.given o.missing);
            all = o.all;
            none = λ ends. not_both (is_over mid) going (f.none ends).1;
            serves = λ items beats s.
                subst (λ (bs : List Event). Serves told refused contents has_failed new items bs) (append_assoc beats f.given o.given)
                (o.serves items (beats ++ f.given) (f.serves items beats s));
          })
    ]

-- a tick and a probe, behind a look at the flags
pub gave_due : {S H F : Type 0} (told : H → BadgeState → List Reply → H → BadgeState → Type 0) (refused : H → BadgeState → Fault → Type 0) (contents : S → Option (List ℕ)) (has_failed : S → Bool)
    (old looked mid new : WorkState S H F) (due : Beats) → is_over looked ≡ is_over old → ServesOn told refused contents has_failed old looked
    → GaveBeats told refused contents has_failed looked (cond due.tick (events.Tick ∷ []) []) mid → GaveBeats told refused contents has_failed mid (cond due.probe (events.Probe ∷ []) []) new
    → GaveBeats told refused contents has_failed old (due_by due) new
gave_due told refused contents has_failed old looked mid new due same on tick probe =
    let both = gave_both told refused contents has_failed looked mid new (cond due.tick (events.Tick ∷ []) []) (cond due.probe (events.Probe ∷ []) []) tick probe in
    record {
      given = both.given;
      missing = both.missing;
      parts = both.parts;
      all = both.all;
      none = λ over. both.none (same ∙ over);
      serves = λ items beats s. both.serves items beats (on items beats s);
    }
