-- The comparison of a journal with all traces, one question more.
use Rattle.std.proofs.Common.{◌≡◌, ◌∙◌, ◌≢◌, ℕ, zero, suc, ◌+◌, ◌-◌, ◌<◌, ◌≤◌, ◌^◌, Bool, true, false, cond, List, [], ◌∷◌, ◌++◌, length, set, drop, Option, Some, None, refl, sym, ap, subst, inl, inr, arith}
use Rattle.std.specs.Prelude.{◌⊎◌, IfSome, MatchOption, filter, get_or, is_some, map, min, slice_get}
use Rattle.std.proofs.lemmas.List.{drop_all, length-append}
use Rattle.std.proofs.lemmas.List.Elements.{filter-append}
use Rattle.std.proofs.lemmas.Option.{get_or_from_slice_get, slice_get_within}
use Rattle.cb_state.specs.declared.connection.Connection.{Connection}
use Rattle.cb_state.specs.Announcers.{same_connection}
use Rattle.cb_hall.specs.Connections.{Slots}
use Rattle.cb_peer_state.specs.Event.{is_told, kind_of}
use Rattle.cb_trace.specs.declared.trace.Counts.{Counts}
use Rattle.cb_trace.specs.declared.trace.TraceEntry.{TraceEntry}
use Rattle.cb_trace.specs.Fold.{number_of}
use Rattle.cb_trace.specs.Trace.{StandsFor, TraceView}
use Rattle.cb_audit.specs.declared.heard.Difference.{Difference}
use Rattle.cb_audit.specs.declared.place.Place.{Place}
use Rattle.cb_audit.specs.Comparing.{Agrees, AreFew, EndsAt, HasCome, PartsAt, Seen, SplitsAt, first_place, told_before}
use Rattle.cb_audit.specs.Counting.{HasTrace, IsEarlier, granted, told_by}
use Rattle.cb_audit.specs.Heard.{ArePlaced, AreStrangers, IsDifference, IsFirstSplit, IsFirstStranger, IsHeard, IsSplit, IsSplitWithTrace, IsStranger, seen_more, skip_of, start_of}
use Rattle.cb_audit.specs.Order.{AreInOrder, AuditedTrace, IsBefore, IsTraceAt, trace_of}
use Rattle.cb_audit.specs.Turns.{Turn, turns_by, turns_in}
use Rattle.cb_audit.proofs.Orders.{before_not, before_other, before_trans, differ_at, has_or_not, less, same_at, trace_at}
use Rattle.cb_audit.proofs.Numbers.{stands_before}

-- ---- lists

set_deeper : {A : Type 0} (xs : List A) (i j : ℕ) (x y : A) → ((i ≡ j) × (x ≡ y)) ⊎ ((i ≢ j) × (slice_get xs j ≡ Some y)) → ((suc i ≡ suc j) × (x ≡ y)) ⊎ ((suc i ≢ suc j) × (slice_get xs j ≡ Some y))
set_deeper xs i j x y (inl (e, same)) = inl (ap suc e, same)
set_deeper xs i j x y (inr (differ, at)) = inr ((λ (e : suc i ≡ suc j). differ (omega (arith, e))), at)

get_set : {A : Type 0} (xs : List A) (i j : ℕ) (x y : A) → slice_get (set xs i x) j ≡ Some y → ((i ≡ j) × (x ≡ y)) ⊎ ((i ≢ j) × (slice_get xs j ≡ Some y))
get_set [] i j x y is = absurd (let never : None ≡ Some y = is in cc)
get_set (z ∷ xs) zero zero x y is = inl (refl, (let some_same : Some x ≡ Some y = is in cc))
get_set (z ∷ xs) zero (suc j) x y is = inr ((λ (e : 0 ≡ suc j). omega (arith, e)), is)
get_set (z ∷ xs) (suc i) zero x y is = inr ((λ (e : suc i ≡ 0). omega (arith, e)), is)
get_set (z ∷ xs) (suc i) (suc j) x y is = set_deeper xs i j x y (get_set xs i j x y is)

length_set : {A : Type 0} (xs : List A) (i : ℕ) (x : A) → length (set xs i x) ≡ length xs
length_set [] i x = refl
length_set (y ∷ xs) zero x = refl
length_set (y ∷ xs) (suc i) x = ap suc (length_set xs i x)

push_deeper : {A : Type 0} (xs : List A) (i : ℕ) (x y : A) → (slice_get xs i ≡ Some y) ⊎ ((i ≡ length xs) × (x ≡ y)) → (slice_get xs i ≡ Some y) ⊎ ((suc i ≡ suc (length xs)) × (x ≡ y))
push_deeper xs i x y (inl at) = inl at
push_deeper xs i x y (inr (e, same)) = inr (ap suc e, same)

get_push : {A : Type 0} (xs : List A) (i : ℕ) (x y : A) → slice_get (xs ++ x ∷ []) i ≡ Some y → (slice_get xs i ≡ Some y) ⊎ ((i ≡ length xs) × (x ≡ y))
get_push [] zero x y is = inr (refl, (let some_same : Some x ≡ Some y = is in cc))
get_push [] (suc i) x y is = absurd (let never : None ≡ Some y = is in cc)
get_push (z ∷ xs) zero x y is = inl is
get_push (z ∷ xs) (suc i) x y is = push_deeper xs i x y (get_push xs i x y is)

get_map : {A B : Type 0} (f : A → B) (xs : List A) (i : ℕ) (x : A) → slice_get xs i ≡ Some x → slice_get (map f xs) i ≡ Some (f x)
get_map f [] i x is = absurd (let never : None ≡ Some x = is in cc)
get_map f (y ∷ xs) zero x is = let same : y ≡ x = (let some_same : Some y ≡ Some x = is in cc) in ap (λ (z : _). Some (f z)) same
get_map f (y ∷ xs) (suc i) x is = get_map f xs i x is

one_of : {A : Type 0} (xs : List A) (i : ℕ) (x y : A) → slice_get xs i ≡ Some x → slice_get xs i ≡ Some y → x ≡ y
one_of xs i x y a b = let some_same : Some x ≡ Some y = sym a ∙ b in cc

-- the turns of a place are those of its trace
pub turns_at : (audited : List AuditedTrace) (all : List (List Turn)) (at : ℕ) (one : AuditedTrace) (turns : List Turn) → all ≡ map (λ a. turns_in a.trace) audited → slice_get audited at ≡ Some one
    → slice_get all at ≡ Some turns → turns ≡ turns_in one.trace
turns_at audited all at one turns is a b =
    one_of (map (λ x. turns_in x.trace) audited) at turns (turns_in one.trace) (ap (λ (l : List (List Turn)). slice_get l at) (sym is) ∙ b) (get_map (λ x. turns_in x.trace) audited at one a)

-- ---- before the journal

-- the places so far
placed_pick : (kept : Slots) (audited : List AuditedTrace) (seen : Seen) (places : List Place) (here one : AuditedTrace) (new place : Place) (i : ℕ) → ArePlaced kept audited seen places
    → slice_get audited (length places) ≡ Some here
    → HasCome (start_of kept here) (skip_of kept here) (turns_in here.trace) (seen here.connection) new.skip new.next new.differs
    → slice_get audited i ≡ Some one → ((slice_get places i ≡ Some place) ⊎ ((i ≡ length places) × (new ≡ place)))
    → HasCome (start_of kept one) (skip_of kept one) (turns_in one.trace) (seen one.connection) place.skip place.next place.differs
placed_pick kept audited seen places here one new place i are at come bt (inl before) = are i one place bt before
placed_pick kept audited seen places here one new place i are at come bt (inr (e, same)) =
    let there : here ≡ one = one_of audited i here one (ap (slice_get audited) e ∙ at) bt in
    subst (λ (a : AuditedTrace). HasCome (start_of kept a) (skip_of kept a) (turns_in a.trace) (seen a.connection) place.skip place.next place.differs) there
    (subst (λ (p : Place). HasCome (start_of kept here) (skip_of kept here) (turns_in here.trace) (seen here.connection) p.skip p.next p.differs) same come)

pub placed_more : (kept : Slots) (audited : List AuditedTrace) (seen : Seen) (places : List Place) (here : AuditedTrace) (new : Place) → ArePlaced kept audited seen places → slice_get audited (length places) ≡ Some here
    → HasCome (start_of kept here) (skip_of kept here) (turns_in here.trace) (seen here.connection) new.skip new.next new.differs → ArePlaced kept audited seen (places ++ new ∷ [])
placed_more kept audited seen places here new are at come i one place bt ct = placed_pick kept audited seen places here one new place i are at come bt (get_push places i new place ct)

pub placed_none : (kept : Slots) (audited : List AuditedTrace) (seen : Seen) → ArePlaced kept audited seen []
placed_none kept audited seen i one place at bt = absurd (let never : None ≡ Some place = bt in cc)

pub first_more : (kept : Slots) (audited : List AuditedTrace) (places all : List Place) (n : ℕ) (here : AuditedTrace) (new : Place) → all ≡ places ++ new ∷ [] → length places ≡ n → ArePlaced kept audited (λ _. []) places
    → slice_get audited n ≡ Some here → HasCome (start_of kept here) (skip_of kept here) (turns_in here.trace) [] new.skip new.next new.differs
    → (length all ≡ n + 1) × ArePlaced kept audited (λ _. []) all
first_more kept audited places all n here new is long are at come =
    let sum = length-append places (new ∷ []) in
    let same = ap length is in (
      omega (arith, sum, same, long),
      subst (ArePlaced kept audited (λ _. [])) (sym is) (placed_more kept audited (λ _. []) places here new are (ap (slice_get audited) long ∙ at) come),
    )

pub heard_first : (kept : Slots) (audited : List AuditedTrace) (places : List Place) → length places ≡ length audited → ArePlaced kept audited (λ _. []) places → IsHeard kept audited (λ _. []) places None
heard_first kept audited places long placed = record { long = long; placed = placed; strangers = λ other stranger. refl }

-- ---- what was seen, with one turn more

more_same : (seen : Seen) (c other : Connection) (turn : Turn) → c ≡ other → seen_more seen c turn other ≡ seen other ++ turn ∷ []
more_same seen c other turn is = ap (λ (b : Bool). cond b (seen other ++ turn ∷ []) (seen other)) (same_at c other is)

more_other : (seen : Seen) (c other : Connection) (turn : Turn) → (c ≡ other → ⊥) → seen_more seen c turn other ≡ seen other
more_other seen c other turn not = ap (λ (b : Bool). cond b (seen other ++ turn ∷ []) (seen other)) (differ_at c other not)

-- a connection with a trace isn't one without
not_stranger : (audited : List AuditedTrace) (c other : Connection) (t : TraceView) → trace_of audited c ≡ Some t → IsStranger audited other → c ≡ other → ⊥
not_stranger audited c other t has none e = let never : Some t ≡ None = sym has ∙ ap (trace_of audited) e ∙ none in absurd (cc)

-- ---- a question of a connection with a trace

place_pick : (audited : List AuditedTrace) (at i : ℕ) (here one : AuditedTrace) → AreInOrder audited → slice_get audited at ≡ Some here → slice_get audited i ≡ Some one → here.connection ≡ one.connection
    → ((at < i) ⊎ (i ≤ at)) → ((i < at) ⊎ (at ≤ i)) → at ≡ i
place_pick audited at i here one order a b e (inl h) k = absurd (before_not here.connection one.connection (order at i here one h a b) e)
place_pick audited at i here one order a b e (inr h) (inl k) = absurd (before_not one.connection here.connection (order i at one here k b a) (sym e))
place_pick audited at i here one order a b e (inr h) (inr k) = omega (arith, h, k)

same_place : (audited : List AuditedTrace) (at i : ℕ) (here one : AuditedTrace) → AreInOrder audited → slice_get audited at ≡ Some here → slice_get audited i ≡ Some one → here.connection ≡ one.connection → at ≡ i
same_place audited at i here one order a b e = place_pick audited at i here one order a b e (less at i) (less i at)

known_placed : (kept : Slots) (audited : List AuditedTrace) (seen : Seen) (places : List Place) (c : Connection) (at i : ℕ) (here one : AuditedTrace) (old new place : Place) (turns : List Turn) (turn : Turn)
    → AreInOrder audited → ArePlaced kept audited seen places → slice_get audited at ≡ Some here → here.connection ≡ c → slice_get places at ≡ Some old → turns ≡ turns_in here.trace
    → ((start skip : ℕ) (s : List Turn) → HasCome start skip turns s old.skip old.next old.differs → HasCome start skip turns (s ++ turn ∷ []) new.skip new.next new.differs)
    → slice_get audited i ≡ Some one → (((at ≡ i) × (new ≡ place)) ⊎ ((at ≢ i) × (slice_get places i ≡ Some place)))
    → HasCome (start_of kept one) (skip_of kept one) (turns_in one.trace) (seen_more seen c turn one.connection) place.skip place.next place.differs
known_placed kept audited seen places c at i here one old new place turns turn order are hat is pat own step bt (inl (e, same)) =
    let there : here ≡ one = one_of audited i here one (ap (slice_get audited) (sym e) ∙ hat) bt in
    let come = are at here old hat pat in
    let stepped =
    step (start_of kept here) (skip_of kept here) (seen here.connection)
    (subst (λ (t : List Turn). HasCome (start_of kept here) (skip_of kept here) t (seen here.connection) old.skip old.next old.differs) (sym own) come) in
    let grown =
    subst (λ (t : List Turn). HasCome (start_of kept here) (skip_of kept here) t (seen_more seen c turn here.connection) new.skip new.next new.differs) own
    (subst (λ (s : List Turn). HasCome (start_of kept here) (skip_of kept here) turns s new.skip new.next new.differs) (sym (more_same seen c here.connection turn (sym is))) stepped) in
    subst (λ (a : AuditedTrace). HasCome (start_of kept a) (skip_of kept a) (turns_in a.trace) (seen_more seen c turn a.connection) place.skip place.next place.differs) there
    (subst (λ (p : Place). HasCome (start_of kept here) (skip_of kept here) (turns_in here.trace) (seen_more seen c turn here.connection) p.skip p.next p.differs) same grown)
known_placed kept audited seen places c at i here one old new place turns turn order are hat is pat own step bt (inr (differ, ct)) =
    subst (λ (s : List Turn). HasCome (start_of kept one) (skip_of kept one) (turns_in one.trace) s place.skip place.next place.differs)
    (sym (more_other seen c one.connection turn (λ e. differ (same_place audited at i here one order hat bt (is ∙ e)))))
    (are i one place bt ct)

known_strangers : (audited : List AuditedTrace) (seen : Seen) (c : Connection) (t : TraceView) (turn : Turn) (stranger : Option Connection) → trace_of audited c ≡ Some t → AreStrangers audited seen stranger
    → AreStrangers audited (seen_more seen c turn) stranger
known_strangers audited seen c t turn None has are = λ other s. more_other seen c other turn (not_stranger audited c other t has s) ∙ are other s
known_strangers audited seen c t turn (Some first) has are =
    record {
      stranger = are.stranger;
      some_turn = λ e. are.some_turn (sym (more_other seen c first turn (not_stranger audited c first t has are.stranger)) ∙ e);
      earlier = λ other before s. more_other seen c other turn (not_stranger audited c other t has s) ∙ are.earlier other before s;
    }

pub heard_known : (kept : Slots) (audited : List AuditedTrace) (seen : Seen) (places : List Place) (stranger : Option Connection) (c : Connection) (at : ℕ) (old new : Place) (turns : List Turn) (turn : Turn) → AreInOrder audited
    → IsTraceAt audited c at → slice_get places at ≡ Some old → ((one : AuditedTrace) → slice_get audited at ≡ Some one → turns ≡ turns_in one.trace)
    → ((start skip : ℕ) (s : List Turn) → HasCome start skip turns s old.skip old.next old.differs → HasCome start skip turns (s ++ turn ∷ []) new.skip new.next new.differs)
    → IsHeard kept audited seen places stranger → IsHeard kept audited (seen_more seen c turn) (set places at new) stranger
heard_known kept audited seen places stranger c at old new turns turn order (here, hat, is) pat own step heard =
    record {
      long = length_set places at new ∙ heard.long;
      placed = λ i one place bt ct.
          known_placed kept audited seen places c at i here one old new place turns turn order heard.placed hat is pat (own here hat) step bt (get_set places at i new place ct);
      strangers = known_strangers audited seen c here.trace turn stranger (trace_at audited c at here order hat is) heard.strangers;
    }

-- ---- a question of a connection without a trace

push_some : (xs : List Turn) (x : Turn) → xs ++ x ∷ [] ≡ [] → ⊥
push_some [] x e = (let never : x ∷ [] ≡ [] = e in absurd (cc))
push_some (y ∷ xs) x e = (let never : y ∷ (xs ++ x ∷ []) ≡ [] = e in absurd (cc))

more_some : (seen : Seen) (c other : Connection) (turn : Turn) (b : Bool) → seen other ≢ [] → cond b (seen other ++ turn ∷ []) (seen other) ≡ [] → ⊥
more_some seen c other turn true some_turn e = push_some (seen other) turn e
more_some seen c other turn false some_turn e = some_turn e

-- what was seen of the connections before the first one
before_first : (audited : List AuditedTrace) (seen : Seen) (stranger : Option Connection) (first other : Connection) → AreStrangers audited seen stranger
    → ((connection : Connection) → stranger ≡ Some connection → IsBefore connection first → ⊥) → IsBefore other first → IsStranger audited other → seen other ≡ []
before_first audited seen None first other are not_behind before s = are other s
before_first audited seen (Some connection) first other are not_behind before s = are.earlier other (before_other other first connection before (not_behind connection refl)) s

first_is : (audited : List AuditedTrace) (seen : Seen) (stranger : Option Connection) (c first : Connection) (turn : Turn) → AreStrangers audited seen stranger → IsStranger audited c
    → ((stranger ≡ Some first) ⊎ (Some c ≡ Some first)) → IsStranger audited first × (seen_more seen c turn first ≡ [] → ⊥)
first_is audited seen None c first turn are none (inl e) = (let never : None ≡ Some first = e in absurd (cc))
first_is audited seen (Some connection) c first turn are none (inl e) =
    let same : connection ≡ first = (let some_same : Some connection ≡ Some first = e in cc) in (
      subst (IsStranger audited) same are.stranger,
      subst (λ (x : Connection). seen_more seen c turn x ≡ [] → ⊥) same (more_some seen c connection turn (same_connection c connection) are.some_turn),
    )
first_is audited seen stranger c first turn are none (inr e) =
    let same : c ≡ first = (let some_same : Some c ≡ Some first = e in cc) in (
      subst (IsStranger audited) same none,
      λ nothing. push_some (seen first) turn (sym (more_same seen c first turn same) ∙ nothing),
    )

unknown_strangers : (audited : List AuditedTrace) (seen : Seen) (c : Connection) (turn : Turn) (stranger found : Option Connection) → IsStranger audited c → AreStrangers audited seen stranger
    → (found ≡ None → (stranger ≡ None) × (Some c ≡ None)) → IfSome found (IsEarlier stranger (Some c)) → AreStrangers audited (seen_more seen c turn) found
unknown_strangers audited seen c turn stranger None none are no_one earlier = absurd (let never : Some c ≡ None = (no_one refl).1 in cc)
unknown_strangers audited seen c turn stranger (Some first) none are no_one earlier =
    let is = first_is audited seen stranger c first turn are none earlier.is in
    record {
      stranger = is.0;
      some_turn = is.1;
      earlier = λ other before s.
          more_other seen c other turn (λ e. earlier.not_behind c (inr refl) (subst (λ (x : Connection). IsBefore x first) (sym e) before))
          ∙ before_first audited seen stranger first other are (λ x e. earlier.not_behind x (inl e)) before s;
    }

pub heard_unknown : (kept : Slots) (audited : List AuditedTrace) (seen : Seen) (places : List Place) (stranger found : Option Connection) (c : Connection) (turn : Turn) → AreInOrder audited → trace_of audited c ≡ None
    → (found ≡ None → (stranger ≡ None) × (Some c ≡ None)) → IfSome found (IsEarlier stranger (Some c))
    → IsHeard kept audited seen places stranger → IsHeard kept audited (seen_more seen c turn) places found
heard_unknown kept audited seen places stranger found c turn order none no_one earlier heard =
    record {
      long = heard.long;
      placed = λ i one place at bt.
          subst (λ (s : List Turn). HasCome (start_of kept one) (skip_of kept one) (turns_in one.trace) s place.skip place.next place.differs)
          (sym (more_other seen c one.connection turn (λ e. not_stranger audited one.connection c one.trace (trace_at audited one.connection i one order at refl) none (sym e))))
          (heard.placed i one place at bt);
      strangers = unknown_strangers audited seen c turn stranger found none heard.strangers no_one earlier;
    }

-- ---- what was seen, another way

strangers_like : (audited : List AuditedTrace) (seen like : Seen) (stranger : Option Connection) → ((c : Connection) → seen c ≡ like c) → AreStrangers audited seen stranger → AreStrangers audited like stranger
strangers_like audited seen like None same are = λ other s. sym (same other) ∙ are other s
strangers_like audited seen like (Some first) same are =
    record {
      stranger = are.stranger;
      some_turn = λ e. are.some_turn (same first ∙ e);
      earlier = λ other before s. sym (same other) ∙ are.earlier other before s;
    }

pub heard_like : (kept : Slots) (audited : List AuditedTrace) (seen like : Seen) (places : List Place) (stranger : Option Connection) → ((c : Connection) → seen c ≡ like c) → IsHeard kept audited seen places stranger
    → IsHeard kept audited like places stranger
heard_like kept audited seen like places stranger same heard =
    record {
      long = heard.long;
      placed = λ i one place at bt.
          subst (λ (s : List Turn). HasCome (start_of kept one) (skip_of kept one) (turns_in one.trace) s place.skip place.next place.differs) (same one.connection) (heard.placed i one place at bt);
      strangers = strangers_like audited seen like stranger same heard.strangers;
    }

-- ---- where they differ

-- of one trace
pub difference_is : (kept : Slots) (one : AuditedTrace) (turns seen : List Turn) (c : Connection) (before index place : ℕ) → c ≡ one.connection → before ≡ one.trace.before.told → before ≤ one.trace.total.told
    → place ≡ before + index → EndsAt (start_of kept one) turns (drop (skip_of kept one) seen) index → IsDifference kept one turns seen (record { connection = c; place = place })
difference_is kept one turns seen c before index place connection told less_than sum ends =
    let is = ends.is in
    record {
      connection = connection;
      index = ends.place;
      is = omega (arith, told, sum, is);
      parts = ends.parts;
    }

length_drop_le : (n : ℕ) (xs : List Turn) → length (drop n xs) ≤ length xs
length_drop_le zero xs = omega arith
length_drop_le (suc n) [] = omega arith
length_drop_le (suc n) (x ∷ xs) = let rest = length_drop_le n xs in omega (arith, rest)

-- the last place is small
pub ends_low : (kept : Slots) (one : AuditedTrace) (turns seen : List Turn) (index : ℕ) → EndsAt (start_of kept one) turns (drop (skip_of kept one) seen) index
    → granted kept one.connection ≤ 2 ^ 62 → one.trace.before.told ≤ 2 ^ 62 → length seen ≤ 2 ^ 62 → one.trace.before.told + index ≤ 2 ^ 63
ends_low kept one turns seen index ends g b s =
    let is = ends.is in
    let within = ends.within in
    let long = length_drop_le (skip_of kept one) seen in
    omega (arith, is, within, long, g, b, s)

-- a trace's turns from the first place on, as the definition says them
pub agrees_at : (kept : Slots) (audited : List AuditedTrace) (seen : Seen) (one : AuditedTrace) (turns : List Turn) → trace_of audited one.connection ≡ Some one.trace → turns ≡ turns_in one.trace
    → drop (skip_of kept one) (seen one.connection) ≡ drop (start_of kept one) turns → Agrees kept audited seen one.connection
agrees_at kept audited seen one turns has own same =
    subst (λ (t : Option TraceView). drop (first_place kept one.connection t - granted kept one.connection) (seen one.connection) ≡ drop (first_place kept one.connection t - told_before t) (turns_by t)) (sym has)
    (same ∙ ap (drop (start_of kept one)) own)

splits_at : (kept : Slots) (audited : List AuditedTrace) (seen : Seen) (one : AuditedTrace) (turns : List Turn) (difference : Difference) → trace_of audited one.connection ≡ Some one.trace → turns ≡ turns_in one.trace
    → IsDifference kept one turns (seen one.connection) difference → SplitsAt kept audited seen one.connection difference.place
splits_at kept audited seen one turns difference has own is =
    record {
      index = is.index;
      is = is.is ∙ ap (λ (t : Option TraceView). first_place kept one.connection t + is.index) (sym has);
      parts =
          subst
          (λ (t : Option TraceView).
          PartsAt (drop (first_place kept one.connection t - granted kept one.connection) (seen one.connection)) (drop (first_place kept one.connection t - told_before t) (turns_by t)) is.index)
          (sym has)
          (subst (λ (l : List Turn). PartsAt (drop (skip_of kept one) (seen one.connection)) (drop (start_of kept one) l) is.index) own is.parts);
    }

-- the answers dropped are some of all
number_le : (xs ys : List TraceEntry) → number_of is_told xs ≤ number_of is_told (xs ++ ys)
number_le xs ys =
    let sum = ap length (filter-append (λ entry. is_told (kind_of entry.event)) xs ys) ∙ length-append (filter (λ entry. is_told (kind_of entry.event)) xs) (filter (λ entry. is_told (kind_of entry.event)) ys) in
    omega (arith, sum)

pub dropped_few : (trace : TraceView) (history : List TraceEntry) → StandsFor trace history → trace.before.told ≤ trace.total.told
dropped_few trace history h =
    let before = ap (λ (c : Counts). c.told) h.before in
    let total = ap (λ (c : Counts). c.told) h.total ∙ ap (λ (l : List TraceEntry). number_of is_told l) h.parts in
    let few = number_le h.dropped trace.entries in
    omega (arith, before, total, few)

pub compared_is : (kept : Slots) (one : AuditedTrace) (turns seen : List Turn) (c : Connection) (trace : TraceView) (history : List TraceEntry) (before : Counts) (index place : ℕ) → c ≡ one.connection → trace ≡ one.trace
    → StandsFor trace history → before ≡ trace.before → place ≡ min (before.told + index) 18446744073709551615 → EndsAt (start_of kept one) turns (drop (skip_of kept one) seen) index
    → granted kept one.connection ≤ 4611686018427387904 → one.trace.total.told ≤ 4611686018427387904 → length seen ≤ 4611686018427387904
    → IsDifference kept one turns seen (record { connection = c; place = place })
compared_is kept one turns seen c trace history before index place connection is stands told sum ends g t s =
    let few = subst (λ (x : TraceView). x.before.told ≤ x.total.told) is (dropped_few trace history stands) in
    let same : before.told ≡ one.trace.before.told = ap (λ (x : Counts). x.told) told ∙ ap (λ (x : TraceView). x.before.told) is in
    let low = ends_low kept one turns seen index ends g (omega (arith, few, t)) s in
    difference_is kept one turns seen c before.told index place connection same (omega (arith, same, few)) (omega (arith, sum, low, same)) ends

-- what comes of one trace, in the list
pub all_at : (audited : List AuditedTrace) (all : List (List Turn)) (at : ℕ) (here : AuditedTrace) (turns : List Turn) → all ≡ map (λ a. turns_in a.trace) audited → slice_get audited at ≡ Some here → turns ≡ get_or all at turns
    → turns ≡ turns_in here.trace
all_at audited all at here turns is a b =
    b ∙ get_or_from_slice_get all at (turns_in here.trace) turns (ap (λ (l : List (List Turn)). slice_get l at) is ∙ get_map (λ x. turns_in x.trace) audited at here a)

pub with_found : (kept : Slots) (audited : List AuditedTrace) (seen : Seen) (places : List Place) (n : ℕ) (here : AuditedTrace) (place : Place) (turns : List Turn) (found : Option Difference) → AreInOrder audited
    → AreFew kept audited seen → ArePlaced kept audited seen places → slice_get audited n ≡ Some here → slice_get places n ≡ Some place → turns ≡ turns_in here.trace
    → ((k : Slots) (s : List Turn) → HasCome (start_of k here) (skip_of k here) turns s place.skip place.next place.differs → granted k here.connection ≤ 4611686018427387904 → here.trace.total.told ≤ 4611686018427387904
    → length s ≤ 4611686018427387904 → MatchOption found (drop (skip_of k here) s ≡ drop (start_of k here) turns) (IsDifference k here turns s))
    → MatchOption found (drop (skip_of kept here) (seen here.connection) ≡ drop (start_of kept here) turns) (IsDifference kept here turns (seen here.connection))
with_found kept audited seen places n here place turns found order few placed at bt own clause =
    let has = trace_at audited here.connection n here order at refl in
    clause kept (seen here.connection)
    (subst (λ (t : List Turn). HasCome (start_of kept here) (skip_of kept here) t (seen here.connection) place.skip place.next place.differs) (sym own) (placed n here place at bt))
    (few.granted_few here.connection) (subst (λ (t : Option TraceView). told_by t ≤ 4611686018427387904) has (few.told_few here.connection)) (few.seen_few here.connection)

-- of the traces up to a place
abbrev pub AgreeUpTo : Slots → List AuditedTrace → Seen → ℕ → Type 0
AgreeUpTo kept audited seen n = (i : ℕ) (one : AuditedTrace) → i < n → slice_get audited i ≡ Some one → Agrees kept audited seen one.connection

pub agree_none : (kept : Slots) (audited : List AuditedTrace) (seen : Seen) → AgreeUpTo kept audited seen 0
agree_none kept audited seen i one low at = absurd (omega (arith, low))

agree_pick : (kept : Slots) (audited : List AuditedTrace) (seen : Seen) (n i : ℕ) (here one : AuditedTrace) → AgreeUpTo kept audited seen n → slice_get audited n ≡ Some here → Agrees kept audited seen here.connection
    → i < n + 1 → slice_get audited i ≡ Some one → ((i < n) ⊎ (n ≤ i)) → Agrees kept audited seen one.connection
agree_pick kept audited seen n i here one are at here_agrees low bt (inl h) = are i one h bt
agree_pick kept audited seen n i here one are at here_agrees low bt (inr h) =
    let e : n ≡ i = omega (arith, low, h) in
    subst (λ (a : AuditedTrace). Agrees kept audited seen a.connection) (one_of audited i here one (ap (slice_get audited) (sym e) ∙ at) bt) here_agrees

pub agree_next : (kept : Slots) (audited : List AuditedTrace) (seen : Seen) (n : ℕ) (here : AuditedTrace) → AgreeUpTo kept audited seen n → slice_get audited n ≡ Some here → Agrees kept audited seen here.connection
    → AgreeUpTo kept audited seen (n + 1)
agree_next kept audited seen n here are at here_agrees i one low bt = agree_pick kept audited seen n i here one are at here_agrees low bt (less i n)

pub agree_all : (kept : Slots) (audited : List AuditedTrace) (seen : Seen) (n : ℕ) → AgreeUpTo kept audited seen n → length audited ≤ n → (other : Connection) → HasTrace audited other → Agrees kept audited seen other
agree_all kept audited seen n are past other (i, (one, at, is)) =
    let low = slice_get_within audited i one at in subst (Agrees kept audited seen) is (are i one (omega (arith, low, past)) at)

agree_before : (kept : Slots) (audited : List AuditedTrace) (seen : Seen) (n : ℕ) (here : AuditedTrace) (other : Connection) → AreInOrder audited → AgreeUpTo kept audited seen n → slice_get audited n ≡ Some here
    → IsBefore other here.connection → HasTrace audited other → Agrees kept audited seen other
agree_before kept audited seen n here other order are at before (i, (one, bt, is)) =
    let low = stands_before audited n i here one order at bt (subst (λ (c : Connection). IsBefore c here.connection) (sym is) before) (less i n) in
    subst (Agrees kept audited seen) is (are i one low bt)

pub split_with : (kept : Slots) (audited : List AuditedTrace) (seen : Seen) (n : ℕ) (here : AuditedTrace) (turns : List Turn) (difference : Difference) → AreInOrder audited → AgreeUpTo kept audited seen n
    → slice_get audited n ≡ Some here → turns ≡ turns_in here.trace → IsDifference kept here turns (seen here.connection) difference → IsFirstSplit kept audited seen difference
split_with kept audited seen n here turns difference order are at own is =
    let has = trace_at audited here.connection n here order at refl in
    record {
      here = subst (λ (c : Connection). SplitsAt kept audited seen c difference.place) (sym is.connection) (splits_at kept audited seen here turns difference has own is);
      earlier = λ other before h. agree_before kept audited seen n here other order are at (subst (IsBefore other) is.connection before) h;
    }

pub some_split : (kept : Slots) (audited : List AuditedTrace) (seen : Seen) (n : ℕ) (here : AuditedTrace) (turns : List Turn) (found : Option Difference) → AreInOrder audited → AgreeUpTo kept audited seen n
    → slice_get audited n ≡ Some here → turns ≡ turns_in here.trace → is_some found ≡ true
    → MatchOption found (drop (skip_of kept here) (seen here.connection) ≡ drop (start_of kept here) turns) (IsDifference kept here turns (seen here.connection)) → IsSplitWithTrace kept audited seen found
some_split kept audited seen n here turns None order are at own there is = (let never : false ≡ true = there in absurd (cc))
some_split kept audited seen n here turns (Some difference) order are at own there is = split_with kept audited seen n here turns difference order are at own is

pub none_agrees : (kept : Slots) (audited : List AuditedTrace) (seen : Seen) (n : ℕ) (here : AuditedTrace) (turns : List Turn) (found : Option Difference) → AreInOrder audited → AgreeUpTo kept audited seen n
    → slice_get audited n ≡ Some here → turns ≡ turns_in here.trace → is_some found ≡ false
    → MatchOption found (drop (skip_of kept here) (seen here.connection) ≡ drop (start_of kept here) turns) (IsDifference kept here turns (seen here.connection)) → AgreeUpTo kept audited seen (n + 1)
none_agrees kept audited seen n here turns None order are at own gone is =
    agree_next kept audited seen n here are at (agrees_at kept audited seen here turns (trace_at audited here.connection n here order at refl) own is)
none_agrees kept audited seen n here turns (Some difference) order are at own gone is = (let never : true ≡ false = gone in absurd (cc))

-- of a connection without a trace
nothing_told : (kept : Slots) (audited : List AuditedTrace) (seen : Seen) (other : Connection) → IsStranger audited other → seen other ≡ [] → Agrees kept audited seen other
nothing_told kept audited seen other none nothing =
    subst (λ (t : Option TraceView). drop (first_place kept other t - granted kept other) (seen other) ≡ drop (first_place kept other t - told_before t) (turns_by t)) (sym none)
    (ap (drop (first_place kept other None - granted kept other)) nothing ∙ drop_all _ [] (omega arith) ∙ sym (drop_all _ [] (omega arith)))

some_first : (xs : List Turn) → xs ≢ [] → slice_get xs 0 ≡ None → ⊥
some_first [] some_turn e = some_turn refl
some_first (x ∷ xs) some_turn e = (let never : Some x ≡ None = e in absurd (cc))

stranger_splits : (kept : Slots) (audited : List AuditedTrace) (seen : Seen) (c : Connection) (place : ℕ) → IsStranger audited c → seen c ≢ [] → place ≡ granted kept c → SplitsAt kept audited seen c place
stranger_splits kept audited seen c place none some_turn is =
    record {
      index = 0;
      is = subst (λ (t : Option TraceView). place ≡ first_place kept c t + 0) (sym none) (omega (arith, is));
      parts =
          subst (λ (t : Option TraceView). PartsAt (drop (first_place kept c t - granted kept c) (seen c)) (drop (first_place kept c t - told_before t) (turns_by t)) 0) (sym none)
          (record {
            before = refl;
            here = λ e.
                (let skip : first_place kept c None - granted kept c ≡ 0 = omega arith in
                some_first (seen c) some_turn
                (ap (λ (n : ℕ). slice_get (drop n (seen c)) 0) (sym skip) ∙ e ∙ ap (λ (l : List Turn). slice_get l 0) (drop_all (first_place kept c None - 0) [] (omega arith))));
          });
    }

any_agrees : (kept : Slots) (audited : List AuditedTrace) (seen : Seen) (other : Connection) → (HasTrace audited other → Agrees kept audited seen other) → (IsStranger audited other → seen other ≡ [])
    → (HasTrace audited other ⊎ (trace_of audited other ≡ None)) → Agrees kept audited seen other
any_agrees kept audited seen other with_trace without (inl has) = with_trace has
any_agrees kept audited seen other with_trace without (inr none) = nothing_told kept audited seen other none (without none)

each_agrees : (kept : Slots) (audited : List AuditedTrace) (seen : Seen) (other : Connection) → (HasTrace audited other → Agrees kept audited seen other) → (IsStranger audited other → seen other ≡ []) → Agrees kept audited seen other
each_agrees kept audited seen other with_trace without = any_agrees kept audited seen other with_trace without (has_or_not audited other)

-- ---- of all

-- no connection without a trace asked
pub split_known : (kept : Slots) (audited : List AuditedTrace) (seen : Seen) (found : Option Difference) → IsSplitWithTrace kept audited seen found → AreStrangers audited seen None → IsSplit kept audited seen found
split_known kept audited seen None split are = λ other. each_agrees kept audited seen other (split other) (are other)
split_known kept audited seen (Some difference) split are =
    record { earlier = λ other before. each_agrees kept audited seen other (split.earlier other before) (are other); here = split.here }

-- one with a trace differs before the first one without
pub split_before : (kept : Slots) (audited : List AuditedTrace) (seen : Seen) (difference : Difference) (stranger : Connection) → IsFirstSplit kept audited seen difference → IsFirstStranger audited seen stranger
    → (IsBefore stranger difference.connection → ⊥) → IsSplit kept audited seen (Some difference)
split_before kept audited seen difference stranger split first not_behind =
    record {
      earlier = λ other before.
          each_agrees kept audited seen other (split.earlier other before) (first.earlier other (before_other other difference.connection stranger before not_behind));
      here = split.here;
    }

up_to_stranger : (kept : Slots) (audited : List AuditedTrace) (seen : Seen) (found : Option Difference) (stranger other : Connection) → IsSplitWithTrace kept audited seen found
    → ((difference : Difference) → found ≡ Some difference → IsBefore difference.connection stranger → ⊥) → IsBefore other stranger → HasTrace audited other → Agrees kept audited seen other
up_to_stranger kept audited seen None stranger other split not_behind before has = split other has
up_to_stranger kept audited seen (Some difference) stranger other split not_behind before has =
    split.earlier other (before_other other stranger difference.connection before (not_behind difference refl)) has

pub split_stranger : (kept : Slots) (audited : List AuditedTrace) (seen : Seen) (found : Option Difference) (stranger : Connection) (place : ℕ) → IsSplitWithTrace kept audited seen found → IsFirstStranger audited seen stranger
    → ((difference : Difference) → found ≡ Some difference → IsBefore difference.connection stranger → ⊥) → place ≡ granted kept stranger → IsSplit kept audited seen (Some (record { connection = stranger; place = place }))
split_stranger kept audited seen found stranger place split first not_behind is =
    record {
      earlier = λ other before.
          each_agrees kept audited seen other (up_to_stranger kept audited seen found stranger other split not_behind before) (first.earlier other before);
      here = stranger_splits kept audited seen stranger place first.stranger first.some_turn is;
    }

-- ---- by what the code asks

pub not_before : (a b : Connection) → IsBefore a b → IsBefore b a → ⊥
not_before a b h k = before_not a a (before_trans a b a h k) refl

pub told_not : {P : Type 0} (b : Bool) → (P → b ≡ true) → b ≡ false → P → ⊥
told_not b if_so is p = (let never : true ≡ false = sym (if_so p) ∙ is in absurd (cc))

pub one_found : (found : Option Difference) (difference other : Difference) (c : Connection) → found ≡ Some difference → (IsBefore difference.connection c → ⊥) → found ≡ Some other → IsBefore other.connection c → ⊥
one_found found difference other c is not same before =
    let e : other ≡ difference = (let some_same : Some other ≡ Some difference = sym same ∙ is in cc) in not (subst (λ (d : Difference). IsBefore d.connection c) e before)

pub none_found : (found : Option Difference) (other : Difference) (c : Connection) → found ≡ None → found ≡ Some other → IsBefore other.connection c → ⊥
none_found found other c none same before = (let never : None ≡ Some other = sym none ∙ same in absurd (cc))
