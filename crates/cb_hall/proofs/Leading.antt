-- Entries, one behind another, and what they lead to.
use Rattle.std.proofs.Common.{◌≡◌, ◌∙◌, ℕ, zero, suc, ◌+◌, ◌-◌, ◌<◌, ◌≤◌, ◌^◌, ◌⊎◌, true, false, List, [], ◌∷◌, ◌++◌, length, drop, get_or, min, Option, Bool, nat_eq, nat_le, nat_lt, refl, sym, ap, subst, inl, inr, append_assoc, arith}
use Rattle.std.specs.Prelude.{Err, IfOk, Ok, Result}
use Rattle.std.proofs.lemmas.Bool.Decides.{nat_tests}
use Rattle.std.proofs.lemmas.List.{append-nil, drop_all, drop_more, length-append, nil_from_length}
use Rattle.cb_base.specs.declared.fault.Fault.{Fault}
use Rattle.cb_state.specs.State.{RelayState}
use Rattle.cb_hall.specs.declared.answer.Answer.{Answer}
use Rattle.cb_hall.specs.declared.entry.Entry.{Entry}
use Rattle.cb_hall.specs.declared.entry.Entry.TheVariants.{Asked, Kick, Opened, Submitted}
use Rattle.cb_hall.specs.Connections.{AreCounted, Slots}
use Rattle.cb_hall.specs.Journal.{Again, BeginsWith, IsJournal, IsPast, JournalState, Notes, is_to_begin_anew}
use Rattle.cb_hall.specs.Replica.{Does, IsFit, Leads, ReplicaState, Steps, Tells, heard, opening, slots_after}
use Rattle.cb_hall.specs.Weight.{entry_weight, journal_weight}
use Rattle.cb_hall.proofs.Once.{one_step}
use Rattle.cb_hall.proofs.Slots.{counted_asked, counted_kicked, counted_more, counted_opened}

-- ---- one entry

-- no connection is counted more than once with an entry
more : (n : ℕ) → suc n ≡ n + 1
more n = omega arith

after_counted : (most : ℕ) (connections : Slots) (entry : Entry) → AreCounted most connections → AreCounted (suc most) (slots_after connections entry)
after_counted most connections (Asked connection question) are = counted_asked most connection connections are
after_counted most connections (Kick connection) are = counted_kicked most connection connections are
after_counted most connections (Opened connection) are = counted_opened most connection.peer connections are
after_counted most connections (Submitted local) are = counted_more most connections are

pub step_counted : (most : ℕ) (old new : RelayState) (connections after : Slots) (entry : Entry) (told : Option Answer) → Does old connections entry told new after
    → AreCounted most connections → AreCounted (most + 1) after
step_counted most old new connections after entry told does are =
    subst (λ (n : ℕ). AreCounted n after) (more most) (subst (AreCounted (suc most)) (sym does.1) (after_counted most connections entry are))

tells_fit : (old new : RelayState) (connections : Slots) (entry : Entry) (told : Option Answer) → Tells old connections entry told new → IsFit connections entry
tells_fit old new connections (Asked connection question) told h = tt
tells_fit old new connections (Kick connection) told h = tt
tells_fit old new connections (Opened connection) told (e, is, same) = is
tells_fit old new connections (Submitted local) told h = tt

pub does_fit : (old new : RelayState) (connections after : Slots) (entry : Entry) (told : Option Answer) → Does old connections entry told new after → IsFit connections entry
does_fit old new connections after entry told does = tells_fit old new connections entry told does.0

pub does_slots : (old new : RelayState) (connections after : Slots) (entry : Entry) (told : Option Answer) → Does old connections entry told new after → after ≡ slots_after connections entry
does_slots old new connections after entry told does = does.1

pub step_fit : (old new : ReplicaState) (entry : Entry) (told : Option Answer) → Steps old entry told new → IsFit old.connections entry
step_fit old new entry told step = does_fit old.relay new.relay old.connections new.connections entry told step.does

pub step_slots : (old new : ReplicaState) (entry : Entry) (told : Option Answer) → Steps old entry told new → new.connections ≡ slots_after old.connections entry
step_slots old new entry told step = step.does.1

-- ---- entries in turn

pub leads_one : (old new : ReplicaState) (entry : Entry) (told : Option Answer) → Steps old entry told new → Leads old (entry ∷ []) (heard entry told) new
leads_one old new entry told step = (told, new, [], step, sym (append-nil (heard entry told)), (refl, refl))

pub leads_then : (a b c : ReplicaState) (first next : List Entry) (told more : List Answer) → Leads a first told b → Leads b next more c → Leads a (first ++ next) (told ++ more) c
leads_then a b c [] next told more h k = subst (λ (xs : List Answer). Leads a next (xs ++ more) c) (sym h.0) (subst (λ (s : ReplicaState). Leads s next more c) h.1 k)
leads_then a b c (entry ∷ first) next told more (said, mid, others, step, all, rest) k =
    (said, mid, others ++ more, step, ap (λ (xs : List Answer). xs ++ more) all ∙ append_assoc (heard entry said) others more, leads_then mid b c first next others more rest k)

pub leads_length : (old new : ReplicaState) (entries : List Entry) (told : List Answer) → Leads old entries told new → new.entries ≡ old.entries + length entries
leads_length old new [] told h = let same = ap (λ (s : ReplicaState). s.entries) h.1 in omega arith
leads_length old new (entry ∷ entries) told (said, next, others, step, all, rest) =
    let more = leads_length next new entries others rest in let one = step.entries in omega (arith, more, one)

-- ---- a journal

pub past_new : IsPast opening [] opening
past_new = record { dropped = []; told = []; before = (refl, refl); answers = []; since = (refl, refl) }

pub past_more : (base now new : ReplicaState) (entries : List Entry) (entry : Entry) (told : Option Answer) → IsPast base entries now → Steps now entry told new
    → IsPast base (entries ++ entry ∷ []) new
past_more base now new entries entry told past step =
    record {
      dropped = past.dropped;
      told = past.told;
      before = past.before;
      answers = past.answers ++ heard entry told;
      since = leads_then base now new entries (entry ∷ []) past.answers (heard entry told) past.since (leads_one now new entry told step);
    }

pub past_all : (base now : ReplicaState) (entries : List Entry) → IsPast base entries now → IsPast now [] now
past_all base now entries past =
    record {
      dropped = past.dropped ++ entries;
      told = past.told ++ past.answers;
      before = leads_then opening base now past.dropped entries past.told past.answers past.before past.since;
      answers = [];
      since = (refl, refl);
    }

pub past_one : (base now new : ReplicaState) (entries : List Entry) (entry : Entry) (told : Option Answer) → IsPast base entries now → Steps now entry told new
    → IsPast now (entry ∷ []) new
past_one base now new entries entry told past step = past_more now now new [] entry told (past_all base now entries past) step

pub weight_more : (entries : List Entry) (entry : Entry) → journal_weight (entries ++ entry ∷ []) ≡ entry_weight entry + journal_weight entries
weight_more [] entry = refl
weight_more (e ∷ entries) entry = let more = weight_more entries entry in omega (arith, more)

-- ---- all again

-- What is left leads from here to the end, and with what was told so far that is all that the journal tells.
pub record IsAgain (base : ReplicaState) (all left : List Entry) (told : List Answer) (here end : ReplicaState) : Type 0 where
  pub rest : (others : List Answer) × Leads here left others end
  pub whole : (others : List Answer) → Leads here left others end → Leads base all (told ++ others) end

pub again_first : (base end : ReplicaState) (all : List Entry) → IsPast base all end → IsAgain base all all [] base end
again_first base end all past = record { rest = (past.answers, past.since); whole = λ others h. h }

pub again_fit : (base here end : ReplicaState) (all left : List Entry) (entry : Entry) (told : List Answer) → IsAgain base all (entry ∷ left) told here end → IsFit here.connections entry
again_fit base here end all left entry told are =
    let r = are.rest.1 in does_fit here.relay r.1.relay here.connections r.1.connections entry r.0 r.3.does

pub again_few : (base here end : ReplicaState) (all left : List Entry) (entry : Entry) (told : List Answer) → IsAgain base all (entry ∷ left) told here end → end.entries ≤ 2 ^ 62
    → here.entries < 2 ^ 62
again_few base here end all left entry told are few = let long = leads_length here end (entry ∷ left) are.rest.0 are.rest.1 in omega (arith, long, few)

again_next : (base here next end after : ReplicaState) (all left : List Entry) (entry : Entry) (said other : Option Answer) (told rest : List Answer)
    → ((others : List Answer) → Leads here (entry ∷ left) others end → Leads base all (told ++ others) end) → Steps here entry said next → Steps here entry other after → Leads after left rest end
    → IsAgain base all left (told ++ heard entry said) next end
again_next base here next end after all left entry said other told rest whole step walk leads =
    let one = one_step here next after entry said other step walk in
    record {
      rest = (rest, subst (λ (s : ReplicaState). Leads s left rest end) (sym one.1) leads);
      whole = λ more h.
          subst (λ (xs : List Answer). Leads base all xs end) (sym (append_assoc told (heard entry said) more))
          (whole (heard entry said ++ more) (said, next, more, step, refl, h));
    }

pub again_more : (base here next end : ReplicaState) (all left : List Entry) (entry : Entry) (said : Option Answer) (told : List Answer) → IsAgain base all (entry ∷ left) told here end
    → Steps here entry said next → IsAgain base all left (told ++ heard entry said) next end
again_more base here next end all left entry said told are step =
    let r = are.rest.1 in again_next base here next end r.1 all left entry said r.0 told r.2 are.whole step r.3 r.5

pub again_end : (base here end : ReplicaState) (all : List Entry) (told : List Answer) → IsAgain base all [] told here end → (here ≡ end) × Leads base all told end
again_end base here end all told are =
    (sym are.rest.1.1, subst (λ (xs : List Answer). Leads base all xs end) (append-nil told) (are.whole [] (refl, are.rest.1.1)))

pub again_step : (base here next end : ReplicaState) (all left : List Entry) (entry : Entry) (told more : List Answer) → IsAgain base all (entry ∷ left) told here end
    → Again here entry told next more → IsAgain base all left more next end
again_step base here next end all left entry told more are one =
    subst (λ (xs : List Answer). IsAgain base all left xs next end) (sym one.has_all) (again_more base here next end all left entry one.told told are one.steps)

-- ---- by the place in the journal

pub at_begin : (base here end : ReplicaState) (all left : List Entry) (told : List Answer) → IsPast base all end → left ≡ all → told ≡ [] → here ≡ base → IsAgain base all left told here end
at_begin base here end all left told past e f g =
    subst (λ (es : List Entry). IsAgain base all es told here end) (sym e)
    (subst (λ (xs : List Answer). IsAgain base all all xs here end) (sym f) (subst (λ (s : ReplicaState). IsAgain base all all [] s end) (sym g) (again_first base end all past)))

at_entry : (base here end : ReplicaState) (all items : List Entry) (k : ℕ) (none : Entry) (told : List Answer) → IsAgain base all (drop k items) told here end → k < length items
    → IsAgain base all (get_or items k none ∷ drop (k + 1) items) told here end
at_entry base here end all items k none told are low = subst (λ (left : List Entry). IsAgain base all left told here end) (drop_more items k none low) are

pub at_fit : (base here end : ReplicaState) (all items : List Entry) (k : ℕ) (none item : Entry) (told : List Answer) → IsAgain base all (drop k items) told here end → k < length items
    → item ≡ get_or items k none → IsFit here.connections item
at_fit base here end all items k none item told are low is =
    subst (λ (e : Entry). IsFit here.connections e) (sym is)
    (again_fit base here end all (drop (k + 1) items) (get_or items k none) told (at_entry base here end all items k none told are low))

pub at_few : (base here end : ReplicaState) (all items : List Entry) (k : ℕ) (none : Entry) (told : List Answer) → IsAgain base all (drop k items) told here end → k < length items
    → end.entries ≤ 4611686018427387904 → here.entries < 4611686018427387904
at_few base here end all items k none told are low few =
    again_few base here end all (drop (k + 1) items) (get_or items k none) told (at_entry base here end all items k none told are low) few

pub at_more : (base here next end : ReplicaState) (all items : List Entry) (k : ℕ) (none item : Entry) (told more : List Answer) → IsAgain base all (drop k items) told here end → k < length items
    → item ≡ get_or items k none → Again here item told next more → IsAgain base all (drop (k + 1) items) more next end
at_more base here next end all items k none item told more are low is one =
    again_step base here next end all (drop (k + 1) items) (get_or items k none) told more (at_entry base here end all items k none told are low)
    (subst (λ (e : Entry). Again here e told next more) is one)

pub at_end : (base here end : ReplicaState) (all items : List Entry) (k : ℕ) (told : List Answer) → IsAgain base all (drop k items) told here end → length items ≤ k
    → (here ≡ end) × Leads base all told end
at_end base here end all items k told are past = again_end base here end all told (subst (λ (left : List Entry). IsAgain base all left told here end) (drop_all k items past) are)

-- ---- what a journal keeps

pub journal_new : (base latest : ReplicaState) (entries : List Entry) → base ≡ opening → entries ≡ [] → latest ≡ opening → IsJournal base entries 0 latest
journal_new base latest entries e f g =
    subst (λ (b : ReplicaState). IsJournal b entries 0 latest) (sym e)
    (subst (λ (es : List Entry). IsJournal opening es 0 latest) (sym f)
    (subst (λ (l : ReplicaState). IsJournal opening [] 0 l) (sym g) (record { weighed = omega arith; bounded = (omega arith, inr (omega arith)); few = omega arith; past = past_new })))

pub journal_fresh : (base latest new : ReplicaState) (entries none : List Entry) (weight : ℕ) → IsJournal base entries weight latest → new ≡ latest → none ≡ [] → IsJournal new none 0 latest
journal_fresh base latest new entries none weight is e f =
    subst (λ (b : ReplicaState). IsJournal b none 0 latest) (sym e)
    (subst (λ (es : List Entry). IsJournal latest es 0 latest) (sym f)
    (record { weighed = omega arith; bounded = (omega arith, inr (omega arith)); few = is.few; past = past_all base latest entries is.past }))

pub journal_same : (base latest like : ReplicaState) (entries again : List Entry) (weight : ℕ) → IsJournal base entries weight latest → again ≡ entries → like ≡ latest
    → IsJournal base again weight like
journal_same base latest like entries again weight is e f =
    subst (λ (l : ReplicaState). IsJournal base again weight l) (sym f) (subst (λ (es : List Entry). IsJournal base es weight latest) (sym e) is)

pub journal_more : (base latest new : ReplicaState) (entries all : List Entry) (entry : Entry) (told : Option Answer) (weight more own : ℕ) → IsJournal base entries weight latest
    → Steps latest entry told new → latest.entries < 4611686018427387904 → length entries < 1000000 → own ≡ min (entry_weight entry) 18446744073709551615 → more ≡ min (own + weight) 18446744073709551615 → more ≤ 64000000
    → all ≡ entries ++ entry ∷ [] → IsJournal base all more new
journal_more base latest new entries all entry told weight more own is step under few e f low g =
    let weighed = is.weighed in
    let sum = weight_more entries entry in
    let long = length-append entries (entry ∷ []) in
    subst (λ (es : List Entry). IsJournal base es more new) (sym g)
    (record {
      weighed = omega (arith, weighed, e, f, sum);
      bounded = (omega (arith, long, few), inl (omega (arith, weighed, e, f, low, sum)));
      few = (let one = step.entries in omega (arith, one, under));
      past = past_more base latest new entries entry told is.past step;
    })

pub journal_anew : (base latest new before : ReplicaState) (entries one : List Entry) (entry : Entry) (told : Option Answer) (weight own : ℕ) → IsJournal base entries weight latest
    → Steps latest entry told new → latest.entries < 4611686018427387904 → before ≡ latest → one ≡ entry ∷ [] → own ≡ min (entry_weight entry) 18446744073709551615 → IsJournal before one own new
journal_anew base latest new before entries one entry told weight own is step under e f g =
    subst (λ (b : ReplicaState). IsJournal b one own new) (sym e)
    (subst (λ (es : List Entry). IsJournal latest es own new) (sym f)
    (record {
      weighed = omega (arith, g);
      bounded = (omega arith, inr (omega arith));
      few = (let one = step.entries in omega (arith, one, under));
      past = past_one base latest new entries entry told is.past step;
    }))

-- ---- the oldest call leaves

led_first : (base latest : ReplicaState) (entries rest : List Entry) (entry : Entry) (answers : List Answer) → entries ≡ entry ∷ rest → Leads base entries answers latest → Leads base (entry ∷ rest) answers latest
led_first base latest entries rest entry answers front led = subst (λ (es : List Entry). Leads base es answers latest) front led

pub front_fit : (base latest : ReplicaState) (entries rest : List Entry) (entry : Entry) (weight : ℕ) → IsJournal base entries weight latest → entries ≡ entry ∷ rest → IsFit base.connections entry
front_fit base latest entries rest entry weight is front =
    let led = led_first base latest entries rest entry is.past.answers front is.past.since in
    step_fit base led.1 entry led.0 led.3

pub front_few : (base latest : ReplicaState) (entries rest : List Entry) (entry : Entry) (weight : ℕ) → IsJournal base entries weight latest → entries ≡ entry ∷ rest → base.entries < 4611686018427387904
front_few base latest entries rest entry weight is front =
    let long = leads_length base latest entries is.past.answers is.past.since in
    let some = ap (length {A = Entry}) front in
    let few = is.few in
    omega (arith, long, some, few)

past_on : (base latest next : ReplicaState) (entries rest : List Entry) (entry : Entry) (told : Option Answer) → IsPast base entries latest → entries ≡ entry ∷ rest → Steps base entry told next → IsPast next rest latest
past_on base latest next entries rest entry told past front step =
    let led = led_first base latest entries rest entry past.answers front past.since in
    let one = one_step base next led.1 entry told led.0 step led.3 in
    record {
      dropped = past.dropped ++ entry ∷ [];
      told = past.told ++ heard entry told;
      before = leads_then opening base next past.dropped (entry ∷ []) past.told (heard entry told) past.before (leads_one base next entry told step);
      answers = led.2;
      since = subst (λ (s : ReplicaState). Leads s rest led.2 latest) (sym one.1) led.5;
    }

bounded_on : (entries rest : List Entry) (entry : Entry) → entries ≡ entry ∷ rest → (journal_weight entries ≤ 64000000) ⊎ (length entries ≤ 1) → (journal_weight rest ≤ 64000000) ⊎ (length rest ≤ 1)
bounded_on entries rest entry front (inl light) = inl (omega (arith, light, ap journal_weight front))
bounded_on entries rest entry front (inr few) = inr (omega (arith, few, ap (length {A = Entry}) front))

weight_on : (entries rest : List Entry) (entry : Entry) (weight own : ℕ) → entries ≡ entry ∷ rest → weight ≡ min (journal_weight entries) 18446744073709551615 → own ≡ min (entry_weight entry) 18446744073709551615
    → (journal_weight entries ≤ 64000000) ⊎ (length entries ≤ 1) → (own ≤ weight) × (weight - own ≡ min (journal_weight rest) 18446744073709551615)
weight_on entries rest entry weight own front weighed is (inl light) =
    let all = ap journal_weight front in (omega (arith, all, weighed, is, light), omega (arith, all, weighed, is, light))
weight_on entries rest entry weight own front weighed is (inr few) =
    let none : journal_weight rest ≡ 0 = ap journal_weight (nil_from_length rest (omega (arith, few, ap (length {A = Entry}) front))) in
    let all = ap journal_weight front in (omega (arith, all, none, weighed, is), omega (arith, all, none, weighed, is))

pub weight_fits : (base latest : ReplicaState) (entries rest : List Entry) (entry : Entry) (weight own : ℕ) → IsJournal base entries weight latest → entries ≡ entry ∷ rest → own ≡ min (entry_weight entry) 18446744073709551615 → own ≤ weight
weight_fits base latest entries rest entry weight own is front own_is = (weight_on entries rest entry weight own front is.weighed own_is is.bounded.1).0

pub journal_on : (base latest next : ReplicaState) (entries rest : List Entry) (entry : Entry) (told : Option Answer) (weight own : ℕ) → IsJournal base entries weight latest → entries ≡ entry ∷ rest → Steps base entry told next
    → own ≡ min (entry_weight entry) 18446744073709551615 → IsJournal next rest (weight - own) latest
journal_on base latest next entries rest entry told weight own is front step own_is =
    let fewer = is.bounded.0 in
    record {
      weighed = (weight_on entries rest entry weight own front is.weighed own_is is.bounded.1).1;
      bounded = (omega (arith, fewer, ap (length {A = Entry}) front), bounded_on entries rest entry front is.bounded.1);
      few = is.few;
      past = past_on base latest next entries rest entry told is.past front step;
    }

-- the first of a list that isn't empty, as a read at 0 gives it
pub first_front : (entries rest : List Entry) (entry : Entry) → 0 < length entries → entry ≡ get_or entries 0 entry → rest ≡ drop 1 entries → entries ≡ entry ∷ rest
first_front [] rest entry some is left = absurd (omega (arith, some))
first_front (e ∷ entries) rest entry some is left = ap (λ (x : Entry). x ∷ entries) (sym is) ∙ ap (λ (es : List Entry). entry ∷ es) (sym left)

pub some_from : (n : ℕ) (b : Bool) → b ≡ nat_eq n 0 → b ≡ false → 0 < n
some_from zero b is differs = absurd (let never : true ≡ false = sym is ∙ differs in cc)
some_from (suc n) b is differs = omega arith

-- ---- whether it begins anew

many_anew : (entries : List Entry) (entry : Entry) → 1000000 ≤ length entries → is_to_begin_anew entries entry ≡ true
many_anew entries entry many = let test : nat_le 1000000 (length entries) ≡ true = grind (arith, nat_tests) in rw test refl

heavy_anew : (entries : List Entry) (entry : Entry) → length entries < 1000000 → 64000000 < entry_weight entry + journal_weight entries → is_to_begin_anew entries entry ≡ true
heavy_anew entries entry few heavy =
    let test : nat_le 1000000 (length entries) ≡ false = grind (arith, nat_tests) in
    let other : nat_lt 64000000 (entry_weight entry + journal_weight entries) ≡ true = grind (arith, nat_tests) in rw (test, other) refl

not_anew : (entries : List Entry) (entry : Entry) → length entries < 1000000 → entry_weight entry + journal_weight entries ≤ 64000000 → is_to_begin_anew entries entry ≡ false
not_anew entries entry few light =
    let test : nat_le 1000000 (length entries) ≡ false = grind (arith, nat_tests) in
    let other : nat_lt 64000000 (entry_weight entry + journal_weight entries) ≡ false = grind (arith, nat_tests) in rw (test, other) refl

begun : (old new : JournalState) (entry : Entry) (told : Option Answer) → is_to_begin_anew old.entries entry ≡ true → BeginsWith old entry told new → Notes old entry told new
begun old new entry told anew with_it =
    record {
      steps = with_it.steps;
      base = with_it.base ∙ sym (rw anew refl);
      entries = with_it.entries ∙ sym (rw anew refl);
    }

pub notes_many : (old new : JournalState) (entry : Entry) (result : Result (Option Answer) Fault) → 1000000 ≤ length old.entries
    → IfOk result (λ told. BeginsWith old entry told new) → IfOk result (λ told. Notes old entry told new)
notes_many old new entry (Ok told) many is = begun old new entry told (many_anew old.entries entry many) is
notes_many old new entry (Err fault) many is = tt

pub notes_heavy : (old new : JournalState) (entry : Entry) (result : Result (Option Answer) Fault) (weight own more : ℕ) → IsJournal old.base old.entries weight old.latest
    → length old.entries < 1000000 → own ≡ min (entry_weight entry) 18446744073709551615 → more ≡ min (own + weight) 18446744073709551615 → 64000000 < more
    → IfOk result (λ told. BeginsWith old entry told new) → IfOk result (λ told. Notes old entry told new)
notes_heavy old new entry (Ok told) weight own more keeps few e f heavy is =
    let weighed = keeps.weighed in begun old new entry told (heavy_anew old.entries entry few (omega (arith, weighed, e, f, heavy))) is
notes_heavy old new entry (Err fault) weight own more keeps few e f heavy is = tt

pub notes_more : (old new : JournalState) (entry : Entry) (told : Option Answer) (weight own more : ℕ) → IsJournal old.base old.entries weight old.latest → length old.entries < 1000000
    → own ≡ min (entry_weight entry) 18446744073709551615 → more ≡ min (own + weight) 18446744073709551615 → more ≤ 64000000 → Steps old.latest entry told new.latest
    → new.base ≡ old.base → new.entries ≡ old.entries ++ entry ∷ [] → Notes old entry told new
notes_more old new entry told weight own more keeps few e f light step g h =
    let weighed = keeps.weighed in
    let not = not_anew old.entries entry few (omega (arith, weighed, e, f, light)) in
    record {
      steps = step;
      base = g ∙ sym (rw not refl);
      entries = h ∙ sym (rw not refl);
    }
