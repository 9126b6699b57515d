-- What the traces tell of a connection's numbers.
use Rattle.std.proofs.Common.{◌≡◌, ◌∙◌, ℕ, zero, suc, ◌<◌, Bool, true, false, cond, List, [], ◌∷◌, Option, None, Some, refl, sym, ap, subst, arith, nat_eq}
use Rattle.std.specs.Prelude.{map, slice_get, unwrap_or}
use Rattle.std.proofs.lemmas.Bool.Decides.{nat_tests}
use Rattle.cb_state.specs.declared.connection.Connection.{Connection}
use Rattle.cb_state.specs.Announcers.{same_connection}
use Rattle.cb_crew.specs.Desk.{DeskState}
use Rattle.cb_hall.specs.Connections.{Slots}
use Rattle.cb_work.specs.PeerWork.{WorkState}
use Rattle.cb_trace.specs.Trace.{TraceView}
use Rattle.cb_audit.specs.Counting.{HasTrace, IsEven, IsFirstAmong, IsFoundAmong, granted, told_by}
use Rattle.cb_audit.specs.Order.{AreInOrder, AuditedTrace, trace_of}
use Rattle.cb_audit.proofs.Orders.{trace_at}
use Rattle.cb_audit.proofs.Numbers.{first_with}
use Rattle.cb_audit.specs.Desks.{told_in, trace_of_work, traces_of, traces_of_desk, uneven_in}
use Rattle.cb_audit.proofs.Searching.{IsSearch, or_test, or_test_not, search_append}

-- ---- searches

told_traces : (c : Connection) → IsSearch (λ traces. told_in traces c) (λ one. told_in (one ∷ []) c)
told_traces c = record {
  nil = refl;
  cons = λ one others. or_test (same_connection one.connection c) one.trace.total.told (told_in others c);
}

pub told_works : {S H F : Type 0} (c : Connection) → IsSearch (λ (works : List (WorkState S H F)). told_in (map trace_of_work works) c) (λ work. told_in (trace_of_work work ∷ []) c)
told_works c = record {
  nil = refl;
  cons = λ work works. or_test (same_connection work.badge.connection c) work.trace.total.told (told_in (map trace_of_work works) c);
}

pub told_desks : {S H F M : Type 0} (c : Connection) → IsSearch (λ (desks : List (DeskState (WorkState S H F) M)). told_in (traces_of desks) c) (λ desk. told_in (traces_of_desk desk) c)
told_desks c = record {
  nil = refl;
  cons = λ desk desks. search_append (λ traces. told_in traces c) (λ one. told_in (one ∷ []) c) (traces_of_desk desk) (traces_of desks) (told_traces c);
}

uneven_traces : (slots : Slots) → IsSearch (uneven_in slots) (λ one. uneven_in slots (one ∷ []))
uneven_traces slots = record {
  nil = refl;
  cons = λ one others. or_test_not (nat_eq (granted slots one.connection) one.trace.total.told) one.connection (uneven_in slots others);
}

pub uneven_works : {S H F : Type 0} (slots : Slots) → IsSearch (λ (works : List (WorkState S H F)). uneven_in slots (map trace_of_work works)) (λ work. uneven_in slots (trace_of_work work ∷ []))
uneven_works slots = record {
  nil = refl;
  cons = λ work works. or_test_not (nat_eq (granted slots work.badge.connection) work.trace.total.told) work.badge.connection (uneven_in slots (map trace_of_work works));
}

pub uneven_desks : {S H F M : Type 0} (slots : Slots) → IsSearch (λ (desks : List (DeskState (WorkState S H F) M)). uneven_in slots (traces_of desks)) (λ desk. uneven_in slots (traces_of_desk desk))
uneven_desks slots = record {
  nil = refl;
  cons = λ desk desks. search_append (uneven_in slots) (λ one. uneven_in slots (one ∷ [])) (traces_of_desk desk) (traces_of desks) (uneven_traces slots);
}

-- ---- how many answers a connection was told

by_first : (same : Bool) (one : TraceView) (others : Option TraceView) (told : Option ℕ) → told_by others ≡ unwrap_or told 0 → told_by (cond same (Some one) others) ≡ unwrap_or (cond same (Some one.total.told) told) 0
by_first true one others told is = refl
by_first false one others told is = is

pub told_is : (traces : List AuditedTrace) (c : Connection) → told_by (trace_of traces c) ≡ unwrap_or (told_in traces c) 0
told_is [] c = refl
told_is (one ∷ others) c = by_first (same_connection one.connection c) one.trace (trace_of others c) (told_in others c) (told_is others c)

same_numbers : (m n : ℕ) → nat_eq m n ≡ true → m ≡ n
same_numbers m n e = grind (arith, nat_tests)

equal_numbers : (m n : ℕ) → m ≡ n → nat_eq m n ≡ true
equal_numbers m n e = grind (arith, nat_tests)

pub even_decides : (slots : Slots) (traces : List AuditedTrace) (c : Connection) (count told : ℕ) → count ≡ granted slots c → told ≡ unwrap_or (told_in traces c) 0
    → (nat_eq count told ≡ true → IsEven slots traces c) × (IsEven slots traces c → nat_eq count told ≡ true)
even_decides slots traces c count told own is = (
  λ e. sym own ∙ same_numbers count told e ∙ is ∙ sym (told_is traces c),
  λ even. equal_numbers count told (own ∙ even ∙ told_is traces c ∙ sym is),
)

-- ---- the first whose numbers differ

-- A trace whose numbers differ, and those before it don't.
record IsUnevenAt (slots : Slots) (traces : List AuditedTrace) (c : Connection) : Type 0 where
  place : ℕ
  here : AuditedTrace
  at : slice_get traces place ≡ Some here
  own : here.connection ≡ c
  differs : granted slots here.connection ≡ here.trace.total.told → ⊥
  before : (i : ℕ) (one : AuditedTrace) → i < place → slice_get traces i ≡ Some one → granted slots one.connection ≡ one.trace.total.told

other_numbers : (m n : ℕ) → nat_eq m n ≡ false → m ≡ n → ⊥
other_numbers m n e same = grind (arith, nat_tests)

first_none : (even : Bool) (c : Connection) (others : Option Connection) → cond even others (Some c) ≡ None → (even ≡ true) × (others ≡ None)
first_none true c others e = (refl, e)
first_none false c others e = absurd (cc)

same_item : (one other : AuditedTrace) → Some one ≡ Some other → one ≡ other
same_item one other e = cc

even_item : (slots : Slots) (one other : AuditedTrace) → one ≡ other → granted slots one.connection ≡ one.trace.total.told → granted slots other.connection ≡ other.trace.total.told
even_item slots one other e even = subst (λ (a : AuditedTrace). granted slots a.connection ≡ a.trace.total.told) e even

none_is : (slots : Slots) (traces : List AuditedTrace) → uneven_in slots traces ≡ None → (i : ℕ) (one : AuditedTrace) → slice_get traces i ≡ Some one → granted slots one.connection ≡ one.trace.total.told
none_is slots [] none i one at = absurd (let never : None ≡ Some one = at in cc)
none_is slots (x ∷ xs) none zero one at =
    let parts = first_none (nat_eq (granted slots x.connection) x.trace.total.told) x.connection (uneven_in slots xs) none in
    even_item slots x one (same_item x one at) (same_numbers (granted slots x.connection) x.trace.total.told parts.0)
none_is slots (x ∷ xs) none (suc i) one at =
    let parts = first_none (nat_eq (granted slots x.connection) x.trace.total.told) x.connection (uneven_in slots xs) none in
    none_is slots xs parts.1 i one at

before_next : (slots : Slots) (x : AuditedTrace) (xs : List AuditedTrace) (place : ℕ) → granted slots x.connection ≡ x.trace.total.told
    → ((i : ℕ) (one : AuditedTrace) → i < place → slice_get xs i ≡ Some one → granted slots one.connection ≡ one.trace.total.told)
    → (i : ℕ) (one : AuditedTrace) → i < suc place → slice_get (x ∷ xs) i ≡ Some one → granted slots one.connection ≡ one.trace.total.told
before_next slots x xs place even before zero one low at = even_item slots x one (same_item x one at) even
before_next slots x xs place even before (suc i) one low at = before i one (omega (arith, low)) at

next_is : (slots : Slots) (x : AuditedTrace) (xs : List AuditedTrace) (c : Connection) → granted slots x.connection ≡ x.trace.total.told → IsUnevenAt slots xs c → IsUnevenAt slots (x ∷ xs) c
next_is slots x xs c even is = record {
  place = suc is.place;
  here = is.here;
  at = is.at;
  own = is.own;
  differs = is.differs;
  before = before_next slots x xs is.place even is.before;
}

by_numbers : (slots : Slots) (x : AuditedTrace) (xs : List AuditedTrace) (c : Connection) (even : Bool) → nat_eq (granted slots x.connection) x.trace.total.told ≡ even → cond even (uneven_in slots xs) (Some x.connection) ≡ Some c
    → (uneven_in slots xs ≡ Some c → IsUnevenAt slots xs c) → IsUnevenAt slots (x ∷ xs) c
by_numbers slots x xs c true is some others = next_is slots x xs c (same_numbers (granted slots x.connection) x.trace.total.told is) (others some)
by_numbers slots x xs c false is some others = record {
  place = 0;
  here = x;
  at = refl;
  own = (let first : Some x.connection ≡ Some c = some in cc);
  differs = other_numbers (granted slots x.connection) x.trace.total.told is;
  before = λ i one low at. absurd (omega (arith, low));
}

some_is : (slots : Slots) (traces : List AuditedTrace) (c : Connection) → uneven_in slots traces ≡ Some c → IsUnevenAt slots traces c
some_is slots [] c some = absurd (let never : None ≡ Some c = some in cc)
some_is slots (x ∷ xs) c some =
    by_numbers slots x xs c (nat_eq (granted slots x.connection) x.trace.total.told) refl some (some_is slots xs c)

-- in order, a trace's numbers are its connection's
even_at : (slots : Slots) (traces : List AuditedTrace) (i : ℕ) (one : AuditedTrace) → AreInOrder traces → slice_get traces i ≡ Some one → granted slots one.connection ≡ one.trace.total.told → IsEven slots traces one.connection
even_at slots traces i one order at even = even ∙ sym (ap told_by (trace_at traces one.connection i one order at refl))

first_is : (slots : Slots) (traces : List AuditedTrace) (c : Connection) → AreInOrder traces → IsUnevenAt slots traces c → IsFirstAmong slots traces (HasTrace traces) c
first_is slots traces c order is =
    subst (IsFirstAmong slots traces (HasTrace traces)) is.own
    (first_with slots traces is.place is.here order (λ i one low at. even_at slots traces i one order at (is.before i one low at)) is.at
    (λ even. is.differs (even ∙ ap told_by (trace_at traces is.here.connection is.place is.here order is.at refl))))

all_even : (slots : Slots) (traces : List AuditedTrace) → AreInOrder traces → uneven_in slots traces ≡ None → (other : Connection) → HasTrace traces other → IsEven slots traces other
all_even slots traces order none other (i, (one, at, is)) = subst (IsEven slots traces) is (even_at slots traces i one order at (none_is slots traces none i one at))

by_found : (slots : Slots) (traces : List AuditedTrace) (found : Option Connection) → AreInOrder traces → uneven_in slots traces ≡ found → IsFoundAmong slots traces (HasTrace traces) found
by_found slots traces None order is = all_even slots traces order is
by_found slots traces (Some c) order is = first_is slots traces c order (some_is slots traces c is)

pub found_is : (slots : Slots) (traces : List AuditedTrace) (found : Option Connection) → AreInOrder traces → found ≡ uneven_in slots traces → IsFoundAmong slots traces (HasTrace traces) found
found_is slots traces found order is = by_found slots traces found order (sym is)
