-- What is due, in order: where one is put in makes no difference to another.
use Rattle.std.proofs.Common.{◌≡◌, ◌≢◌, ℕ, zero, suc, ◌+◌, ◌<◌, ◌≤◌, Bool, true, false, List, [], ◌∷◌, length, get_or, set, map, refl, sym, ap, subst, ◌∙◌, inl, inr, arith, ◌⊎◌}
use Rattle.std.specs.Prelude.{◌-◌, ◌==◌, ◌^◌, if◌then◌else◌, min}
use Rattle.std.specs.List.{All, AllByRecursion, swap}
use Rattle.std.specs.List.Sorted.{IsPermutation}
use Rattle.std.specs.BinaryHeap.{IsUpperBound}
use Rattle.std.specs.Result.{IfErr, IsErrAnd, OnErr, OnOk}
use Rattle.std.specs.declared.result.Result.{Result}
use Rattle.std.specs.declared.result.Result.TheVariants.{Err, Ok}
use Rattle.std.specs.Cmp.{IsTotalOrder, tied_itself, upto}
use Rattle.std.proofs.lemmas.Cmp.{nat_cmp_total, on_total, ranked, then_total}
use Rattle.std.specs.Ordering.{MatchOrdering, is_gt, is_le, is_lt, nat_cmp, ordering_reverse, ordering_then}
use Rattle.std.specs.declared.cmp.Ordering.{Ordering}
use Rattle.std.specs.declared.cmp.Ordering.TheVariants.{Less, Equal, Greater}
use Rattle.std.proofs.lemmas.Bool.Decides.{nat_tests}
use Rattle.std.proofs.lemmas.List.{get_or-set_other, get_or-set_same, length-set}
use Rattle.std.proofs.lemmas.List.Elements.{All-cons, All-from_recursion, All-head}
use Rattle.std.proofs.lemmas.List.Sorted.{All-permutation, IsPermutation-keeps, IsPermutation-map}
use Rattle.std.specs.declared.cmp.Reverse.{Reverse}
use Rattle.cb_net_plan.specs.declared.due.LinkAct.{LinkAct}
use Rattle.cb_net_plan.specs.declared.due.LinkAct.TheVariants.{Arrival, Tick}
use Rattle.cb_net_plan.specs.declared.due.DueEvent.{DueEvent}
use Rattle.cb_net_plan.specs.Agenda.{act_number, due_order, in_order, put_in}

-- ---- the order

total : IsTotalOrder due_order
total =
    then_total (on_total (λ (d : DueEvent). d.time) nat_cmp_total)
    (then_total (on_total (λ (d : DueEvent). d.event.end) nat_cmp_total)
    (then_total (on_total (λ (d : DueEvent). d.event.number) nat_cmp_total)
    (then_total (on_total (λ (d : DueEvent). d.event.generation) nat_cmp_total)
    (on_total (λ (d : DueEvent). act_number d.event.act) nat_cmp_total))))

-- a tie is no difference
first_tie : (a b : Ordering) → ordering_then a b ≡ Equal → a ≡ Equal
first_tie Less b e = e
first_tie Equal b e = refl
first_tie Greater b e = e

then_tie : (a b : Ordering) → ordering_then a b ≡ Equal → b ≡ Equal
then_tie Less b e = absurd cc
then_tie Equal b e = e
then_tie Greater b e = absurd cc

same_number : (x y : ℕ) → nat_cmp x y ≡ Equal → x ≡ y
same_number x y e = ranked x y Equal (sym e)

same_act : (a b : LinkAct) → act_number a ≡ act_number b → a ≡ b
same_act Arrival Arrival e = refl
same_act Arrival Tick e = absurd (omega (arith, e))
same_act Tick Arrival e = absurd (omega (arith, e))
same_act Tick Tick e = refl

same_due : (a b : DueEvent) → due_order a b ≡ Equal → a ≡ b
same_due a b e =
    let rest1 = then_tie _ _ e in
    let rest2 = then_tie _ _ rest1 in
    let rest3 = then_tie _ _ rest2 in
    let rest4 = then_tie _ _ rest3 in
    let time = same_number a.time b.time (first_tie _ _ e) in
    let end = same_number a.event.end b.event.end (first_tie _ _ rest1) in
    let number = same_number a.event.number b.event.number (first_tie _ _ rest2) in
    let generation = same_number a.event.generation b.event.generation (first_tie _ _ rest3) in
    let act = same_act a.event.act b.event.act (same_number _ _ rest4) in
    λ i. record {
      time = time i;
      event = record { end = end i; number = number i; generation = generation i; act = act i };
    }

is_first : DueEvent → DueEvent → Bool
is_first a b = is_le (due_order a b)

le_reverse : (r : Ordering) → is_le r ≡ true → is_le (ordering_reverse r) ≡ true → r ≡ Equal
le_reverse Less e f = absurd cc
le_reverse Equal e f = refl
le_reverse Greater e f = absurd cc

le_either : (r : Ordering) → is_le r ≡ false → is_le (ordering_reverse r) ≡ false → ⊥
le_either Less e f = cc
le_either Equal e f = cc
le_either Greater e f = cc

not_lt : (r : Ordering) → is_lt r ≡ false → is_le (ordering_reverse r) ≡ true
not_lt Less e = absurd cc
not_lt Equal e = refl
not_lt Greater e = refl

first_of : (a b : DueEvent) → is_lt (due_order b a) ≡ false → is_first a b ≡ true
unfolding is_first
first_of a b e = ap is_le (total.antisymm a b) ∙ not_lt (due_order b a) e

both_first : (a b : DueEvent) → is_first a b ≡ true → is_first b a ≡ true → a ≡ b
unfolding is_first
both_first a b e f = same_due a b (le_reverse (due_order a b) e (sym (ap is_le (total.antisymm b a)) ∙ f))

neither_first : (a b : DueEvent) → is_first a b ≡ false → is_first b a ≡ false → ⊥
unfolding is_first
neither_first a b e f = le_either (due_order a b) e (sym (ap is_le (total.antisymm b a)) ∙ f)

itself_first : (a : DueEvent) → is_first a a ≡ true
unfolding is_first
itself_first a = ap is_le (tied_itself total a)

-- ---- one more in its place

as_tested : (b : Bool) (X : Type 0) (x y : X) → b ≡ true → (if b then x else y) ≡ x
as_tested b X x y e = ap (λ (b : Bool). if b then x else y) e

as_failed : (b : Bool) (X : Type 0) (x y : X) → b ≡ false → (if b then x else y) ≡ y
as_failed b X x y e = ap (λ (b : Bool). if b then x else y) e

put_first : (x y : DueEvent) (ys : List DueEvent) → is_first x y ≡ true → put_in x (y ∷ ys) ≡ x ∷ y ∷ ys
unfolding is_first
put_first x y ys e = as_tested (is_le (due_order x y)) (List DueEvent) (x ∷ y ∷ ys) (y ∷ put_in x ys) e

put_later : (x y : DueEvent) (ys : List DueEvent) → is_first x y ≡ false → put_in x (y ∷ ys) ≡ y ∷ put_in x ys
unfolding is_first
put_later x y ys e = as_failed (is_le (due_order x y)) (List DueEvent) (x ∷ y ∷ ys) (y ∷ put_in x ys) e

is : (b : Bool) → (b ≡ true) ⊎ (b ≡ false)
is true = inl refl
is false = inr refl

le_is : (r : Ordering) → is_le r ≡ true → is_gt r ≡ false
le_is Less e = refl
le_is Equal e = refl
le_is Greater e = absurd cc

is_le_of : (r : Ordering) → is_gt r ≡ false → is_le r ≡ true
is_le_of Less e = refl
is_le_of Equal e = refl
is_le_of Greater e = absurd cc

chain : (x y z : DueEvent) → is_first x y ≡ true → is_first y z ≡ true → is_first x z ≡ true
unfolding is_first
chain x y z e f = is_le_of (due_order x z) (upto total x y z (le_is (due_order x y) e) (le_is (due_order y z) f))

-- what isn't before z isn't before what is before z
behind : (x y z : DueEvent) → is_first x z ≡ true → is_first y z ≡ false → is_first y x ≡ false
behind x y z e f =
    elim (is (is_first y x)) [
      | inl t ↦ absurd (let g : is_first y z ≡ true = chain y x z t e in cc)
      | inr t ↦ t
    ]

-- two that belong before a list
fronts : (x y : DueEvent) (zs : List DueEvent) → put_in x zs ≡ x ∷ zs → put_in y zs ≡ y ∷ zs → put_in x (y ∷ zs) ≡ put_in y (x ∷ zs)
fronts x y zs p q =
    elim (is (is_first x y)) [
      | inl xy ↦ elim (is (is_first y x)) [
        | inl yx ↦ let e : x ≡ y = both_first x y xy yx in let f : y ≡ x = sym e in λ i. put_in (e i) (f i ∷ zs)
        | inr yx ↦ put_first x y zs xy ∙ sym (put_later y x zs yx ∙ ap (λ l. x ∷ l) q)
      ]
      | inr xy ↦ elim (is (is_first y x)) [
        | inl yx ↦ put_later x y zs xy ∙ ap (λ l. y ∷ l) p ∙ sym (put_first y x zs yx)
        | inr yx ↦ absurd (neither_first x y xy yx)
      ]
    ]

-- one belongs before the first of a list, and another behind it
apart : (x y z : DueEvent) (zs : List DueEvent) → is_first x z ≡ true → is_first y z ≡ false → put_in x (put_in y (z ∷ zs)) ≡ put_in y (put_in x (z ∷ zs))
apart x y z zs xz yz =
    ap (put_in x) (put_later y z zs yz)
    ∙ put_first x z (put_in y zs) xz
    ∙ ap (λ l. x ∷ l) (sym (put_later y z zs yz))
    ∙ sym (put_later y x (z ∷ zs) (behind x y z xz yz))
    ∙ ap (put_in y) (sym (put_first x z zs xz))

-- which of two is put in first makes no difference
both_in : (x y : DueEvent) (zs : List DueEvent) → put_in x (put_in y zs) ≡ put_in y (put_in x zs)
both_in x y [] = fronts x y [] refl refl
both_in x y (z ∷ zs) =
    elim (is (is_first x z)) [
      | inl xz ↦ elim (is (is_first y z)) [
        | inl yz ↦ ap (put_in x) (put_first y z zs yz) ∙ fronts x y (z ∷ zs) (put_first x z zs xz) (put_first y z zs yz) ∙ ap (put_in y) (sym (put_first x z zs xz))
        | inr yz ↦ apart x y z zs xz yz
      ]
      | inr xz ↦ elim (is (is_first y z)) [
        | inl yz ↦ sym (apart y x z zs yz xz)
        | inr yz ↦ ap (put_in x) (put_later y z zs yz) ∙ put_later x z (put_in y zs) xz ∙ ap (λ l. z ∷ l) (both_in x y zs) ∙ sym (put_later y z (put_in x zs) yz) ∙ ap (put_in y) (sym (put_later x z zs xz))
      ]
    ]

-- ---- one of them taken out again

abbrev without : DueEvent → List DueEvent → List DueEvent
without x [] = []
without x (y ∷ ys) = if is_first x y then ys else y ∷ without x ys

taken : (x : DueEvent) (ys : List DueEvent) → without x (put_in x ys) ≡ ys
taken x [] = as_tested (is_first x x) (List DueEvent) [] (x ∷ []) (itself_first x)
taken x (y ∷ ys) =
    elim (is (is_first x y)) [
      | inl t ↦ ap (without x) (put_first x y ys t) ∙ as_tested (is_first x x) (List DueEvent) (y ∷ ys) (x ∷ without x (y ∷ ys)) (itself_first x)
      | inr t ↦ ap (without x) (put_later x y ys t) ∙ as_failed (is_first x y) (List DueEvent) (put_in x ys) (y ∷ without x (put_in x ys)) t ∙ ap (λ l. y ∷ l) (taken x ys)
    ]

same_rest : (x : DueEvent) (ys zs : List DueEvent) → put_in x ys ≡ put_in x zs → ys ≡ zs
same_rest x ys zs e = sym (taken x ys) ∙ ap (without x) e ∙ taken x zs

-- ---- any list in order

-- another takes the place of one
exchanged : (xs : List DueEvent) (at : ℕ) (new d : DueEvent) → at < length xs → put_in new (in_order xs) ≡ put_in (get_or xs at d) (in_order (set xs at new))
exchanged [] at new d h = absurd (omega (arith, h))
exchanged (x ∷ xs) zero new d h = both_in new x (in_order xs)
exchanged (x ∷ xs) (suc at) new d h =
    both_in new x (in_order xs)
    ∙ ap (put_in x) (exchanged xs at new d (omega (arith, h)))
    ∙ both_in x (get_or xs at d) (in_order (set xs at new))

read_set : (xs : List DueEvent) (i j : ℕ) (d : DueEvent) → i < length xs → get_or (set xs i (get_or xs j d)) j d ≡ get_or xs j d
read_set xs i j d h =
    elim (is (i == j)) [
      | inl t ↦ let e : i ≡ j = grind (arith, nat_tests) in subst (λ (n : ℕ). get_or (set xs i (get_or xs n d)) n d ≡ get_or xs n d) e (get_or-set_same xs i (get_or xs i d) d h)
      | inr f ↦ let n : j ≢ i = grind (arith, nat_tests) in get_or-set_other xs i j (get_or xs j d) d n
    ]

swapped : (xs : List DueEvent) (i j : ℕ) → i < length xs → j < length xs → in_order (swap xs i j) ≡ in_order xs
swapped [] i j h k = refl
swapped (d ∷ xs) i j h k =
    let first : DueEvent = get_or (d ∷ xs) i d in
    let second : DueEvent = get_or (d ∷ xs) j d in
    let between : List DueEvent = set (d ∷ xs) i second in
    let long : j < length between = omega (arith, k, length-set (d ∷ xs) i second) in
    same_rest second _ _ (sym (
    exchanged (d ∷ xs) i second d h
    ∙ exchanged between j first d long
    ∙ ap (λ x. put_in x (in_order (set between j first))) (read_set (d ∷ xs) i j d h)
    ))

pub same_order : (xs ys : List DueEvent) → IsPermutation xs ys → in_order ys ≡ in_order xs
same_order xs ys = IsPermutation-keeps xs (λ l. in_order l ≡ in_order xs) refl (λ l i j h k e. swapped l i j h k ∙ e) ys

-- ---- the first of all

all_in : (P : DueEvent → Type 0) (x : DueEvent) (ys : List DueEvent) → P x → AllByRecursion P ys → AllByRecursion P (put_in x ys)
all_in P x [] one all = (one, tt)
all_in P x (y ∷ ys) one all =
    elim (is (is_first x y)) [
      | inl t ↦ subst (AllByRecursion P) (sym (put_first x y ys t)) (one, all)
      | inr t ↦ subst (AllByRecursion P) (sym (put_later x y ys t)) (all.0, all_in P x ys one all.1)
    ]

all_in_order : (P : DueEvent → Type 0) (xs : List DueEvent) → AllByRecursion P xs → AllByRecursion P (in_order xs)
all_in_order P [] all = tt
all_in_order P (x ∷ xs) all = all_in P x (in_order xs) all.0 (all_in_order P xs all.1)

put_least : (x : DueEvent) (ys : List DueEvent) → AllByRecursion (λ y. is_first x y ≡ true) ys → put_in x ys ≡ x ∷ ys
put_least x [] all = refl
put_least x (y ∷ ys) all = put_first x y ys all.0

least_first : (x : DueEvent) (xs : List DueEvent) → AllByRecursion (λ y. is_first x y ≡ true) xs → in_order (x ∷ xs) ≡ x ∷ in_order xs
least_first x xs all = put_least x (in_order xs) (all_in_order (λ y. is_first x y ≡ true) xs all)

-- ---- a heap of them, of which the greatest is the first

abbrev pub turned : Reverse DueEvent → Reverse DueEvent → Ordering
turned a b = due_order b.0 a.0

abbrev pub dues : List (Reverse DueEvent) → List DueEvent
dues heap = map (λ due. due.0) heap

-- one was pushed
pub pushed : (old new : List (Reverse DueEvent)) (due : Reverse DueEvent) → IsPermutation (due ∷ old) new → in_order (dues new) ≡ put_in due.0 (in_order (dues old))
pushed old new due same = same_order (dues (due ∷ old)) (dues new) (IsPermutation-map (λ due. due.0) (due ∷ old) new same)

not_before : (x : Reverse DueEvent) (xs : List (Reverse DueEvent)) → IsUpperBound turned x xs → AllByRecursion (λ y. is_first x.0 y ≡ true) (dues xs)
not_before x [] all = tt
not_before x (y ∷ ys) all = (first_of x.0 y.0 all.0, not_before x ys all.1)

-- the greatest was popped
pub popped : (old new : List (Reverse DueEvent)) (due : Reverse DueEvent) → IsPermutation old (due ∷ new) → IsUpperBound turned due new → in_order (dues old) ≡ due.0 ∷ in_order (dues new)
popped old new due same least =
    sym (same_order (dues old) (dues (due ∷ new)) (IsPermutation-map (λ due. due.0) old (due ∷ new) same))
    ∙ least_first due.0 (dues new) (not_before due new least)

-- ---- how many

length_put : (x : DueEvent) (ys : List DueEvent) → length (put_in x ys) ≡ length ys + 1
length_put x [] = omega arith
length_put x (y ∷ ys) =
    elim (is (is_first x y)) [
      | inl t ↦ ap length (put_first x y ys t) ∙ omega arith
      | inr t ↦ ap length (put_later x y ys t) ∙ (let more = length_put x ys in omega (arith, more))
    ]

pub length_in_order : (heap : List (Reverse DueEvent)) → length (in_order (dues heap)) ≡ length heap
length_in_order [] = refl
length_in_order (x ∷ xs) =
    length_put x.0 (in_order (dues xs)) ∙ (let more = length_in_order xs in omega (arith, more))

-- ---- the time

le_then : (x y : ℕ) (r rest : Ordering) → MatchOrdering r (x < y) (x ≡ y) (y < x) → is_le (ordering_then r rest) ≡ true → x ≤ y
le_then x y Less rest m e = omega (arith, m)
le_then x y Equal rest m e = omega (arith, m)
le_then x y Greater rest m e = absurd cc

time_le : (a b : DueEvent) → is_first a b ≡ true → a.time ≤ b.time
unfolding is_first
time_le a b e = le_then a.time b.time (nat_cmp a.time b.time) _ (ranked a.time b.time (nat_cmp a.time b.time) refl) e

-- none is due before a time
abbrev pub AreFrom : ℕ → List (Reverse DueEvent) → Type 0
AreFrom time heap = All (λ due. time ≤ due.0.time) heap

pub none_past : (time : ℕ) (old new : List (Reverse DueEvent)) (due : Reverse DueEvent) → AreFrom time old → time ≤ due.0.time → IsPermutation (due ∷ old) new → AreFrom time new
none_past time old new due from one same =
    All-permutation (λ due. time ≤ due.0.time) (due ∷ old) new same (All-cons (λ due. time ≤ due.0.time) due old one from)

-- nor is the first of them, and no other is due before it
pub in_time : (time : ℕ) (old new : List (Reverse DueEvent)) (due : Reverse DueEvent) → AreFrom time old → IsPermutation old (due ∷ new) → time ≤ due.0.time
in_time time old new due from same =
    All-head (λ due. time ≤ due.0.time) due new (All-permutation (λ due. time ≤ due.0.time) old (due ∷ new) same from)

all_later : (due : Reverse DueEvent) (heap : List (Reverse DueEvent)) → IsUpperBound turned due heap → AllByRecursion (λ other. due.0.time ≤ other.0.time) heap
all_later due [] least = tt
all_later due (x ∷ xs) least = (time_le due.0 x.0 (first_of due.0 x.0 least.0), all_later due xs least.1)

pub none_before : (due : Reverse DueEvent) (heap : List (Reverse DueEvent)) → IsUpperBound turned due heap → AreFrom due.0.time heap
none_before due heap least = All-from_recursion (λ other. due.0.time ≤ other.0.time) heap (all_later due heap least)

-- ---- a push that may fail

pub either : {A B : Type 0} (r : Result A B) (P Q R : Type 0) → OnOk r P → OnErr r Q → (P → R) → (Q → R) → R
either (Ok x) P Q R p q f g = f p
either (Err x) P Q R p q f g = g q

pub full : (len room : ℕ) → (len < room → ⊥) → room ≤ len
full len room has_none = omega (arith, has_none)

pub error_and : {A B : Type 0} (r : Result A B) (P : B → Type 0) (Q : Type 0) → IsErrAnd r P → Q → IfErr r (λ error. P error × Q)
error_and (Ok x) P Q h q = tt
error_and (Err x) P Q h q = (h, q)

pub later_than : (time delay due : ℕ) → due ≡ min (time + delay) (2 ^ 64 - 1) → time < 2 ^ 64 → time ≤ due
later_than time delay due e fits = omega (arith, e, fits)
