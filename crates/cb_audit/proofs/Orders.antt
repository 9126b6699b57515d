-- Connections in their order, and the list of traces.
use Rattle.std.proofs.Common.{◌≡◌, ◌∙◌, ℕ, zero, suc, ◌+◌, ◌-◌, ◌<◌, ◌≤◌, Bool, true, false, cond, List, [], ◌∷◌, length, Some, None, refl, sym, ap, subst, inl, inr, arith, nat_eq}
use Rattle.std.specs.Prelude.{◌⊎◌, ◌&&◌, get_or, slice_get}
use Rattle.std.proofs.lemmas.Bool.Decides.{nat_tests}
use Rattle.std.proofs.lemmas.Option.{get_or_from_slice_get, slice_get_read, slice_get_within}
use Rattle.cb_state.specs.declared.connection.Connection.{Connection}
use Rattle.cb_state.specs.Announcers.{same_connection}
use Rattle.cb_hall.proofs.Lookups.{is_same}
use Rattle.cb_audit.specs.Counting.{HasTrace}
use Rattle.cb_audit.specs.Order.{AreInOrder, AuditedTrace, IsBefore, IsTraceAt, trace_of}

-- ---- the order

less_suc : (m n : ℕ) → ((m < n) ⊎ (n ≤ m)) → (suc m < suc n) ⊎ (suc n ≤ suc m)
less_suc m n (inl h) = inl (omega (arith, h))
less_suc m n (inr h) = inr (omega (arith, h))

pub less : (m n : ℕ) → (m < n) ⊎ (n ≤ m)
less m zero = inr (omega arith)
less zero (suc n) = inl (omega arith)
less (suc m) (suc n) = less_suc m n (less m n)

pub before_trans : (a b c : Connection) → IsBefore a b → IsBefore b c → IsBefore a c
before_trans a b c (inl h) (inl k) = inl (omega (arith, h, k))
before_trans a b c (inl h) (inr (e, k)) = inl (omega (arith, h, e))
before_trans a b c (inr (e, h)) (inl k) = inl (omega (arith, e, k))
before_trans a b c (inr (e, h)) (inr (f, k)) = inr (e ∙ f, omega (arith, h, k))

pub before_not : (a b : Connection) → IsBefore a b → a ≡ b → ⊥
before_not a b (inl h) e = let p = ap (λ (c : Connection). c.peer) e in omega (arith, h, p)
before_not a b (inr (f, h)) e = let g = ap (λ (c : Connection). c.generation) e in omega (arith, h, g)

-- what comes before one comes before each that isn't before that one
before_peer : (a b c : Connection) → a.peer < b.peer → (IsBefore c b → ⊥) → ((c.peer < b.peer) ⊎ (b.peer ≤ c.peer)) → IsBefore a c
before_peer a b c h not (inl k) = absurd (not (inl k))
before_peer a b c h not (inr k) = inl (omega (arith, h, k))

before_generation : (a b c : Connection) → a.peer ≡ b.peer → a.generation < b.generation → (IsBefore c b → ⊥) → b.peer ≡ c.peer
    → ((c.generation < b.generation) ⊎ (b.generation ≤ c.generation)) → IsBefore a c
before_generation a b c e h not f (inl k) = absurd (not (inr (sym f, k)))
before_generation a b c e h not f (inr k) = inr (e ∙ f, omega (arith, h, k))

before_like : (a b c : Connection) → a.peer ≡ b.peer → a.generation < b.generation → (IsBefore c b → ⊥) → ((c.peer < b.peer) ⊎ (b.peer ≤ c.peer)) → ((b.peer < c.peer) ⊎ (c.peer ≤ b.peer)) → IsBefore a c
before_like a b c e h not (inl k) second = absurd (not (inl k))
before_like a b c e h not (inr k) (inl m) = inl (omega (arith, e, m))
before_like a b c e h not (inr k) (inr m) = before_generation a b c e h not (omega (arith, k, m)) (less c.generation b.generation)

pub before_other : (a b c : Connection) → IsBefore a b → (IsBefore c b → ⊥) → IsBefore a c
before_other a b c (inl h) not = before_peer a b c h not (less c.peer b.peer)
before_other a b c (inr (e, h)) not = before_like a b c e h not (less c.peer b.peer) (less b.peer c.peer)

-- two of which none is before the other are the same
same_peer : (a b : Connection) → (IsBefore a b → ⊥) → (IsBefore b a → ⊥) → ((a.peer < b.peer) ⊎ (b.peer ≤ a.peer)) → ((b.peer < a.peer) ⊎ (a.peer ≤ b.peer)) → a.peer ≡ b.peer
same_peer a b not back (inl h) second = absurd (not (inl h))
same_peer a b not back (inr h) (inl k) = absurd (back (inl k))
same_peer a b not back (inr h) (inr k) = omega (arith, h, k)

same_generation : (a b : Connection) → a.peer ≡ b.peer → (IsBefore a b → ⊥) → (IsBefore b a → ⊥) → ((a.generation < b.generation) ⊎ (b.generation ≤ a.generation))
    → ((b.generation < a.generation) ⊎ (a.generation ≤ b.generation)) → a.generation ≡ b.generation
same_generation a b e not back (inl h) second = absurd (not (inr (e, h)))
same_generation a b e not back (inr h) (inl k) = absurd (back (inr (sym e, k)))
same_generation a b e not back (inr h) (inr k) = omega (arith, h, k)

pub neither_before : (a b : Connection) → (IsBefore a b → ⊥) → (IsBefore b a → ⊥) → a ≡ b
neither_before a b not back =
    let peer = same_peer a b not back (less a.peer b.peer) (less b.peer a.peer) in
    let generation = same_generation a b peer not back (less a.generation b.generation) (less b.generation a.generation) in
    ap (λ (p : ℕ). record { peer = p; generation = a.generation }) peer ∙ ap (λ (g : ℕ). record { peer = b.peer; generation = g }) generation

-- ---- equal connections

nat_self : (n : ℕ) → nat_eq n n ≡ true
nat_self n = grind (arith, nat_tests)

both_true : (a b : Bool) → a ≡ true → b ≡ true → (a && b) ≡ true
both_true true true e f = refl
both_true true false e f = f
both_true false b e f = e

pub same_self : (c : Connection) → same_connection c c ≡ true
same_self c = both_true (nat_eq c.peer c.peer) (nat_eq c.generation c.generation) (nat_self c.peer) (nat_self c.generation)

pub same_at : (a b : Connection) → a ≡ b → same_connection a b ≡ true
same_at a b e = subst (λ (c : Connection). same_connection a c ≡ true) e (same_self a)

pub same_not : (a b : Connection) → same_connection a b ≡ false → a ≡ b → ⊥
same_not a b no_same e = let t : true ≡ false = sym (same_at a b e) ∙ no_same in absurd (cc)

not_true : (b : Bool) → (b ≡ true → ⊥) → b ≡ false
not_true true not = absurd (not refl)
not_true false not = refl

pub differ_at : (a b : Connection) → (a ≡ b → ⊥) → same_connection a b ≡ false
differ_at a b not = not_true (same_connection a b) (λ h. not (is_same a b h))

-- ---- the traces

later : (one : AuditedTrace) (others : List AuditedTrace) → AreInOrder (one ∷ others) → AreInOrder others
later one others order i j a b low at bt = order (suc i) (suc j) a b (omega (arith, low)) at bt

pub trace_at : (audited : List AuditedTrace) (c : Connection) (i : ℕ) (one : AuditedTrace) → AreInOrder audited → slice_get audited i ≡ Some one → one.connection ≡ c → trace_of audited c ≡ Some one.trace
trace_at [] c i one order at is = absurd (let never : None ≡ Some one = at in cc)
trace_at (x ∷ xs) c zero one order at is =
    let same : x ≡ one = (let some_same : Some x ≡ Some one = at in cc) in
    ap (λ (b : Bool). cond b (Some x.trace) (trace_of xs c)) (same_at x.connection c (ap (λ (a : AuditedTrace). a.connection) same ∙ is)) ∙ ap (λ (a : AuditedTrace). Some a.trace) same
trace_at (x ∷ xs) c (suc i) one order at is =
    ap (λ (b : Bool). cond b (Some x.trace) (trace_of xs c))
    (differ_at x.connection c (λ e. before_not x.connection one.connection (order 0 (suc i) x one (omega arith) refl at) (e ∙ sym is)))
    ∙ trace_at xs c i one (later x xs order) at is

pub trace_none : (audited : List AuditedTrace) (c : Connection) → ((i : ℕ) (one : AuditedTrace) → slice_get audited i ≡ Some one → one.connection ≡ c → ⊥) → trace_of audited c ≡ None
trace_none [] c none = refl
trace_none (x ∷ xs) c none =
    ap (λ (b : Bool). cond b (Some x.trace) (trace_of xs c)) (differ_at x.connection c (λ e. none 0 x refl e))
    ∙ trace_none xs c (λ i one at is. none (suc i) one at is)

-- a connection has a trace, or it has none
one_more : (x : AuditedTrace) (xs : List AuditedTrace) (c : Connection) → HasTrace xs c ⊎ (trace_of xs c ≡ None) → same_connection x.connection c ≡ false → HasTrace (x ∷ xs) c ⊎ (trace_of (x ∷ xs) c ≡ None)
one_more x xs c (inl (i, (one, at, is))) differs = inl (suc i, (one, at, is))
one_more x xs c (inr none) differs = inr (ap (λ (b : Bool). cond b (Some x.trace) (trace_of xs c)) differs ∙ none)

by_first : (x : AuditedTrace) (xs : List AuditedTrace) (c : Connection) (b : Bool) → same_connection x.connection c ≡ b → HasTrace xs c ⊎ (trace_of xs c ≡ None) → HasTrace (x ∷ xs) c ⊎ (trace_of (x ∷ xs) c ≡ None)
by_first x xs c true is others = inl (0, (x, refl, is_same x.connection c is))
by_first x xs c false is others = one_more x xs c others is

pub has_or_not : (audited : List AuditedTrace) (c : Connection) → HasTrace audited c ⊎ (trace_of audited c ≡ None)
has_or_not [] c = inr refl
has_or_not (x ∷ xs) c = by_first x xs c (same_connection x.connection c) refl (has_or_not xs c)

-- ---- whether they are in order

-- those before a place
abbrev pub InOrderUpTo : List AuditedTrace → ℕ → Type 0
InOrderUpTo audited n = (i j : ℕ) (one other : AuditedTrace) → i < j → j < n → slice_get audited i ≡ Some one → slice_get audited j ≡ Some other → IsBefore one.connection other.connection

pub order_first : (audited : List AuditedTrace) → InOrderUpTo audited 1
order_first audited i j one other low high at bt = absurd (omega (arith, low, high))

same_one : (audited : List AuditedTrace) (i j : ℕ) (one other : AuditedTrace) → i ≡ j → slice_get audited i ≡ Some one → slice_get audited j ≡ Some other → one ≡ other
same_one audited i j one other e at bt = let some_same : Some one ≡ Some other = sym at ∙ ap (slice_get audited) e ∙ bt in cc

before_last : (audited : List AuditedTrace) (n i : ℕ) (former last one : AuditedTrace) → InOrderUpTo audited n → 1 ≤ n → slice_get audited (n - 1) ≡ Some former → IsBefore former.connection last.connection
    → i < n → slice_get audited i ≡ Some one → ((i < n - 1) ⊎ (n - 1 ≤ i)) → IsBefore one.connection last.connection
before_last audited n i former last one are some_place at before low bt (inl h) =
    before_trans one.connection former.connection last.connection (are i (n - 1) one former h (omega (arith, some_place)) bt at) before
before_last audited n i former last one are some_place at before low bt (inr h) =
    subst (λ (a : AuditedTrace). IsBefore a.connection last.connection) (same_one audited (n - 1) i former one (omega (arith, low, h)) at bt) before

order_pick : (audited : List AuditedTrace) (n i j : ℕ) (former last one other : AuditedTrace) → InOrderUpTo audited n → 1 ≤ n → slice_get audited (n - 1) ≡ Some former → slice_get audited n ≡ Some last
    → IsBefore former.connection last.connection → i < j → j < n + 1 → slice_get audited i ≡ Some one → slice_get audited j ≡ Some other → ((j < n) ⊎ (n ≤ j)) → IsBefore one.connection other.connection
order_pick audited n i j former last one other are some_place at lt before low high bt ct (inl h) = are i j one other low h bt ct
order_pick audited n i j former last one other are some_place at lt before low high bt ct (inr h) =
    subst (λ (a : AuditedTrace). IsBefore one.connection a.connection) (same_one audited n j last other (omega (arith, high, h)) lt ct)
    (before_last audited n i former last one are some_place at before (omega (arith, low, high)) bt (less i (n - 1)))

pub order_next : (audited : List AuditedTrace) (n : ℕ) (former last : AuditedTrace) → InOrderUpTo audited n → 1 ≤ n → n < length audited → former ≡ get_or audited (n - 1) former → last ≡ get_or audited n last
    → IsBefore former.connection last.connection → InOrderUpTo audited (n + 1)
order_next audited n former last are some_place within is own before = λ i j one other low high at bt.
    order_pick audited n i j former last one other are some_place (slice_get_read audited (length audited) (n - 1) former refl (omega (arith, some_place, within)) is)
    (slice_get_read audited (length audited) n last refl within own) before low high at bt (less j n)

pub order_all : (audited : List AuditedTrace) (n : ℕ) → InOrderUpTo audited n → length audited ≤ n → AreInOrder audited
order_all audited n are past = λ i j one other low at bt.
    (let within = slice_get_within audited j other bt in are i j one other low (omega (arith, within, past)) at bt)

pub order_not : (audited : List AuditedTrace) (n : ℕ) (former last : AuditedTrace) → 1 ≤ n → n < length audited → former ≡ get_or audited (n - 1) former → last ≡ get_or audited n last
    → (IsBefore former.connection last.connection → ⊥) → AreInOrder audited → ⊥
order_not audited n former last some_place within is own not order =
    not
    (order (n - 1) n former last (omega (arith, some_place)) (slice_get_read audited (length audited) (n - 1) former refl (omega (arith, some_place, within)) is)
    (slice_get_read audited (length audited) n last refl within own))

-- by what the loop reads
pub order_read : (audited : List AuditedTrace) (n : ℕ) (former last : AuditedTrace) (a b : Connection) → InOrderUpTo audited n → 1 ≤ n → n < length audited → former ≡ get_or audited (n - 1) former → last ≡ get_or audited n last
    → a ≡ former.connection → b ≡ last.connection → IsBefore a b → InOrderUpTo audited (n + 1)
order_read audited n former last a b are some_place within is own ea eb before =
    order_next audited n former last are some_place within is own (subst (λ (c : Connection). IsBefore c last.connection) ea (subst (IsBefore a) eb before))

pub order_denied : (audited : List AuditedTrace) (n : ℕ) (former last : AuditedTrace) (a b : Connection) (before : Bool) → 1 ≤ n → n < length audited → former ≡ get_or audited (n - 1) former → last ≡ get_or audited n last
    → a ≡ former.connection → b ≡ last.connection → (IsBefore a b → before ≡ true) → before ≡ false → AreInOrder audited → ⊥
order_denied audited n former last a b before some_place within is own ea eb if_so not order =
    order_not audited n former last some_place within is own
    (λ h.
    (let never : true ≡ false = sym (if_so (subst (λ (c : Connection). IsBefore c b) (sym ea) (subst (IsBefore former.connection) (sym eb) h))) ∙ not in absurd (cc)))
    order

-- ---- a binary search

-- Those before `low` come before the connection, those from `high` on behind it.
pub record IsBetween (audited : List AuditedTrace) (c : Connection) (low high : ℕ) : Type 0 where
  pub rises : low ≤ high
  pub within : high ≤ length audited
  pub below : (i : ℕ) (one : AuditedTrace) → slice_get audited i ≡ Some one → i < low → IsBefore one.connection c
  pub above : (i : ℕ) (one : AuditedTrace) → slice_get audited i ≡ Some one → high ≤ i → IsBefore c one.connection

pub between_all : (audited : List AuditedTrace) (c : Connection) (n : ℕ) → n ≡ length audited → IsBetween audited c 0 n
between_all audited c n is =
    record {
      rises = omega arith;
      within = omega (arith, is);
      below = λ i one at low. absurd (omega (arith, low));
      above = λ i one at high. (let w = slice_get_within audited i one at in absurd (omega (arith, w, high, is)));
    }

below_pick : (audited : List AuditedTrace) (c : Connection) (middle i : ℕ) (m one : AuditedTrace) → AreInOrder audited → slice_get audited middle ≡ Some m → slice_get audited i ≡ Some one → IsBefore m.connection c
    → i < middle + 1 → ((i < middle) ⊎ (middle ≤ i)) → IsBefore one.connection c
below_pick audited c middle i m one order at bt before low (inl h) = before_trans one.connection m.connection c (order i middle one m h bt at) before
below_pick audited c middle i m one order at bt before low (inr h) =
    let here : i ≡ middle = omega (arith, low, h) in
    let same : one ≡ m = (let some_same : Some one ≡ Some m = sym bt ∙ ap (slice_get audited) here ∙ at in cc) in
    subst (λ (a : AuditedTrace). IsBefore a.connection c) (sym same) before

above_pick : (audited : List AuditedTrace) (c : Connection) (middle i : ℕ) (m one : AuditedTrace) → AreInOrder audited → slice_get audited middle ≡ Some m → slice_get audited i ≡ Some one → IsBefore c m.connection
    → middle ≤ i → ((middle < i) ⊎ (i ≤ middle)) → IsBefore c one.connection
above_pick audited c middle i m one order at bt before high (inl h) = before_trans c m.connection one.connection before (order middle i m one h at bt)
above_pick audited c middle i m one order at bt before high (inr h) =
    let here : i ≡ middle = omega (arith, high, h) in
    let same : one ≡ m = (let some_same : Some one ≡ Some m = sym bt ∙ ap (slice_get audited) here ∙ at in cc) in
    subst (λ (a : AuditedTrace). IsBefore c a.connection) (sym same) before

pub between_right : (audited : List AuditedTrace) (c : Connection) (low high middle : ℕ) (m : AuditedTrace) → AreInOrder audited → IsBetween audited c low high → middle < high → slice_get audited middle ≡ Some m
    → IsBefore m.connection c → IsBetween audited c (middle + 1) high
between_right audited c low high middle m order b small at before =
    record {
      rises = omega (arith, small);
      within = b.within;
      below = λ i one bt less_than. below_pick audited c middle i m one order at bt before less_than (less i middle);
      above = b.above;
    }

pub between_left : (audited : List AuditedTrace) (c : Connection) (low high middle : ℕ) (m : AuditedTrace) → AreInOrder audited → IsBetween audited c low high → low ≤ middle → middle < high → slice_get audited middle ≡ Some m
    → IsBefore c m.connection → IsBetween audited c low middle
between_left audited c low high middle m order b large small at before =
    record {
      rises = large;
      within = (let w = b.within in omega (arith, w, small));
      below = b.below;
      above = λ i one bt from. above_pick audited c middle i m one order at bt before from (less middle i);
    }

none_pick : (audited : List AuditedTrace) (c : Connection) (low high i : ℕ) (one : AuditedTrace) → IsBetween audited c low high → high ≤ low → slice_get audited i ≡ Some one → one.connection ≡ c → ((i < low) ⊎ (low ≤ i)) → ⊥
none_pick audited c low high i one b empty at is (inl h) = before_not one.connection c (b.below i one at h) is
none_pick audited c low high i one b empty at is (inr h) = before_not c one.connection (b.above i one at (omega (arith, empty, h))) (sym is)

pub between_none : (audited : List AuditedTrace) (c : Connection) (low high : ℕ) → IsBetween audited c low high → high ≤ low → trace_of audited c ≡ None
between_none audited c low high b empty = trace_none audited c (λ i one at is. none_pick audited c low high i one b empty at is (less i low))

-- by what the search reads
item_at : (audited : List AuditedTrace) (c : Connection) (low high middle : ℕ) (m : AuditedTrace) → IsBetween audited c low high → middle < high → m ≡ get_or audited middle m → slice_get audited middle ≡ Some m
item_at audited c low high middle m b small is = let w = b.within in slice_get_read audited (length audited) middle m refl (omega (arith, small, w)) is

pub right_at : (audited : List AuditedTrace) (c : Connection) (low high middle : ℕ) (m : AuditedTrace) → AreInOrder audited → IsBetween audited c low high → middle < high → m ≡ get_or audited middle m → IsBefore m.connection c
    → IsBetween audited c (middle + 1) high
right_at audited c low high middle m order b small is before = between_right audited c low high middle m order b small (item_at audited c low high middle m b small is) before

pub left_at : (audited : List AuditedTrace) (c : Connection) (low high middle : ℕ) (m : AuditedTrace) → AreInOrder audited → IsBetween audited c low high → low ≤ middle → middle < high → m ≡ get_or audited middle m
    → IsBefore c m.connection → IsBetween audited c low middle
left_at audited c low high middle m order b large small is before = between_left audited c low high middle m order b large small (item_at audited c low high middle m b small is) before

pub found_at : (audited : List AuditedTrace) (c : Connection) (low high middle : ℕ) (m : AuditedTrace) → IsBetween audited c low high → middle < high → m ≡ get_or audited middle m → (IsBefore m.connection c → ⊥) → (IsBefore c m.connection → ⊥)
    → IsTraceAt audited c middle
found_at audited c low high middle m b small is not back = (m, item_at audited c low high middle m b small is, neither_before m.connection c not back)

-- ---- by what the code reads

here_is : (audited : List AuditedTrace) (place : ℕ) (here one : AuditedTrace) → slice_get audited place ≡ Some one → here ≡ get_or audited place here → here ≡ one
here_is audited place here one at is = is ∙ get_or_from_slice_get audited place one here at

-- what the trace of a found place is
pub trace_read : (audited : List AuditedTrace) (c : Connection) (place : ℕ) (here : AuditedTrace) → AreInOrder audited → IsTraceAt audited c place → here ≡ get_or audited place here → trace_of audited c ≡ Some here.trace
trace_read audited c place here order (one, at, own) is =
    trace_at audited c place one order at own ∙ ap (λ (a : AuditedTrace). Some a.trace) (sym (here_is audited place here one at is))

-- one look of the search, by what it reads
pub right_read : (audited : List AuditedTrace) (c : Connection) (low high middle : ℕ) (m : AuditedTrace) (other : Connection) → AreInOrder audited → IsBetween audited c low high → middle < high → m ≡ get_or audited middle m
    → other ≡ m.connection → IsBefore other c → IsBetween audited c (middle + 1) high
right_read audited c low high middle m other order b small is own before =
    right_at audited c low high middle m order b small is (subst (λ (x : Connection). IsBefore x c) own before)

pub left_read : (audited : List AuditedTrace) (c : Connection) (low high middle : ℕ) (m : AuditedTrace) (other : Connection) → AreInOrder audited → IsBetween audited c low high → low ≤ middle → middle < high → m ≡ get_or audited middle m
    → other ≡ m.connection → IsBefore c other → IsBetween audited c low middle
left_read audited c low high middle m other order b large small is own before =
    left_at audited c low high middle m order b large small is (subst (λ (x : Connection). IsBefore c x) own before)

pub found_read : (audited : List AuditedTrace) (c : Connection) (low high middle : ℕ) (m : AuditedTrace) (other : Connection) (before behind : Bool) → IsBetween audited c low high → middle < high → m ≡ get_or audited middle m
    → other ≡ m.connection → (IsBefore other c → before ≡ true) → before ≡ false → (IsBefore c other → behind ≡ true) → behind ≡ false → IsTraceAt audited c middle
found_read audited c low high middle m other before behind b small is own if_before not_before if_behind not_behind =
    found_at audited c low high middle m b small is
    (λ h. (let never : true ≡ false = sym (if_before (subst (λ (x : Connection). IsBefore x c) (sym own) h)) ∙ not_before in absurd (cc)))
    (λ h. (let never : true ≡ false = sym (if_behind (subst (λ (x : Connection). IsBefore c x) (sym own) h)) ∙ not_behind in absurd (cc)))
