-- How many were let in within a second.
use Rattle.std.proofs.Common.{◌≡◌, ◌+◌, ◌<◌, ◌≤◌, ℕ, Bool, true, false, cond, List, [], ◌∷◌, ◌++◌, ap, arith, refl, sym, subst, ◌∙◌}
use Rattle.std.specs.Prelude.{◌&&◌, count_by, filter, nat_lt}
use Rattle.std.proofs.lemmas.Bool.Decides.{nat_tests}
use Rattle.std.proofs.lemmas.List.Sums.{sum_by-append, sum_by-cons}
use Rattle.std.proofs.lemmas.List.Elements.{filter-append}
use Rattle.std.specs.declared.net.ip_addr.IpAddr.{IpAddr}
use Rattle.std.specs.declared.net.ip_addr.IpAddr.TheVariants.{V4, V6}
use lib.Pointwise.{bytes_decides}
use Rattle.cb_process.specs.declared.doors.Admission.{Admission}
use Rattle.cb_pipes.specs.LastSecond.{is_fresh}
use Rattle.cb_process.specs.Doors.{AreLetIn, AtMostTen, Recall, is_of, is_within, recent, recent_of, same_host}

-- ---- tests

lt_true : (a b : ℕ) → nat_lt a b ≡ true → a < b
lt_true a b e = grind (arith, nat_tests)

lt_is : (a b : ℕ) → a < b → nat_lt a b ≡ true
lt_is a b l = grind (arith, nat_tests)

and_first : (a b : Bool) → (a && b) ≡ true → a ≡ true
and_first true b e = refl
and_first false b e = absurd cc

and_second : (a b : Bool) → (a && b) ≡ true → b ≡ true
and_second true b e = e
and_second false b e = absurd cc

-- the same address
one_host : (a b : IpAddr) → same_host a b ≡ true → a ≡ b
one_host (V4 a) (V4 b) e = ap (λ (octets : List ℕ). V4 (record { octets = octets })) ((bytes_decides a.octets b.octets).0 e)
one_host (V6 a) (V6 b) e = ap (λ (segments : List ℕ). V6 (record { segments = segments })) ((bytes_decides a.segments b.segments).0 e)
one_host (V4 a) (V6 b) e = absurd cc
one_host (V6 a) (V4 b) e = absurd cc

-- ---- counts

-- what one adds to a count of those that pass two tests
abbrev weight : Bool → Bool → ℕ → ℕ
weight a b n = cond a (cond b 1 0 + n) n

counted_if : (p : Admission → Bool) (a : Bool) (x : Admission) (rest : List Admission) → count_by p (cond a (x ∷ rest) rest) ≡ weight a (p x) (count_by p rest)
counted_if p true x rest = sum_by-cons (λ e. cond (p e) 1 0) x rest
counted_if p false x rest = refl

counted : (p q : Admission → Bool) (x : Admission) (xs : List Admission) → count_by p (filter q (x ∷ xs)) ≡ weight (q x) (p x) (count_by p (filter q xs))
counted p q x xs = counted_if p (q x) x (filter q xs)

weight_le : (a b c : Bool) (n m : ℕ) → (c ≡ true → a ≡ true → b ≡ true) → n ≤ m → weight a c n ≤ weight b c m
weight_le true true true n m h le = omega (arith, le)
weight_le true true false n m h le = omega (arith, le)
weight_le true false true n m h le = absurd (let e : false ≡ true = h refl refl in cc)
weight_le true false false n m h le = omega (arith, le)
weight_le false true true n m h le = omega (arith, le)
weight_le false true false n m h le = omega (arith, le)
weight_le false false true n m h le = omega (arith, le)
weight_le false false false n m h le = omega (arith, le)

le_same : (a b c d : ℕ) → a ≡ c → b ≡ d → c ≤ d → a ≤ b
le_same a b c d e f h = omega (arith, e, f, h)

-- who passes the one test passes the other
more : (p q r : Admission → Bool) → ((x : Admission) → p x ≡ true → q x ≡ true → r x ≡ true) → (xs : List Admission) → count_by p (filter q xs) ≤ count_by p (filter r xs)
more p q r h [] = omega arith
more p q r h (x ∷ xs) = le_same _ _ _ _ (counted p q x xs) (counted p r x xs) (weight_le (q x) (r x) (p x) _ _ (h x) (more p q r h xs))

-- ---- a second

-- when a connection was let in
abbrev when : Admission → ℕ
when entry = entry.at

weight_ten : (a b : Bool) (n : ℕ) → n ≤ 10 → (a ≡ true → b ≡ true → n < 10) → weight a b n ≤ 10
weight_ten true true n le h = let l : n < 10 = h refl refl in omega (arith, l)
weight_ten true false n le h = omega (arith, le)
weight_ten false b n le h = le

-- what lies within a second lies within the second before its latest
near : (start : ℕ) (e x : Admission) → is_within start e ≡ true → is_within start x ≡ true → is_fresh when e.at x ≡ true
near start e x last other =
    let early : e.at < start + 1000 = lt_true e.at (start + 1000) (and_second (nat_lt start (e.at + 1)) (nat_lt e.at (start + 1000)) last) in
    let late : start < x.at + 1 = lt_true start (x.at + 1) (and_first (nat_lt start (x.at + 1)) (nat_lt x.at (start + 1000)) other) in
    lt_is e.at (x.at + 1000) (omega (arith, early, late))

before_it : (host : IpAddr) (start : ℕ) (e : Admission) (before : List Admission) → recent_of e.host e.at before < 10 → is_within start e ≡ true → is_of host e ≡ true → count_by (is_of host) (filter (is_within start) before) < 10
before_it host start e before few within of =
    let same : recent_of host e.at before < 10 = subst (λ (h : IpAddr). recent_of h e.at before < 10) (one_host e.host host of) few in
    let le : count_by (is_of host) (filter (is_within start) before) ≤ recent_of host e.at before = more (is_of host) (is_within start) (is_fresh when e.at) (λ x is w. near start e x within w) before in
    omega (arith, same, le)

pub ten : (all : List Admission) → AreLetIn all → AtMostTen all
ten [] ok = λ host start. omega arith
ten (e ∷ before) ok = λ host start.
    le_same _ 10 _ 10 (counted (is_of host) (is_within start) e before) refl
    (weight_ten (is_within start e) (is_of host e) _ (ten before ok.1 host start) (λ within of. before_it host start e before ok.0 within of))

-- ---- what is kept

-- what isn't fresh isn't later
stale : (now then : ℕ) (x : Admission) → now ≤ then → is_fresh when now x ≡ false → false ≡ is_fresh when then x
stale now then x le e = grind (arith, nat_tests)

kept_one : (now then : ℕ) → now ≤ then → (x : Admission) (xs : List Admission) (b : Bool) → b ≡ is_fresh when now x → recent then (recent now xs) ≡ recent then xs → recent then (cond b (x ∷ recent now xs) (recent now xs)) ≡ recent then (x ∷ xs)
kept_one now then le x xs true e same = ap (λ (rest : List Admission). cond (is_fresh when then x) (x ∷ rest) rest) same
kept_one now then le x xs false e same = same ∙ ap (λ (b : Bool). cond b (x ∷ recent then xs) (recent then xs)) (stale now then x le (sym e))

-- what was kept at a time serves later ones
kept_for : (now then : ℕ) → now ≤ then → (xs : List Admission) → recent then (recent now xs) ≡ recent then xs
kept_for now then le [] = refl
kept_for now then le (x ∷ xs) = kept_one now then le x xs (is_fresh when now x) refl (kept_for now then le xs)

weight_behind : (a b : Bool) (one old before : ℕ) → one ≡ weight a b 0 → old ≡ before → old + one ≡ weight a b before
weight_behind true true one old before e same = omega (arith, e, same)
weight_behind true false one old before e same = omega (arith, e, same)
weight_behind false b one old before e same = omega (arith, e, same)

added : (old new before : List Admission) (now : ℕ) (entry : Admission) → new ≡ recent now old ++ entry ∷ [] → (host : IpAddr) (then : ℕ) → now ≤ then → recent_of host then old ≡ recent_of host then before → recent_of host then new ≡ recent_of host then (entry ∷ before)
added old new before now entry is host then later same =
    let seen : recent then new ≡ recent then old ++ recent then (entry ∷ []) = ap (recent then) is ∙ filter-append (is_fresh when then) (recent now old) (entry ∷ []) ∙ ap (λ (front : List Admission). front ++ recent then (entry ∷ [])) (kept_for now then later old) in
    let parts : count_by (is_of host) (recent then new) ≡ count_by (is_of host) (recent then old) + count_by (is_of host) (recent then (entry ∷ [])) =
    ap (λ (all : List Admission). count_by (is_of host) all) seen ∙ sum_by-append (λ (e : Admission). cond (is_of host e) 1 0) (recent then old) (recent then (entry ∷ [])) in
    parts ∙ weight_behind (is_fresh when then entry) (is_of host entry) _ _ _ (counted (is_of host) (is_fresh when then) entry []) same ∙ sym (counted (is_of host) (is_fresh when then) entry before)

-- one more was let in
pub recalls : (old new before : List Admission) (host : IpAddr) (now last : ℕ) (entry : Admission) → entry.host ≡ host → entry.at ≡ now → new ≡ recent now old ++ entry ∷ [] → recent_of host now old < 10
    → Recall old before last → last ≤ now → AreLetIn before → Recall new (entry ∷ before) now × AreLetIn (entry ∷ before)
recalls old new before host now last entry of at is few recall le ok = (
  (λ h then later. added old new before now entry is h then later (recall h then (omega (arith, le, later)))),
  (
    subst (λ (t : ℕ). recent_of entry.host t before < 10) (sym at) (subst (λ (h : IpAddr). recent_of h now before < 10) (sym of) (subst (λ (n : ℕ). n < 10) (recall host now le) few)),
    ok,
  ),
)

-- nobody was
pub still : (old new before : List Admission) (now last : ℕ) → new ≡ recent now old → Recall old before last → last ≤ now → Recall new before now
still old new before now last is recall le = λ host then later.
    ap (λ (all : List Admission). count_by (is_of host) all) (ap (recent then) is ∙ kept_for now then later old) ∙ recall host then (omega (arith, le, later))
