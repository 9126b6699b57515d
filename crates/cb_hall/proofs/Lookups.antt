-- What is known of one connection, once something has changed of another or of itself.
use Rattle.std.proofs.Common.{◌≡◌, ◌∙◌, ◌++◌, ◌∷◌, [], ℕ, zero, suc, Bool, true, false, List, Option, None, Some, nat_eq, refl, sym, ap, subst, inl, inr, arith}
use Rattle.std.specs.Prelude.{◌&&◌, ◌⊎◌, ◌≢◌, option_and_then, slice_get}
use Rattle.std.proofs.lemmas.Bool.Decides.{nat_tests}
use Rattle.cb_state.specs.declared.connection.Connection.{Connection}
use Rattle.cb_state.specs.Announcers.{same_connection}
use Rattle.cb_hall.specs.declared.connections.Connected.{Connected}
use Rattle.cb_hall.specs.Connections.{Slots, changed_at, connected_at, connected_of, fresh, in_slot, opened, put_in}

-- ---- two connections

both : (a b : Bool) → (a && b) ≡ true → (a ≡ true) × (b ≡ true)
both true true h = (refl, refl)
both true false h = absurd (let e : false ≡ true = h in cc)
both false b h = absurd (let e : false ≡ true = h in cc)

pub is_same : (a b : Connection) → same_connection a b ≡ true → a ≡ b
is_same a b h =
    let parts = both (nat_eq a.peer b.peer) (nat_eq a.generation b.generation) h in
    let peer : a.peer ≡ b.peer = (let p = parts.0 in grind (arith, nat_tests)) in
    let generation : a.generation ≡ b.generation = (let g = parts.1 in grind (arith, nat_tests)) in
    ap (λ (p : ℕ). record { peer = p; generation = a.generation }) peer ∙ ap (λ (g : ℕ). record { peer = b.peer; generation = g }) generation

-- ---- one place of a list

at_nothing : {A : Type 0} (f : A → A) (xs : List A) (i j : ℕ) → slice_get xs j ≡ None → slice_get (changed_at f i xs) j ≡ None
unfolding changed_at
at_nothing f [] i j is = refl
at_nothing f (y ∷ xs) zero zero is = absurd (let never : Some y ≡ None = is in cc)
at_nothing f (y ∷ xs) zero (suc j) is = is
at_nothing f (y ∷ xs) (suc i) zero is = absurd (let never : Some y ≡ None = is in cc)
at_nothing f (y ∷ xs) (suc i) (suc j) is = at_nothing f xs i j is

one_on : {A : Type 0} (f : A → A) (x : A) (o : Option A) (i j : ℕ) → ((i ≢ j) × (o ≡ Some x)) ⊎ ((i ≡ j) × (o ≡ Some (f x)))
    → ((suc i ≢ suc j) × (o ≡ Some x)) ⊎ ((suc i ≡ suc j) × (o ≡ Some (f x)))
one_on f x o i j (inl (differ, same)) = inl ((λ (e : suc i ≡ suc j). differ (omega (arith, e))), same)
one_on f x o i j (inr (here, is)) = inr (ap suc here, is)

pub at_either : {A : Type 0} (f : A → A) (xs : List A) (i j : ℕ) (x : A) → slice_get xs j ≡ Some x
    → ((i ≢ j) × (slice_get (changed_at f i xs) j ≡ Some x)) ⊎ ((i ≡ j) × (slice_get (changed_at f i xs) j ≡ Some (f x)))
unfolding changed_at
at_either f [] i j x is = absurd (let never : None ≡ Some x = is in cc)
at_either f (y ∷ xs) zero zero x is = let same : y ≡ x = (let one : Some y ≡ Some x = is in cc) in inr (refl, ap (λ (z : _). Some (f z)) same)
at_either f (y ∷ xs) zero (suc j) x is = inl ((λ (e : 0 ≡ suc j). omega (arith, e)), is)
at_either f (y ∷ xs) (suc i) zero x is = inl ((λ (e : suc i ≡ 0). omega (arith, e)), is)
at_either f (y ∷ xs) (suc i) (suc j) x is = one_on f x (slice_get (changed_at f i xs) j) i j (at_either f xs i j x is)

at_behind : {A : Type 0} (xs : List A) (y : A) (j : ℕ) (x : A) → slice_get xs j ≡ Some x → slice_get (xs ++ y ∷ []) j ≡ Some x
at_behind [] y j x is = absurd (let never : None ≡ Some x = is in cc)
at_behind (z ∷ xs) y zero x is = is
at_behind (z ∷ xs) y (suc j) x is = at_behind xs y j x is

-- ---- one connection

both_in : (o : Option (List Connected)) (generation : ℕ) (x : Connected) → option_and_then (λ slot. connected_at slot generation) o ≡ Some x
    → (slot : List Connected) × (o ≡ Some slot) × (connected_at slot generation ≡ Some x)
both_in None generation x is = absurd (let never : None ≡ Some x = is in cc)
both_in (Some slot) generation x is = (slot, refl, is)

pub found_by : (slots : Slots) (c : Connection) (slot : List Connected) (o : Option Connected) → slice_get slots c.peer ≡ Some slot → connected_at slot c.generation ≡ o → connected_of slots c ≡ o
found_by slots c slot o at is = ap (λ (s : Option (List Connected)). option_and_then (λ slot. connected_at slot c.generation) s) at ∙ is

slot_either : (f : Connected → Connected) (slot : List Connected) (d c : ℕ) (x : Connected) → connected_at slot c ≡ Some x
    → ((d ≢ c) × (connected_at (in_slot f d slot) c ≡ Some x)) ⊎ ((d ≡ c) × (connected_at (in_slot f d slot) c ≡ Some (f x)))
slot_either f slot d zero x is = absurd (let never : None ≡ Some x = is in cc)
slot_either f slot zero (suc c) x is = inl ((λ (e : 0 ≡ suc c). omega (arith, e)), is)
slot_either f slot (suc d) (suc c) x is = one_on f x (slice_get (changed_at f d slot) c) d c (at_either f slot d c x is)

abbrev IsPut : (Connected → Connected) → Slots → Connection → Connection → Connected → Type 0
IsPut f slots d c x = ((d ≢ c) × (connected_of (put_in f d slots) c ≡ Some x)) ⊎ ((d ≡ c) × (connected_of (put_in f d slots) c ≡ Some (f x)))

put_inside : (f : Connected → Connected) (slots : Slots) (d c : Connection) (slot : List Connected) (x : Connected) → d.peer ≡ c.peer
    → slice_get (put_in f d slots) c.peer ≡ Some (in_slot f d.generation slot)
    → ((d.generation ≢ c.generation) × (connected_at (in_slot f d.generation slot) c.generation ≡ Some x))
    ⊎ ((d.generation ≡ c.generation) × (connected_at (in_slot f d.generation slot) c.generation ≡ Some (f x))) → IsPut f slots d c x
put_inside f slots d c slot x peer at (inl (differ, is)) =
    inl ((λ (e : d ≡ c). differ (ap (λ (k : Connection). k.generation) e)), found_by (put_in f d slots) c (in_slot f d.generation slot) (Some x) at is)
put_inside f slots d c slot x peer at (inr (generation, is)) =
    inr (
      ap (λ (p : ℕ). record { peer = p; generation = d.generation }) peer ∙ ap (λ (g : ℕ). record { peer = c.peer; generation = g }) generation,
      found_by (put_in f d slots) c (in_slot f d.generation slot) (Some (f x)) at is,
    )

put_beside : (f : Connected → Connected) (slots : Slots) (d c : Connection) (slot : List Connected) (x : Connected) → connected_at slot c.generation ≡ Some x
    → ((d.peer ≢ c.peer) × (slice_get (put_in f d slots) c.peer ≡ Some slot)) ⊎ ((d.peer ≡ c.peer) × (slice_get (put_in f d slots) c.peer ≡ Some (in_slot f d.generation slot)))
    → IsPut f slots d c x
put_beside f slots d c slot x is (inl (differ, at)) = inl ((λ (e : d ≡ c). differ (ap (λ (k : Connection). k.peer) e)), found_by (put_in f d slots) c slot (Some x) at is)
put_beside f slots d c slot x is (inr (peer, at)) = put_inside f slots d c slot x peer at (slot_either f slot d.generation c.generation x is)

-- what is known of a connection, once something has changed of one
pub put_either : (f : Connected → Connected) (slots : Slots) (d c : Connection) (x : Connected) → connected_of slots c ≡ Some x → IsPut f slots d c x
put_either f slots d c x is =
    let there = both_in (slice_get slots c.peer) c.generation x is in
    put_beside f slots d c there.0 x there.2 (at_either (in_slot f d.generation) slots d.peer c.peer there.0 there.1)

none_in : (f : Connected → Connected) (slot : List Connected) (d c : ℕ) → connected_at slot c ≡ None → connected_at (in_slot f d slot) c ≡ None
none_in f slot zero c is = is
none_in f slot (suc d) zero is = refl
none_in f slot (suc d) (suc c) is = at_nothing f slot d c is

nothing_beside : (f : Connected → Connected) (slots : Slots) (d c : Connection) (slot : List Connected) → connected_at slot c.generation ≡ None
    → ((d.peer ≢ c.peer) × (slice_get (put_in f d slots) c.peer ≡ Some slot)) ⊎ ((d.peer ≡ c.peer) × (slice_get (put_in f d slots) c.peer ≡ Some (in_slot f d.generation slot)))
    → connected_of (put_in f d slots) c ≡ None
nothing_beside f slots d c slot is (inl (differ, at)) = found_by (put_in f d slots) c slot None at is
nothing_beside f slots d c slot is (inr (peer, at)) = found_by (put_in f d slots) c (in_slot f d.generation slot) None at (none_in f slot d.generation c.generation is)

-- what isn't there isn't there once something has changed
nothing_put : (f : Connected → Connected) (slots : Slots) (d c : Connection) (o : Option (List Connected)) → slice_get slots c.peer ≡ o
    → option_and_then (λ slot. connected_at slot c.generation) o ≡ None → connected_of (put_in f d slots) c ≡ None
nothing_put f slots d c None at is =
    ap (λ (s : Option (List Connected)). option_and_then (λ slot. connected_at slot c.generation) s) (at_nothing (in_slot f d.generation) slots d.peer c.peer at)
nothing_put f slots d c (Some slot) at is = nothing_beside f slots d c slot is (at_either (in_slot f d.generation) slots d.peer c.peer slot at)

pub put_nothing : (f : Connected → Connected) (slots : Slots) (d c : Connection) → connected_of slots c ≡ None → connected_of (put_in f d slots) c ≡ None
put_nothing f slots d c is = nothing_put f slots d c (slice_get slots c.peer) refl is

-- ---- one connection more

in_opened : (slot : List Connected) (c : ℕ) (x : Connected) → connected_at slot c ≡ Some x → connected_at (opened slot) c ≡ Some x
in_opened slot zero x is = is
in_opened slot (suc c) x is = at_behind slot fresh c x is

opened_beside : (slots : Slots) (p : ℕ) (c : Connection) (slot : List Connected) (x : Connected) → connected_at slot c.generation ≡ Some x
    → ((p ≢ c.peer) × (slice_get (changed_at opened p slots) c.peer ≡ Some slot)) ⊎ ((p ≡ c.peer) × (slice_get (changed_at opened p slots) c.peer ≡ Some (opened slot)))
    → connected_of (changed_at opened p slots) c ≡ Some x
opened_beside slots p c slot x is (inl (differ, at)) = found_by (changed_at opened p slots) c slot (Some x) at is
opened_beside slots p c slot x is (inr (peer, at)) = found_by (changed_at opened p slots) c (opened slot) (Some x) at (in_opened slot c.generation x is)

-- who is there stays as it is
pub opened_keeps : (slots : Slots) (p : ℕ) (c : Connection) (x : Connected) → connected_of slots c ≡ Some x → connected_of (changed_at opened p slots) c ≡ Some x
opened_keeps slots p c x is =
    let there = both_in (slice_get slots c.peer) c.generation x is in
    opened_beside slots p c there.0 x there.2 (at_either opened slots p c.peer there.0 there.1)

only_last : (slot : List Connected) (c : ℕ) (x : Connected) → slice_get slot c ≡ None → slice_get (opened slot) c ≡ Some x → x ≡ fresh
only_last [] zero x none is = let one : Some fresh ≡ Some x = is in (let same : fresh ≡ x = cc in sym same)
only_last [] (suc c) x none is = absurd (let never : None ≡ Some x = is in cc)
only_last (y ∷ slot) zero x none is = absurd (let never : Some y ≡ None = none in cc)
only_last (y ∷ slot) (suc c) x none is = only_last slot c x none is

-- who comes is fresh
fresh_in : (slot : List Connected) (c : ℕ) (x : Connected) → connected_at slot c ≡ None → connected_at (opened slot) c ≡ Some x → x ≡ fresh
fresh_in slot zero x none is = absurd (let never : None ≡ Some x = is in cc)
fresh_in slot (suc c) x none is = only_last slot c x none is

comes_beside : (slots : Slots) (p : ℕ) (c : Connection) (slot : List Connected) (x : Connected) → connected_at slot c.generation ≡ None
    → ((p ≢ c.peer) × (slice_get (changed_at opened p slots) c.peer ≡ Some slot)) ⊎ ((p ≡ c.peer) × (slice_get (changed_at opened p slots) c.peer ≡ Some (opened slot)))
    → connected_of (changed_at opened p slots) c ≡ Some x → x ≡ fresh
comes_beside slots p c slot x none (inl (differ, at)) is =
    absurd (let never : None ≡ Some x = sym (found_by (changed_at opened p slots) c slot None at none) ∙ is in cc)
comes_beside slots p c slot x none (inr (peer, at)) is =
    fresh_in slot c.generation x none (sym (found_by (changed_at opened p slots) c (opened slot) (connected_at (opened slot) c.generation) at refl) ∙ is)

comes_at : (slots : Slots) (p : ℕ) (c : Connection) (x : Connected) (o : Option (List Connected)) → slice_get slots c.peer ≡ o
    → option_and_then (λ slot. connected_at slot c.generation) o ≡ None → connected_of (changed_at opened p slots) c ≡ Some x → x ≡ fresh
comes_at slots p c x None at none is =
    absurd (let never : None ≡ Some x =
    sym (ap (λ (s : Option (List Connected)). option_and_then (λ slot. connected_at slot c.generation) s) (at_nothing opened slots p c.peer at)) ∙ is in cc)
comes_at slots p c x (Some slot) at none is = comes_beside slots p c slot x none (at_either opened slots p c.peer slot at) is

pub comes_fresh : (slots : Slots) (p : ℕ) (c : Connection) (x : Connected) → connected_of slots c ≡ None → connected_of (changed_at opened p slots) c ≡ Some x → x ≡ fresh
comes_fresh slots p c x none is = comes_at slots p c x (slice_get slots c.peer) refl none is
