-- What is known of connections, and how it changes.
use Rattle.std.proofs.Common.{◌≡◌, ◌∙◌, ◌≤◌, ◌<◌, ◌-◌, ℕ, zero, suc, List, [], ◌∷◌, ◌++◌, Option, None, Some, set, replicate, refl, sym, ap, arith}
use Rattle.std.specs.Prelude.{Err, IfSome, Ok, OnOk, Result, get_or, length, option_and_then, slice_get}
use Rattle.std.proofs.lemmas.List.{length-replicate}
use Rattle.std.proofs.lemmas.Option.{slice_get-get_or, slice_get_past}
use Rattle.cb_base.specs.declared.fault.Fault.{Fault}
use Rattle.cb_state.specs.declared.connection.Connection.{Connection}
use Rattle.cb_hall.specs.declared.connections.Connected.{Connected}
use Rattle.cb_hall.specs.Connections.{AreCounted, Slots, changed_at, connected_at, connected_of, counted, first_slots, fresh, in_slot, kicked, most_peers, opened, put_in}

-- ---- one place of a list

pub changed_none : {A : Type 0} (f : A → A) (xs : List A) (i : ℕ) → slice_get xs i ≡ None → changed_at f i xs ≡ xs
unfolding changed_at
changed_none f [] i none = refl
changed_none f (x ∷ xs) zero none = absurd cc
changed_none f (x ∷ xs) (suc i) none = ap (λ (ys : List _). x ∷ ys) (changed_none f xs i none)

pub changed_some : {A : Type 0} (f : A → A) (xs : List A) (i : ℕ) (x : A) → slice_get xs i ≡ Some x → changed_at f i xs ≡ set xs i (f x)
unfolding changed_at
changed_some f [] i x some = absurd (let never : None ≡ Some x = some in cc)
changed_some f (y ∷ xs) zero x some = let same : y ≡ x = (let one : Some y ≡ Some x = some in cc) in ap (λ (z : _). f z ∷ xs) same
changed_some f (y ∷ xs) (suc i) x some = ap (λ (ys : List _). y ∷ ys) (changed_some f xs i x some)

weaken : {A : Type 0} (P Q : A → Type 0) (off : (x : A) → P x → Q x) (o : Option A) → IfSome o P → IfSome o Q
weaken P Q off None is = tt
weaken P Q off (Some x) is = off x is

-- what holds of each element, and of each that is changed
change_each : {A : Type 0} (P Q : A → Type 0) (f : A → A) (on : (x : A) → P x → Q (f x)) (off : (x : A) → P x → Q x) (xs : List A) (i : ℕ)
    → ((p : ℕ) → IfSome (slice_get xs p) P) → (p : ℕ) → IfSome (slice_get (changed_at f i xs) p) Q
unfolding changed_at
change_each P Q f on off [] i are p = tt
change_each P Q f on off (x ∷ xs) zero are zero = on x (are 0)
change_each P Q f on off (x ∷ xs) zero are (suc p) = weaken P Q off (slice_get xs p) (are (suc p))
change_each P Q f on off (x ∷ xs) (suc i) are zero = off x (are 0)
change_each P Q f on off (x ∷ xs) (suc i) are (suc p) = change_each P Q f on off xs i (λ q. are (suc q)) p

-- ---- one connection

-- the connections of a peer, none of which has asked more often than this
abbrev Below : ℕ → List Connected → Type 0
Below most slot = (generation : ℕ) → IfSome (connected_at slot generation) (λ connected. connected.count ≤ most)

-- one of them becomes another, which has asked once more at the most
below_changed : (most : ℕ) (f : Connected → Connected) → ((c : Connected) → (f c).count ≤ suc c.count) → (slot : List Connected) (generation : ℕ) → Below most slot
    → Below (suc most) (in_slot f generation slot)
below_changed most f up slot zero are g = weaken (λ c. c.count ≤ most) (λ c. c.count ≤ suc most) (λ c low. omega (arith, low)) (connected_at slot g) (are g)
below_changed most f up slot (suc place) are zero = tt
below_changed most f up slot (suc place) are (suc g) =
    change_each (λ c. c.count ≤ most) (λ c. c.count ≤ suc most) f (λ c low. let grown = up c in omega (arith, low, grown)) (λ c low. omega (arith, low)) slot place (λ p. are (suc p)) g

below_more : (most : ℕ) (slot : List Connected) → Below most slot → Below (suc most) slot
below_more most slot are g = weaken (λ c. c.count ≤ most) (λ c. c.count ≤ suc most) (λ c low. omega (arith, low)) (connected_at slot g) (are g)

get_behind : {A : Type 0} (P : A → Type 0) (xs : List A) (x : A) → P x → ((p : ℕ) → IfSome (slice_get xs p) P) → (p : ℕ) → IfSome (slice_get (xs ++ x ∷ []) p) P
get_behind P [] x is are zero = is
get_behind P [] x is are (suc p) = tt
get_behind P (y ∷ xs) x is are zero = are 0
get_behind P (y ∷ xs) x is are (suc p) = get_behind P xs x is (λ q. are (suc q)) p

below_opened : (most : ℕ) (slot : List Connected) → Below most slot → Below (suc most) (opened slot)
below_opened most slot are zero = tt
below_opened most slot are (suc g) =
    get_behind (λ c. c.count ≤ suc most) slot fresh (omega arith) (λ p. weaken (λ c. c.count ≤ most) (λ c. c.count ≤ suc most) (λ c low. omega (arith, low)) (slice_get slot p) (are (suc p))) g

-- ---- all connections

of_each : (most : ℕ) (o : Option (List Connected)) → ((g : ℕ) → IfSome (option_and_then (λ slot. connected_at slot g) o) (λ c. c.count ≤ most)) → IfSome o (Below most)
of_each most None are = tt
of_each most (Some slot) are = are

each_of : (most g : ℕ) (o : Option (List Connected)) → IfSome o (Below most) → IfSome (option_and_then (λ slot. connected_at slot g) o) (λ c. c.count ≤ most)
each_of most g None is = tt
each_of most g (Some slot) is = is g

changed_counted : (most peer : ℕ) (f : List Connected → List Connected) (slots : Slots) → ((slot : List Connected) → Below most slot → Below (suc most) (f slot))
    → AreCounted most slots → AreCounted (suc most) (changed_at f peer slots)
changed_counted most peer f slots on are connection =
    each_of (suc most) connection.generation (slice_get (changed_at f peer slots) connection.peer)
    (change_each (Below most) (Below (suc most)) f on (below_more most) slots peer
    (λ p. of_each most (slice_get slots p) (λ g. are (record { peer = p; generation = g }))) connection.peer)

pub counted_more : (most : ℕ) (slots : Slots) → AreCounted most slots → AreCounted (suc most) slots
counted_more most slots are connection = weaken (λ c. c.count ≤ most) (λ c. c.count ≤ suc most) (λ c low. omega (arith, low)) (connected_of slots connection) (are connection)

-- a question more, a kick, a connection more
pub counted_asked : (most : ℕ) (connection : Connection) (slots : Slots) → AreCounted most slots → AreCounted (suc most) (put_in counted connection slots)
counted_asked most connection slots are =
    changed_counted most connection.peer (in_slot counted connection.generation) slots (λ slot low. below_changed most counted (λ c. omega arith) slot connection.generation low) are

pub counted_kicked : (most : ℕ) (connection : Connection) (slots : Slots) → AreCounted most slots → AreCounted (suc most) (put_in kicked connection slots)
counted_kicked most connection slots are =
    changed_counted most connection.peer (in_slot kicked connection.generation) slots (λ slot low. below_changed most kicked (λ c. omega arith) slot connection.generation low) are

pub counted_opened : (most peer : ℕ) (slots : Slots) → AreCounted most slots → AreCounted (suc most) (changed_at opened peer slots)
counted_opened most peer slots are = changed_counted most peer opened slots (below_opened most) are

get_replicate : {A : Type 0} (P : A → Type 0) (n : ℕ) (x : A) → P x → (p : ℕ) → IfSome (slice_get (replicate n x) p) P
get_replicate P zero x is p = tt
get_replicate P (suc n) x is zero = is
get_replicate P (suc n) x is (suc p) = get_replicate P n x is p

below_fresh : Below 0 (fresh ∷ [])
below_fresh zero = tt
below_fresh (suc zero) = omega arith
below_fresh (suc (suc g)) = tt

pub first_counted : AreCounted 0 first_slots
unfolding first_slots
first_counted connection = each_of 0 connection.generation (slice_get first_slots connection.peer) (get_replicate (Below 0) most_peers (fresh ∷ []) below_fresh connection.peer)

-- ---- by generation and by peer

before : (place : ℕ) → place ≡ suc place - 1
before place = omega arith

pub at_more : (slot : List Connected) (generation : ℕ) → 0 < generation → connected_at slot generation ≡ slice_get slot (generation - 1)
at_more slot zero some = absurd (omega arith)
at_more slot (suc place) some = ap (slice_get slot) (before place)

pub at_within : (slot : List Connected) (generation : ℕ) (c : Connected) → 0 < generation → generation ≤ length slot → c ≡ get_or slot (generation - 1) c → Some c ≡ connected_at slot generation
at_within slot generation c some within is =
    ap Some is ∙ sym (slice_get-get_or slot (generation - 1) c (omega (arith, some, within))) ∙ sym (at_more slot generation some)

pub at_past : (slot : List Connected) (generation : ℕ) → length slot < generation → None ≡ connected_at slot generation
at_past slot generation past = sym (at_more slot generation (omega (arith, past)) ∙ slice_get_past slot (generation - 1) (omega (arith, past)))

in_more : (f : Connected → Connected) (slot : List Connected) (generation : ℕ) → 0 < generation → in_slot f generation slot ≡ changed_at f (generation - 1) slot
in_more f slot zero some = absurd (omega arith)
in_more f slot (suc place) some = ap (λ (n : ℕ). changed_at f n slot) (before place)

-- the one of a generation, within the list
pub slot_put : (slot : List Connected) (generation : ℕ) (c : Connected) → 0 < generation → generation ≤ length slot → set slot (generation - 1) c ≡ in_slot (λ _. c) generation slot
slot_put slot generation c some within =
    let low : generation - 1 < length slot = omega (arith, some, within) in
    sym (in_more (λ _. c) slot generation some ∙ changed_some (λ _. c) slot (generation - 1) (get_or slot (generation - 1) c) (slice_get-get_or slot (generation - 1) c low))

-- beyond the list
pub slot_past : (slot : List Connected) (generation : ℕ) (f : Connected → Connected) → length slot < generation → slot ≡ in_slot f generation slot
slot_past slot zero f past = absurd (omega arith)
slot_past slot (suc place) f past = sym (changed_none f slot place (slice_get_past slot place (omega (arith, past))))

pub slot_none : (slot : List Connected) (generation : ℕ) (f : Connected → Connected) → generation ≡ 0 → slot ≡ in_slot f generation slot
slot_none slot zero f none = refl
slot_none slot (suc place) f none = absurd (omega (arith, none))

-- a peer's slot becomes another
pub slots_put : (slots : Slots) (peer : ℕ) (f : List Connected → List Connected) (old new : List Connected) → peer < length slots → old ≡ get_or slots peer old → new ≡ f old
    → set slots peer new ≡ changed_at f peer slots
slots_put slots peer f old new low is same =
    ap (λ (s : List Connected). set slots peer s) same ∙ sym (changed_some f slots peer old (slice_get-get_or slots peer old low ∙ ap Some (sym is)))

pub slots_past : (slots : Slots) (peer : ℕ) (f : List Connected → List Connected) → length slots ≤ peer → slots ≡ changed_at f peer slots
slots_past slots peer f past = sym (changed_none f slots peer (slice_get_past slots peer past))

-- ---- by what was there

set_same : {A : Type 0} (xs : List A) (i : ℕ) (x : A) → slice_get xs i ≡ Some x → set xs i x ≡ xs
set_same [] i x is = refl
set_same (y ∷ xs) zero x is = let same : x ≡ y = (let one : Some y ≡ Some x = is in cc) in ap (λ (z : _). z ∷ xs) same
set_same (y ∷ xs) (suc i) x is = ap (λ (ys : List _). y ∷ ys) (set_same xs i x is)

slot_like : (f : Connected → Connected) (slot : List Connected) (generation : ℕ) (c : Connected) → connected_at slot generation ≡ Some c
    → in_slot (λ _. f c) generation slot ≡ in_slot f generation slot
slot_like f slot zero c is = absurd (let never : None ≡ Some c = is in cc)
slot_like f slot (suc place) c is = changed_some (λ _. f c) slot place c is ∙ sym (changed_some f slot place c is)

slot_gone : (f : Connected → Connected) (slot : List Connected) (generation : ℕ) → connected_at slot generation ≡ None → in_slot f generation slot ≡ slot
slot_gone f slot zero is = refl
slot_gone f slot (suc place) is = changed_none f slot place is

like_at : (f : Connected → Connected) (slots : Slots) (connection : Connection) (c : Connected) (o : Option (List Connected)) → slice_get slots connection.peer ≡ o
    → option_and_then (λ slot. connected_at slot connection.generation) o ≡ Some c → put_in (λ _. f c) connection slots ≡ put_in f connection slots
like_at f slots connection c None at is = absurd (let never : None ≡ Some c = is in cc)
like_at f slots connection c (Some slot) at is =
    changed_some (in_slot (λ _. f c) connection.generation) slots connection.peer slot at ∙ ap (λ (s : List Connected). set slots connection.peer s) (slot_like f slot connection.generation c is)
    ∙ sym (changed_some (in_slot f connection.generation) slots connection.peer slot at)

gone_at : (f : Connected → Connected) (slots : Slots) (connection : Connection) (o : Option (List Connected)) → slice_get slots connection.peer ≡ o
    → option_and_then (λ slot. connected_at slot connection.generation) o ≡ None → put_in f connection slots ≡ slots
gone_at f slots connection None at is = changed_none (in_slot f connection.generation) slots connection.peer at
gone_at f slots connection (Some slot) at is =
    changed_some (in_slot f connection.generation) slots connection.peer slot at ∙ ap (λ (s : List Connected). set slots connection.peer s) (slot_gone f slot connection.generation is)
    ∙ set_same slots connection.peer slot at

-- what is known of one becomes another, by what was known of it
pub put_like : (f : Connected → Connected) (slots : Slots) (connection : Connection) (c : Connected) → connected_of slots connection ≡ Some c
    → put_in (λ _. f c) connection slots ≡ put_in f connection slots
put_like f slots connection c is = like_at f slots connection c (slice_get slots connection.peer) refl is

-- of one that isn't there nothing changes
pub put_none : (f : Connected → Connected) (slots : Slots) (connection : Connection) → connected_of slots connection ≡ None → slots ≡ put_in f connection slots
put_none f slots connection is = sym (gone_at f slots connection (slice_get slots connection.peer) refl is)

pub length_changed : {A : Type 0} (f : A → A) (xs : List A) (i : ℕ) → length (changed_at f i xs) ≡ length xs
unfolding changed_at
length_changed f [] i = refl
length_changed f (x ∷ xs) zero = refl
length_changed f (x ∷ xs) (suc i) = ap suc (length_changed f xs i)

pub replicate_more : {A : Type 0} (n : ℕ) (x : A) → replicate n x ++ x ∷ [] ≡ replicate (suc n) x
replicate_more zero x = refl
replicate_more (suc n) x = ap (λ (xs : List _). x ∷ xs) (replicate_more n x)

-- as many as at first
pub length_first : length first_slots ≡ most_peers
unfolding first_slots
length_first = length-replicate most_peers (fresh ∷ [])

pub first_like : (slots : Slots) → slots ≡ replicate most_peers (fresh ∷ []) → slots ≡ first_slots
unfolding first_slots
first_like slots are = are

pub slot_opened : (slots : Slots) (peer : ℕ) (old new : List Connected) (result : Result Unit Fault) → peer < length slots → old ≡ get_or slots peer old → OnOk result (new ≡ opened old)
    → OnOk result (set slots peer new ≡ changed_at opened peer slots)
slot_opened slots peer old new (Ok done) low is same = slots_put slots peer opened old new low is same
slot_opened slots peer old new (Err fault) low is same = tt
