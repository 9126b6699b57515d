-- The first connection whose numbers differ.
use Rattle.std.proofs.Common.{◌≡◌, ◌∙◌, ℕ, zero, suc, ◌+◌, ◌<◌, ◌≤◌, List, [], ◌∷◌, length, Option, Some, None, refl, sym, ap, subst, inl, inr, arith}
use Rattle.std.specs.Prelude.{◌⊎◌, IfSome, MatchOption, get_or, option_and_then, slice_get}
use Rattle.std.specs.Option.{option_map_or}
use Rattle.std.proofs.lemmas.Option.{slice_get_read, slice_get_within}
use Rattle.cb_state.specs.declared.connection.Connection.{Connection}
use Rattle.cb_hall.specs.declared.answer.Answer.{Answer}
use Rattle.cb_hall.specs.declared.connections.Connected.{Connected}
use Rattle.cb_hall.specs.declared.entry.Entry.{Entry}
use Rattle.cb_hall.specs.declared.entry.Entry.TheVariants.{Asked, Kick, Opened, Submitted}
use Rattle.cb_hall.specs.Connections.{AreCounted, Slots, connected_at, connected_of, latest_of, most_peers}
use Rattle.cb_hall.specs.Journal.{IsPast}
use Rattle.cb_hall.specs.Replica.{Leads, ReplicaState, opening, slots_after}
use Rattle.cb_hall.proofs.Leading.{step_slots}
use Rattle.cb_hall.proofs.Slots.{length_changed, length_first}
use Rattle.cb_audit.specs.Counting.{AreEven, AreOfAll, HasTrace, IsEarlier, IsEven, IsFirstAmong, IsFirstUneven, IsFoundAmong, IsOfPeer, IsOfPeers, granted, told_by}
use Rattle.cb_audit.specs.Order.{AreInOrder, AuditedTrace, IsBefore, trace_of}
use Rattle.cb_audit.proofs.Orders.{before_not, before_other, before_trans, has_or_not, less}

-- ---- the hall knows the connections of as many peers as at first

length_after : (slots : Slots) (entry : Entry) → length (slots_after slots entry) ≡ length slots
length_after slots (Asked connection question) = length_changed _ slots connection.peer
length_after slots (Kick connection) = length_changed _ slots connection.peer
length_after slots (Opened connection) = length_changed _ slots connection.peer
length_after slots (Submitted local) = refl

length_led : (old new : ReplicaState) (entries : List Entry) (answers : List Answer) → Leads old entries answers new → length new.connections ≡ length old.connections
length_led old new [] answers h = ap (λ (s : ReplicaState). length s.connections) h.1
length_led old new (entry ∷ entries) answers (told, next, others, step, all, rest) =
    length_led next new entries others rest ∙ ap (λ (s : Slots). length s) (step_slots old next entry told step) ∙ length_after old.connections entry

pub as_many : (base latest : ReplicaState) (entries : List Entry) → IsPast base entries latest → length latest.connections ≡ most_peers
as_many base latest entries past =
    length_led base latest entries past.answers past.since ∙ length_led opening base past.dropped past.told past.before ∙ length_first

some_slot : (o : Option (List Connected)) (generation : ℕ) → 0 < option_map_or (λ connected. connected.count) (option_and_then (λ slot. connected_at slot generation) o) 0
    → (slot : List Connected) × (o ≡ Some slot) × (0 < option_map_or (λ connected. connected.count) (connected_at slot generation) 0)
some_slot None generation some_count = absurd (omega (arith, some_count))
some_slot (Some slot) generation some_count = (slot, refl, some_count)

some_at : (slot : List Connected) (generation : ℕ) → 0 < option_map_or (λ connected. connected.count) (connected_at slot generation) 0 → (0 < generation) × (generation ≤ length slot)
some_at slot zero some_count = absurd (omega (arith, some_count))
some_at [] (suc place) some_count = absurd (omega (arith, some_count))
some_at (c ∷ slot) (suc zero) some_count = (omega arith, omega arith)
some_at (c ∷ slot) (suc (suc place)) some_count = let rest = (some_at slot (suc place) some_count).1 in (omega arith, omega (arith, rest))

pub of_all : (slots : Slots) → length slots ≡ most_peers → AreOfAll slots
of_all slots long connection some_count =
    let there = some_slot (slice_get slots connection.peer) connection.generation some_count in
    let low = slice_get_within slots connection.peer there.0 there.1 in
    let within = some_at there.0 connection.generation there.2 in
    let latest : latest_of slots connection.peer ≡ length there.0 = ap (λ (o : Option (List Connected)). option_map_or length o 0) there.1 in
    (omega (arith, low, long), (refl, within.0, (let w = within.1 in omega (arith, w, latest))))

-- ---- none was granted more than all calls

few_of : (most : ℕ) (o : Option Connected) → IfSome o (λ connected. connected.count ≤ most) → option_map_or (λ connected. connected.count) o 0 ≤ most
few_of most None is = omega arith
few_of most (Some connected) is = is

pub granted_few : (slots : Slots) (most : ℕ) → AreCounted most slots → most ≤ 4611686018427387904 → (connection : Connection) → granted slots connection ≤ 4611686018427387904
granted_few slots most are few connection = let own = few_of most (connected_of slots connection) (are connection) in omega (arith, own, few)

-- ---- among some connections

-- those of a peer, up to a generation
abbrev pub AreEvenUpTo : Slots → List AuditedTrace → ℕ → ℕ → Type 0
AreEvenUpTo slots audited peer place = (other : Connection) → other.peer ≡ peer → 0 < other.generation → other.generation ≤ place → IsEven slots audited other

is_next : (slots : Slots) (audited : List AuditedTrace) (peer place : ℕ) (other : Connection) → other.peer ≡ peer → 0 < other.generation → other.generation ≤ place + 1
    → IsEven slots audited (record { peer = peer; generation = place + 1 }) → AreEvenUpTo slots audited peer place → ((other.generation < place + 1) ⊎ (place + 1 ≤ other.generation)) → IsEven slots audited other
is_next slots audited peer place other p some_generation low even are (inl h) = are other p some_generation (omega (arith, h))
is_next slots audited peer place other p some_generation low even are (inr h) =
    let g : other.generation ≡ place + 1 = omega (arith, low, h) in
    let same : record { peer = peer; generation = place + 1 } ≡ other =
    ap (λ (n : ℕ). record { peer = n; generation = place + 1 }) (sym p) ∙ ap (λ (n : ℕ). record { peer = other.peer; generation = n }) (sym g) in
    subst (IsEven slots audited) same even

pub even_next : (slots : Slots) (audited : List AuditedTrace) (peer place : ℕ) → AreEvenUpTo slots audited peer place → IsEven slots audited (record { peer = peer; generation = place + 1 })
    → AreEvenUpTo slots audited peer (place + 1)
even_next slots audited peer place are even other p some_generation low = is_next slots audited peer place other p some_generation low even are (less other.generation (place + 1))

before_up : (slots : Slots) (audited : List AuditedTrace) (peer place : ℕ) (other : Connection) → AreEvenUpTo slots audited peer place → IsBefore other (record { peer = peer; generation = place + 1 })
    → IsOfPeer slots peer other → IsEven slots audited other
before_up slots audited peer place other are (inl h) (p, some_generation, low) = absurd (omega (arith, h, p))
before_up slots audited peer place other are (inr (e, h)) (p, some_generation, low) = are other p some_generation (omega (arith, h))

pub first_up : (slots : Slots) (audited : List AuditedTrace) (peer place : ℕ) → AreEvenUpTo slots audited peer place → (IsEven slots audited (record { peer = peer; generation = place + 1 }) → ⊥)
    → IsFirstAmong slots audited (IsOfPeer slots peer) (record { peer = peer; generation = place + 1 })
first_up slots audited peer place are differ =
    record { uneven = differ; earlier = λ other before is. before_up slots audited peer place other are before is }

pub even_up_none : (slots : Slots) (audited : List AuditedTrace) (peer : ℕ) → AreEvenUpTo slots audited peer 0
even_up_none slots audited peer other p some_generation low = absurd (omega (arith, some_generation, low))

pub even_up_all : (slots : Slots) (audited : List AuditedTrace) (peer place : ℕ) → AreEvenUpTo slots audited peer place → latest_of slots peer ≤ place → (other : Connection) → IsOfPeer slots peer other → IsEven slots audited other
even_up_all slots audited peer place are past other (p, some_generation, low) = are other p some_generation (omega (arith, low, past))

-- those of the first peers
abbrev pub AreEvenBelow : Slots → List AuditedTrace → ℕ → Type 0
AreEvenBelow slots audited peers = (other : Connection) → IsOfPeers slots peers other → IsEven slots audited other

below_next : (slots : Slots) (audited : List AuditedTrace) (peer : ℕ) (other : Connection) → AreEvenBelow slots audited peer → ((other : Connection) → IsOfPeer slots peer other → IsEven slots audited other)
    → IsOfPeers slots (peer + 1) other → ((other.peer < peer) ⊎ (peer ≤ other.peer)) → IsEven slots audited other
below_next slots audited peer other are even (low, rest) (inl h) = are other (h, rest)
below_next slots audited peer other are even (low, (same, some_generation, within)) (inr h) =
    let p : other.peer ≡ peer = omega (arith, low, h) in
    even other (p, some_generation, subst (λ (n : ℕ). other.generation ≤ latest_of slots n) p within)

pub even_below : (slots : Slots) (audited : List AuditedTrace) (peer : ℕ) → AreEvenBelow slots audited peer → ((other : Connection) → IsOfPeer slots peer other → IsEven slots audited other)
    → AreEvenBelow slots audited (peer + 1)
even_below slots audited peer are even other is = below_next slots audited peer other are even is (less other.peer peer)

pub even_below_none : (slots : Slots) (audited : List AuditedTrace) → AreEvenBelow slots audited 0
even_below_none slots audited other (low, rest) = absurd (omega (arith, low))

pub even_below_all : (slots : Slots) (audited : List AuditedTrace) (peers : ℕ) → AreEvenBelow slots audited peers → most_peers ≤ peers → (other : Connection) → IsOfPeers slots most_peers other → IsEven slots audited other
even_below_all slots audited peers are past other (low, rest) = are other (omega (arith, low, past), rest)

before_below : (slots : Slots) (audited : List AuditedTrace) (peer : ℕ) (found other : Connection) → AreEvenBelow slots audited peer → IsFirstAmong slots audited (IsOfPeer slots peer) found → found.peer ≡ peer
    → IsBefore other found → IsOfPeers slots most_peers other → IsEven slots audited other
before_below slots audited peer found other are first p (inl h) (low, rest) = are other (omega (arith, h, p), rest)
before_below slots audited peer found other are first p (inr (e, h)) (low, (same, some_generation, within)) =
    first.earlier other (inr (e, h)) (e ∙ p, some_generation, subst (λ (n : ℕ). other.generation ≤ latest_of slots n) (e ∙ p) within)

pub first_below : (slots : Slots) (audited : List AuditedTrace) (peer : ℕ) (found : Connection) → AreEvenBelow slots audited peer → IsFirstAmong slots audited (IsOfPeer slots peer) found → found.peer ≡ peer
    → IsFirstAmong slots audited (IsOfPeers slots most_peers) found
first_below slots audited peer found are first p =
    record { uneven = first.uneven; earlier = λ other before is. before_below slots audited peer found other are first p before is }

-- those with a trace, up to a place
abbrev pub AreEvenWithTrace : Slots → List AuditedTrace → ℕ → Type 0
AreEvenWithTrace slots audited n = (i : ℕ) (one : AuditedTrace) → i < n → slice_get audited i ≡ Some one → IsEven slots audited one.connection

pub even_with_none : (slots : Slots) (audited : List AuditedTrace) → AreEvenWithTrace slots audited 0
even_with_none slots audited i one low at = absurd (omega (arith, low))

with_next : (slots : Slots) (audited : List AuditedTrace) (n i : ℕ) (here one : AuditedTrace) → AreEvenWithTrace slots audited n → slice_get audited n ≡ Some here → IsEven slots audited here.connection
    → i < n + 1 → slice_get audited i ≡ Some one → ((i < n) ⊎ (n ≤ i)) → IsEven slots audited one.connection
with_next slots audited n i here one are at even low bt (inl h) = are i one h bt
with_next slots audited n i here one are at even low bt (inr h) =
    let same : here ≡ one = (let some_same : Some here ≡ Some one = sym at ∙ ap (slice_get audited) (let e : n ≡ i = omega (arith, low, h) in e) ∙ bt in cc) in
    subst (λ (a : AuditedTrace). IsEven slots audited a.connection) same even

pub even_with_next : (slots : Slots) (audited : List AuditedTrace) (n : ℕ) (here : AuditedTrace) → AreEvenWithTrace slots audited n → slice_get audited n ≡ Some here → IsEven slots audited here.connection
    → AreEvenWithTrace slots audited (n + 1)
even_with_next slots audited n here are at even i one low bt = with_next slots audited n i here one are at even low bt (less i n)

not_behind_of : (audited : List AuditedTrace) (n i : ℕ) (here one : AuditedTrace) → AreInOrder audited → slice_get audited n ≡ Some here → slice_get audited i ≡ Some one → IsBefore one.connection here.connection
    → ((n < i) ⊎ (i ≤ n)) → n ≤ i → ⊥
not_behind_of audited n i here one order at bt before (inl h) k =
    before_not one.connection one.connection (before_trans one.connection here.connection one.connection before (order n i here one h at bt)) refl
not_behind_of audited n i here one order at bt before (inr h) k =
    let same : here ≡ one = (let some_same : Some here ≡ Some one = sym at ∙ ap (slice_get audited) (let e : n ≡ i = omega (arith, h, k) in e) ∙ bt in cc) in
    before_not one.connection here.connection before (sym (ap (λ (a : AuditedTrace). a.connection) same))

-- a trace whose connection comes before another's stands before it
pub stands_before : (audited : List AuditedTrace) (n i : ℕ) (here one : AuditedTrace) → AreInOrder audited → slice_get audited n ≡ Some here → slice_get audited i ≡ Some one → IsBefore one.connection here.connection
    → ((i < n) ⊎ (n ≤ i)) → i < n
stands_before audited n i here one order at bt before (inl h) = h
stands_before audited n i here one order at bt before (inr h) = absurd (not_behind_of audited n i here one order at bt before (less n i) h)

with_before : (slots : Slots) (audited : List AuditedTrace) (n : ℕ) (here : AuditedTrace) (other : Connection) → AreInOrder audited → AreEvenWithTrace slots audited n → slice_get audited n ≡ Some here
    → IsBefore other here.connection → HasTrace audited other → IsEven slots audited other
with_before slots audited n here other order are at before (i, (one, bt, is)) =
    let low = stands_before audited n i here one order at bt (subst (λ (c : Connection). IsBefore c here.connection) (sym is) before) (less i n) in
    subst (IsEven slots audited) is (are i one low bt)

pub first_with : (slots : Slots) (audited : List AuditedTrace) (n : ℕ) (here : AuditedTrace) → AreInOrder audited → AreEvenWithTrace slots audited n → slice_get audited n ≡ Some here
    → (IsEven slots audited here.connection → ⊥) → IsFirstAmong slots audited (HasTrace audited) here.connection
first_with slots audited n here order are at differ =
    record { uneven = differ; earlier = λ other before has. with_before slots audited n here other order are at before has }

pub even_with_all : (slots : Slots) (audited : List AuditedTrace) (n : ℕ) → AreEvenWithTrace slots audited n → length audited ≤ n → (other : Connection) → HasTrace audited other → IsEven slots audited other
even_with_all slots audited n are past other (i, (one, at, is)) =
    let low = slice_get_within audited i one at in subst (IsEven slots audited) is (are i one (omega (arith, low, past)) at)

-- by what a loop over the traces knows
at_item : (audited : List AuditedTrace) (n : ℕ) (here : AuditedTrace) → n < length audited → here ≡ get_or audited n here → slice_get audited n ≡ Some here
at_item audited n here low is = slice_get_read audited (length audited) n here refl low is

pub even_next_at : (slots : Slots) (audited : List AuditedTrace) (n : ℕ) (here : AuditedTrace) → AreEvenWithTrace slots audited n → n < length audited → here ≡ get_or audited n here → IsEven slots audited here.connection
    → AreEvenWithTrace slots audited (n + 1)
even_next_at slots audited n here are low is even = even_with_next slots audited n here are (at_item audited n here low is) even

pub first_with_at : (slots : Slots) (audited : List AuditedTrace) (n : ℕ) (here : AuditedTrace) → AreInOrder audited → AreEvenWithTrace slots audited n → n < length audited → here ≡ get_or audited n here
    → (IsEven slots audited here.connection → ⊥) → IsFirstAmong slots audited (HasTrace audited) here.connection
first_with_at slots audited n here order are low is differ = first_with slots audited n here order are (at_item audited n here low is) differ

-- ---- among all

-- a connection has a trace, or the hall knows it, or it has no numbers
known_even : (slots : Slots) (audited : List AuditedTrace) (other : Connection) → AreOfAll slots → (IsOfPeers slots most_peers other → IsEven slots audited other) → trace_of audited other ≡ None
    → ((0 < granted slots other) ⊎ (granted slots other ≤ 0)) → IsEven slots audited other
known_even slots audited other are even none (inl h) = even (are other h)
known_even slots audited other are even none (inr h) = (let zero_granted : granted slots other ≡ 0 = omega (arith, h) in zero_granted) ∙ sym (ap told_by none)

any_even : (slots : Slots) (audited : List AuditedTrace) (other : Connection) → AreOfAll slots → (HasTrace audited other → IsEven slots audited other) → (IsOfPeers slots most_peers other → IsEven slots audited other)
    → (HasTrace audited other ⊎ (trace_of audited other ≡ None)) → IsEven slots audited other
any_even slots audited other are with_trace known (inl has) = with_trace has
any_even slots audited other are with_trace known (inr none) = known_even slots audited other are known none (less 0 (granted slots other))

pub each_even : (slots : Slots) (audited : List AuditedTrace) (other : Connection) → AreOfAll slots → (HasTrace audited other → IsEven slots audited other) → (IsOfPeers slots most_peers other → IsEven slots audited other)
    → IsEven slots audited other
each_even slots audited other are with_trace known = any_even slots audited other are with_trace known (has_or_not audited other)

-- what one search found has nothing uneven before what both found first
up_to : (slots : Slots) (audited : List AuditedTrace) (Kind : Connection → Type 0) (found : Option Connection) (first other : Connection) → IsFoundAmong slots audited Kind found
    → ((connection : Connection) → found ≡ Some connection → IsBefore connection first → ⊥) → IsBefore other first → Kind other → IsEven slots audited other
up_to slots audited Kind None first other is not_behind before kind = is other kind
up_to slots audited Kind (Some connection) first other is not_behind before kind = is.earlier other (before_other other first connection before (not_behind connection refl)) kind

uneven_of : (slots : Slots) (audited : List AuditedTrace) (Kind : Connection → Type 0) (found : Option Connection) (first : Connection) → IsFoundAmong slots audited Kind found → found ≡ Some first
    → IsEven slots audited first → ⊥
uneven_of slots audited Kind None first is same even = (let never : None ≡ Some first = same in absurd (cc))
uneven_of slots audited Kind (Some connection) first is same even =
    let e : connection ≡ first = (let some_same : Some connection ≡ Some first = same in cc) in is.uneven (subst (IsEven slots audited) (sym e) even)

uneven_either : (slots : Slots) (audited : List AuditedTrace) (one other : Option Connection) (first : Connection) → IsFoundAmong slots audited (HasTrace audited) one → IsFoundAmong slots audited (IsOfPeers slots most_peers) other
    → ((one ≡ Some first) ⊎ (other ≡ Some first)) → IsEven slots audited first → ⊥
uneven_either slots audited one other first a b (inl same) even = uneven_of slots audited (HasTrace audited) one first a same even
uneven_either slots audited one other first a b (inr same) even = uneven_of slots audited (IsOfPeers slots most_peers) other first b same even

none_among : (slots : Slots) (audited : List AuditedTrace) (Kind : Connection → Type 0) (found : Option Connection) → IsFoundAmong slots audited Kind found → found ≡ None → (other : Connection) → Kind other → IsEven slots audited other
none_among slots audited Kind found is none = subst (IsFoundAmong slots audited Kind) none is

pub first_of_all : (slots : Slots) (audited : List AuditedTrace) (one other result : Option Connection) → AreOfAll slots → IsFoundAmong slots audited (HasTrace audited) one → IsFoundAmong slots audited (IsOfPeers slots most_peers) other
    → (result ≡ None → (one ≡ None) × (other ≡ None)) → IfSome result (IsEarlier one other) → MatchOption result (AreEven slots audited) (IsFirstUneven slots audited)
first_of_all slots audited one other None are a b none found =
    λ connection. each_even slots audited connection are (none_among slots audited (HasTrace audited) one a (none refl).0 connection) (none_among slots audited (IsOfPeers slots most_peers) other b (none refl).1 connection)
first_of_all slots audited one other (Some first) are a b none found =
    record {
      uneven = uneven_either slots audited one other first a b found.is;
      earlier = λ connection before.
          each_even slots audited connection are
          (up_to slots audited (HasTrace audited) one first connection a (λ c e. found.not_behind c (inl e)) before)
          (up_to slots audited (IsOfPeers slots most_peers) other first connection b (λ c e. found.not_behind c (inr e)) before);
    }
