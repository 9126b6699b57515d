-- Each move of a hand keeps the rule of its ring.
use Rattle.std.proofs.Common.{◌≡◌, ◌≢◌, ℕ, ◌+◌, ◌-◌, ◌<◌, ◌≤◌, inl, inr, ⊎_elim, List, [], ◌∷◌, ◌++◌, length, set, take, drop, get_or, replicate, refl, sym, ap, ap₂, subst, ◌∙◌, arith}
use Rattle.std.specs.List.{All, sum_by, range_with_len}
use Rattle.std.proofs.lemmas.Bool.{cases_lt}
use Rattle.std.proofs.lemmas.List.{map-append, length-append, length-map, length-replicate, length_push, get_or-set_same, get_or-set_other, get_or-replicate, get_or_past, get_or_push, get_or_append_left, nil_from_length}
use Rattle.std.proofs.lemmas.List.Sums.{sum_by-cons, sum_by_push, sum_by-append}
use Rattle.std.proofs.lemmas.List.FromFn.{length-range_with_len}
use Rattle.std.proofs.lemmas.List.Elements.{All-nil, All-cons, All-head, All-tail, All-same, All-push, All-append, All-drop, All-weaker}
use mathlib.Core.Option.{some, some-ne-none}
use lib.ListN.{get_elem?}
use Rattle.crossbeam_queue.specs.Fifo.{Pushes, Pops, Forks, Merges}
use Rattle.crossbeam_queue.proofs.Lists.{at_set, at_snoc}
use Rattle.cb_crew.specs.Desks.{Desks, DesksReached, opening_desks, held_by, claimed, given}
use Rattle.cb_crew.specs.Desks as places
use Rattle.cb_crew.proofs.DesksLaws.{handlers_stay}
use Rattle.cb_crew.specs.Ring.{DeskName, Shown, CrewStage, making, running, finishing, IsOfCrew, IsHeld, peers_of}
use Rattle.cb_crew.specs.RingRule.{RingCrew, HandView, numbers_of, held_peers, EachOnce, IsHandOfCrew, Holds, AreDesks, AtStage, IsRing, idle_view, first_view, grown_crew, grown_view, made_crew, made_view, at_stage, running_view, hired_view, hiring_view, claimed_view, given_view, joined_view, kept_view}
use Rattle.cb_crew.proofs.RingSums.{ones, range_push, range_weighs, one_below, once_moved, once_forked, once_merged, parts_of, first_below, own_numbers, other_numbers, alone}

-- ---- a fact of each hand

abbrev pub EachHand : {X : Type 0} → (HandView X → Type 0) → List (HandView X) → Type 0
EachHand {X} F views = (seat : ℕ) (v : HandView X) → get_elem? views seat ≡ some v → F v

-- one hand's view changed
each_set : {X : Type 0} (F : HandView X → Type 0) (views : List (HandView X)) (seat : ℕ) (w : HandView X) → F w → ((j : ℕ) (u : HandView X) → j ≢ seat → get_elem? views j ≡ some u → F u) → EachHand F (set views seat w)
each_set F views seat w mine others j u e =
    ⊎_elim (λ (x : (j ≡ seat) × (w ≡ u)). subst F x.1 mine) (λ (x : (j ≢ seat) × (get_elem? views j ≡ some u)). others j u x.0 x.1) (at_set views seat j w u e)

-- a hand came
each_new : {X : Type 0} (F : HandView X → Type 0) (views : List (HandView X)) (new : HandView X) → EachHand F views → F new → EachHand F (views ++ new ∷ [])
each_new F views new old mine j u e =
    ⊎_elim (λ (x : get_elem? views j ≡ some u). old j u x) (λ (x : new ≡ u). subst F x mine) (at_snoc views new u j e)

-- one hand took in another, which is spent
each_merged : {X : Type 0} (F : HandView X → Type 0) (views : List (HandView X)) (seat other : ℕ) (both spent : HandView X) → EachHand F views → F both → F spent → EachHand F (set (set views seat both) other spent)
each_merged F views seat other both spent old mine none =
    each_set F (set views seat both) other spent none (λ j u apart e. each_set F views seat both mine (λ i w far at. old i w at) j u e)

-- ---- what a hand is to its crew

-- it knows the crew, and holds what is the crew's
live_hand : {X : Type 0} (crew : RingCrew) (v : HandView X) → v.crew ≡ crew → 0 < length v.numbers → All (IsOfCrew crew.names) v.held → IsHandOfCrew crew v
live_hand crew v knows live named = record { knows = λ _. knows; idle = λ (none : length v.numbers ≡ 0). absurd (omega arith); named = named }

-- one that stands for none is so in any crew
idle_hand : {X : Type 0} (crew next : RingCrew) (u : HandView X) → length u.numbers ≡ 0 → IsHandOfCrew crew u → IsHandOfCrew next u
idle_hand crew next u none h = record {
  knows = λ (live : 0 < length u.numbers). absurd (omega arith);
  idle = h.idle;
  named = All-same (IsOfCrew next.names) u.held [] (h.idle none) (All-nil (IsOfCrew next.names));
}

spent_hand : {X : Type 0} (crew : RingCrew) → IsHandOfCrew {X = X} crew idle_view
spent_hand crew = record { knows = λ (live : 0 < 0). absurd (omega arith); idle = λ _. refl; named = All-nil (IsOfCrew crew.names) }

-- the stage of a crew that a hand knows
pub stage_is : {X : Type 0} (crew : RingCrew) (v : HandView X) (t : CrewStage) → v.crew ≡ crew → v.crew.stage ≡ t → crew.stage ≡ t
stage_is crew v t knows is = ap (λ (c : RingCrew). c.stage) (sym knows) ∙ is

-- the desk is another value now, of one peer and one name
same_desk : {X : Type 0} (names : List DeskName) (b s : Shown X) → s.peer ≡ b.peer → s.name.inbox ≡ b.name.inbox → s.name.label ≡ b.name.label → IsOfCrew names b → IsOfCrew names s
same_desk names b s same_peer same_inbox same_label of = record {
  exists = subst (λ p. p < length names) (sym same_peer) of.exists;
  named = subst (λ (x : ℕ × DeskName). get_or names x.0 x.1 ≡ x.1) (λ i. (sym same_peer i, record { inbox = sym same_inbox i; label = sym same_label i })) of.named;
}

-- it is the crew's once there are more
of_more : {X : Type 0} (names : List DeskName) (name : DeskName) (s : Shown X) → IsOfCrew names s → IsOfCrew (names ++ name ∷ []) s
of_more names name s of = record {
  exists = omega (arith, of.exists, length_push names name);
  named = get_or_append_left names (name ∷ []) s.name s.peer of.exists ∙ of.named;
}

-- the newest is the crew's
of_new : {X : Type 0} (names : List DeskName) (s : Shown X) → s.peer ≡ length names → IsOfCrew (names ++ s.name ∷ []) s
of_new names s next = record {
  exists = omega (arith, next, length_push names s.name);
  named = get_or_push names s.name s.name s.peer (sym next);
}

-- ---- the weights of desks

peers_push : {X : Type 0} (desks : List (Shown X)) (s : Shown X) → peers_of (desks ++ s ∷ []) ≡ peers_of desks ++ s.peer ∷ []
peers_push {X} desks s = map-append (λ (t : Shown X). t.peer) desks (s ∷ [])

push_weighs : {X : Type 0} (h : ℕ → ℕ) (desks : List (Shown X)) (s : Shown X) → sum_by h (peers_of (desks ++ s ∷ [])) ≡ sum_by h (peers_of desks) + h s.peer
push_weighs h desks s = ap (sum_by h) (peers_push desks s) ∙ sum_by_push h (peers_of desks) s.peer

none_weighs : {X : Type 0} (h : ℕ → ℕ) (desks : List (Shown X)) → desks ≡ [] → sum_by h (peers_of desks) ≡ 0
none_weighs h desks none = ap (λ ds. sum_by h (peers_of ds)) none

one_weighs : (h : ℕ → ℕ) (p : ℕ) → sum_by h (p ∷ []) ≡ h p
one_weighs h p = omega (arith, sum_by-cons h p [])

held_weighs : {X : Type 0} (h : ℕ → ℕ) (desks : List (Shown X)) (b : Shown X) → desks ≡ b ∷ [] → sum_by h (peers_of desks) ≡ h b.peer
held_weighs h desks b only = ap (λ ds. sum_by h (peers_of ds)) only ∙ one_weighs h b.peer

-- ---- what hands hold, after one handler holds something else

-- the hand itself
holds_own : {X : Type 0} (d : Desks) (ring x : List ℕ) (w : HandView X) → get_or w.numbers 0 0 < length d.held → All (λ k. k ≢ get_or w.numbers 0 0) (drop 1 w.numbers) → All (λ k. held_by d k ≡ []) (drop 1 w.numbers) → x ≡ peers_of w.held
    → Holds (record { ring = ring; held = set d.held (get_or w.numbers 0 0) x }) w
holds_own d ring x w exists apart free is = record {
  first = get_or-set_same d.held (get_or w.numbers 0 0) x [] exists ∙ is;
  others = λ i e lt. get_or-set_other d.held (get_or w.numbers 0 0) (get_or (drop 1 w.numbers) i e) x [] (apart i e lt) ∙ free i e lt;
}

-- another one
holds_else : {X : Type 0} (d : Desks) (ring x : List ℕ) (a : ℕ) (u : HandView X) → 0 < length u.numbers → All (λ k. k ≢ a) u.numbers → Holds d u → Holds (record { ring = ring; held = set d.held a x }) u
holds_else d ring x a u live apart h = record {
  first = get_or-set_other d.held a (get_or u.numbers 0 0) x [] (apart 0 0 live) ∙ h.first;
  others = λ i e lt. get_or-set_other d.held a (get_or (drop 1 u.numbers) i e) x [] (All-drop (λ k. k ≢ a) 1 u.numbers apart i e lt) ∙ h.others i e lt;
}

-- ---- the first hand

-- a ring in which nothing waits, with one hand
pub begins : {X : Type 0} → IsRing {X = X} [] (first_view ∷ [])
begins {X} = record {
  crew = (first_view {X = X}).crew;
  hands = each_new (IsHandOfCrew (first_view {X = X}).crew) [] first_view (λ j u e. absurd (some-ne-none u (sym e))) (live_hand (first_view {X = X}).crew first_view refl (omega arith) (All-nil (IsOfCrew [])));
  waiting_named = All-nil (IsOfCrew []);
  each_handler = λ h. omega (arith, sum_by-cons (λ (v : HandView X). sum_by h v.numbers) first_view []);
  each_desk = λ h. omega (arith, sum_by-cons (λ (v : HandView X). sum_by h (peers_of v.held)) first_view []);
  moves = refl;
}

-- the crew grows by a handler
pub grows : {X : Type 0} (seat : ℕ) (v : HandView X) → v.crew.stage ≡ making → 0 < length v.numbers → length v.numbers ≡ v.crew.handlers → Forks IsRing seat v (grown_view v) idle_view
grows seat v stage live all waiting views r at =
    let hand = r.hands seat v at in
    let knows = hand.knows live in
    let next = grown_crew r.crew in
    let everyone : length v.numbers ≡ r.crew.handlers = all ∙ ap (λ (c : RingCrew). c.handlers) knows in
    let is_making = stage_is r.crew v making knows stage in
    let in_order : peers_of waiting ≡ range_with_len 0 (length r.crew.names) = subst (λ (t : CrewStage). AtStage t r.crew waiting views) is_making r.moves in
    record {
      crew = next;
      hands = each_new (IsHandOfCrew next) (set views seat (grown_view v)) idle_view
          (each_set (IsHandOfCrew next) views seat (grown_view v)
          (live_hand next (grown_view v) (ap grown_crew knows) (omega (arith, live, length_push v.numbers v.crew.handlers)) hand.named)
          (λ j u apart e. idle_hand r.crew next u (alone views r.crew.handlers seat j v u r.each_handler at everyone apart e) (r.hands j u e)))
          (spent_hand next);
      waiting_named = r.waiting_named;
      each_handler = once_forked numbers_of [] views seat r.crew.handlers (r.crew.handlers + 1) v (grown_view v) idle_view r.each_handler at
          (λ h. grown_weighs h v.numbers v.crew.handlers r.crew.handlers (ap (λ (c : RingCrew). c.handlers) knows));
      each_desk = once_forked held_peers (peers_of waiting) views seat (length r.crew.names) (length r.crew.names) v (grown_view v) idle_view r.each_desk at (λ h. nothing_new h (sum_by h (peers_of v.held)) (sum_by h (range_with_len 0 (length r.crew.names))));
      moves = subst (λ (t : CrewStage). AtStage t next waiting (set views seat (grown_view v) ++ idle_view ∷ [])) (sym is_making) in_order;
    }
  where
    grown_weighs : (h : ℕ → ℕ) (ns : List ℕ) (k n : ℕ) → k ≡ n → sum_by h (ns ++ k ∷ []) + sum_by h [] + sum_by h (range_with_len 0 n) ≡ sum_by h ns + sum_by h (range_with_len 0 (n + 1))
    grown_weighs h ns k n same = omega (arith, sum_by_push h ns k, range_weighs h n (n + 1) refl, ap h same)

    nothing_new : (h : ℕ → ℕ) (a b : ℕ) → a + sum_by h [] + b ≡ a + b
    nothing_new h a b = omega arith

-- a desk is made
pub makes : {X : Type 0} (n seat : ℕ) (v : HandView X) (s : Shown X) → v.crew.stage ≡ making → 0 < length v.numbers → length v.numbers ≡ v.crew.handlers → s.peer ≡ length v.crew.names → Pushes IsRing n seat v s (λ w. w ≡ made_view v s)
makes n seat v s stage live all next_peer waiting views room r at =
    let hand = r.hands seat v at in
    let knows = hand.knows live in
    let next = made_crew r.crew s in
    let w = made_view v s in
    let everyone : length v.numbers ≡ r.crew.handlers = all ∙ ap (λ (c : RingCrew). c.handlers) knows in
    let peer_is : s.peer ≡ length r.crew.names = next_peer ∙ ap (λ (c : RingCrew). length c.names) knows in
    let is_making = stage_is r.crew v making knows stage in
    let in_order : peers_of waiting ≡ range_with_len 0 (length r.crew.names) = subst (λ (t : CrewStage). AtStage t r.crew waiting views) is_making r.moves in
    let count : length next.names ≡ length r.crew.names + 1 = length_push r.crew.names s.name in (
      w,
      record {
        crew = next;
        hands = each_set (IsHandOfCrew next) views seat w
            (live_hand next w (ap (λ (c : RingCrew). made_crew c s) knows) live (All-weaker (IsOfCrew r.crew.names) (IsOfCrew next.names) (of_more r.crew.names s.name) v.held hand.named))
            (λ j u apart e. idle_hand r.crew next u (alone views r.crew.handlers seat j v u r.each_handler at everyone apart e) (r.hands j u e));
        waiting_named = All-push (IsOfCrew next.names) waiting s (All-weaker (IsOfCrew r.crew.names) (IsOfCrew next.names) (of_more r.crew.names s.name) waiting r.waiting_named) (of_new r.crew.names s peer_is);
        each_handler = once_moved numbers_of [] [] views seat r.crew.handlers r.crew.handlers v w r.each_handler at (λ h. refl);
        each_desk = once_moved held_peers (peers_of waiting) (peers_of (waiting ++ s ∷ [])) views seat (length r.crew.names) (length next.names) v w r.each_desk at
            (λ h. omega (arith, push_weighs h waiting s, range_weighs h (length r.crew.names) (length next.names) count, ap h peer_is));
        moves = subst (λ (t : CrewStage). AtStage t next (waiting ++ s ∷ []) (set views seat w)) (sym is_making)
            (peers_push waiting s ∙ (ap₂ (λ (xs : List ℕ) (p : ℕ). xs ++ p ∷ []) in_order peer_is ∙ (sym (range_push (length r.crew.names)) ∙ ap (range_with_len 0) (sym count))));
      },
      refl,
    )

-- ---- the crew begins to run

-- at the opening nobody holds a desk
free_at_first : (n k : ℕ) → get_or {A = List ℕ} (replicate n []) k [] ≡ []
free_at_first n k =
    elim (cases_lt k n) [
      | inl lt ↦ get_or-replicate {A = List ℕ} n k [] [] lt
      | inr le ↦ get_or_past {X = List ℕ} (replicate n []) k [] (omega (arith, length-replicate {A = List ℕ} n []))
    ]

opening_holds : {X : Type 0} (peers handlers : ℕ) (v : HandView X) → v.held ≡ [] → Holds (opening_desks peers handlers) v
opening_holds peers handlers v none = record {
  first = free_at_first handlers (get_or v.numbers 0 0) ∙ ap peers_of (sym none);
  others = λ i e lt. free_at_first handlers (get_or (drop 1 v.numbers) i e);
}

-- where all desks wait, no hand holds one
none_held : {X : Type 0} (waiting : List (Shown X)) (views : List (HandView X)) (n seat : ℕ) (v : HandView X) → EachOnce (peers_of waiting) held_peers views n → peers_of waiting ≡ range_with_len 0 n → get_elem? views seat ≡ some v → v.held ≡ []
none_held {X} waiting views n seat v once in_order at =
    let weighed : sum_by (λ (_ : ℕ). 1) (peers_of waiting) + sum_by (λ (u : HandView X). sum_by (λ (_ : ℕ). 1) (peers_of u.held)) views ≡ sum_by (λ (_ : ℕ). 1) (range_with_len 0 n) = once (λ _. 1) in
    let below : sum_by (λ (_ : ℕ). 1) (peers_of v.held) ≤ sum_by (λ (u : HandView X). sum_by (λ (_ : ℕ). 1) (peers_of u.held)) views = one_below (λ (u : HandView X). sum_by (λ (_ : ℕ). 1) (peers_of u.held)) views seat v at in
    let all_wait : sum_by (λ (_ : ℕ). 1) (peers_of waiting) ≡ sum_by (λ (_ : ℕ). 1) (range_with_len 0 n) = ap (sum_by (λ (_ : ℕ). 1)) in_order in
    nil_from_length v.held (omega (arith, weighed, below, all_wait, ones (peers_of v.held), length-map v.held (λ (t : Shown X). t.peer)))

pub starts : {X : Type 0} (seat : ℕ) (v : HandView X) → v.crew.stage ≡ making → 0 < length v.numbers → length v.numbers ≡ v.crew.handlers → Forks IsRing seat v (running_view v) idle_view
starts {X} seat v stage live all waiting views r at =
    let hand = r.hands seat v at in
    let knows = hand.knows live in
    let next = at_stage r.crew running in
    let w = running_view v in
    let everyone : length v.numbers ≡ r.crew.handlers = all ∙ ap (λ (c : RingCrew). c.handlers) knows in
    let is_making = stage_is r.crew v making knows stage in
    let in_order : peers_of waiting ≡ range_with_len 0 (length r.crew.names) = subst (λ (t : CrewStage). AtStage t r.crew waiting views) is_making r.moves in
    let desks : Desks = opening_desks (length r.crew.names) r.crew.handlers in
    let none = none_held waiting views (length r.crew.names) seat v r.each_desk in_order at in
    record {
      crew = next;
      hands = each_new (IsHandOfCrew next) (set views seat w) idle_view
          (each_set (IsHandOfCrew next) views seat w (live_hand next w (ap (λ (c : RingCrew). at_stage c running) knows) live hand.named)
          (λ j u apart e. idle_hand r.crew next u (alone views r.crew.handlers seat j v u r.each_handler at everyone apart e) (r.hands j u e)))
          (spent_hand next);
      waiting_named = r.waiting_named;
      each_handler = once_forked numbers_of [] views seat r.crew.handlers r.crew.handlers v w idle_view r.each_handler at (λ h. omega arith);
      each_desk = once_forked held_peers (peers_of waiting) views seat (length r.crew.names) (length r.crew.names) v w idle_view r.each_desk at (λ h. omega arith);
      moves = record {
        desks = desks;
        reached = places.opening;
        ring_is = sym in_order;
        holds = each_new (λ (u : HandView X). 0 < length u.numbers → Holds desks u) (set views seat w) idle_view
            (each_set (λ (u : HandView X). 0 < length u.numbers → Holds desks u) views seat w (λ _. opening_holds (length r.crew.names) r.crew.handlers w none)
            (λ j u apart e live_u. let idle = alone views r.crew.handlers seat j v u r.each_handler at everyone apart e in absurd (omega (arith, idle, live_u))))
            (λ (live_u : 0 < 0). absurd (omega arith));
      };
    }

-- ---- a hand is hired

hired_weighs : (h : ℕ → ℕ) (ns : List ℕ) → 2 ≤ length ns → sum_by h (take 1 ns ++ drop 2 ns) + sum_by h (take 1 (drop 1 ns)) ≡ sum_by h ns
hired_weighs h [] two = absurd (omega arith)
hired_weighs h (a ∷ []) two = absurd (omega arith)
hired_weighs h (a ∷ b ∷ ns) two = omega (arith, sum_by-cons h a ns, sum_by-cons h b [], sum_by-cons h a (b ∷ ns), sum_by-cons h b ns)

pub hiring_count : (ns : List ℕ) → 2 ≤ length ns → length (take 1 ns ++ drop 2 ns) ≡ length ns - 1
hiring_count [] two = absurd (omega arith)
hiring_count (a ∷ []) two = absurd (omega arith)
hiring_count (a ∷ b ∷ ns) two = omega arith

pub hired_count : (ns : List ℕ) → 2 ≤ length ns → length (take 1 (drop 1 ns)) ≡ 1
hired_count [] two = absurd (omega arith)
hired_count (a ∷ []) two = absurd (omega arith)
hired_count (a ∷ b ∷ ns) two = refl

-- what a hand that stands for these handlers holds
abbrev HoldsFor : {X : Type 0} → Desks → List ℕ → List (Shown X) → Type 0
HoldsFor d ns held = (held_by d (get_or ns 0 0) ≡ peers_of held) × All (λ k. held_by d k ≡ []) (drop 1 ns)

hiring_holds : {X : Type 0} (d : Desks) (ns : List ℕ) (held : List (Shown X)) → 2 ≤ length ns → HoldsFor d ns held → HoldsFor d (take 1 ns ++ drop 2 ns) held × HoldsFor {X = X} d (take 1 (drop 1 ns)) []
hiring_holds d [] held two h = absurd (omega arith)
hiring_holds d (a ∷ []) held two h = absurd (omega arith)
hiring_holds d (a ∷ b ∷ ns) held two h =
    ((h.0, All-tail (λ k. held_by d k ≡ []) b ns h.1), (All-head (λ k. held_by d k ≡ []) b ns h.1, All-nil (λ k. held_by d k ≡ [])))

hired_desks : {X : Type 0} (crew : RingCrew) (waiting : List (Shown X)) (views : List (HandView X)) (seat : ℕ) (v : HandView X) → get_elem? views seat ≡ some v → 2 ≤ length v.numbers → AreDesks crew waiting views → AreDesks crew waiting (set views seat (hiring_view v) ++ hired_view v ∷ [])
hired_desks {X} crew waiting views seat v at two d =
    let mine = d.holds seat v at (omega (arith, two)) in
    let both = hiring_holds d.desks v.numbers v.held two (mine.first, mine.others) in
    record {
      desks = d.desks;
      reached = d.reached;
      ring_is = d.ring_is;
      holds = each_new (λ (u : HandView X). 0 < length u.numbers → Holds d.desks u) (set views seat (hiring_view v)) (hired_view v)
          (each_set (λ (u : HandView X). 0 < length u.numbers → Holds d.desks u) views seat (hiring_view v) (λ _. record { first = both.0.0; others = both.0.1 }) (λ j u apart e. d.holds j u e))
          (λ _. record { first = both.1.0; others = both.1.1 });
    }

pub hires : {X : Type 0} (seat : ℕ) (v : HandView X) → v.crew.stage ≡ running → 2 ≤ length v.numbers → Forks IsRing seat v (hiring_view v) (hired_view v)
hires seat v stage two waiting views r at =
    let hand = r.hands seat v at in
    let knows = hand.knows (omega (arith, two)) in
    let is_running = stage_is r.crew v running knows stage in
    let d : AreDesks r.crew waiting views = subst (λ (t : CrewStage). AtStage t r.crew waiting views) is_running r.moves in
    record {
      crew = r.crew;
      hands = each_new (IsHandOfCrew r.crew) (set views seat (hiring_view v)) (hired_view v)
          (each_set (IsHandOfCrew r.crew) views seat (hiring_view v) (live_hand r.crew (hiring_view v) knows (omega (arith, two, hiring_count v.numbers two)) hand.named) (λ j u apart e. r.hands j u e))
          (live_hand r.crew (hired_view v) knows (omega (arith, hired_count v.numbers two)) (All-nil (IsOfCrew r.crew.names)));
      waiting_named = r.waiting_named;
      each_handler = once_forked numbers_of [] views seat r.crew.handlers r.crew.handlers v (hiring_view v) (hired_view v) r.each_handler at (λ h. omega (arith, hired_weighs h v.numbers two));
      each_desk = once_forked held_peers (peers_of waiting) views seat (length r.crew.names) (length r.crew.names) v (hiring_view v) (hired_view v) r.each_desk at (λ h. omega arith);
      moves = subst (λ (t : CrewStage). AtStage t r.crew waiting (set views seat (hiring_view v) ++ hired_view v ∷ [])) (sym is_running) (hired_desks r.crew waiting views seat v at two d);
    }

-- ---- a desk is claimed

claimed_desks : {X : Type 0} (crew : RingCrew) (s : Shown X) (waiting : List (Shown X)) (views : List (HandView X)) (seat : ℕ) (v : HandView X) → EachOnce [] numbers_of views crew.handlers → get_elem? views seat ≡ some v → 0 < length v.numbers → v.held ≡ [] → AreDesks crew (s ∷ waiting) views → AreDesks crew waiting (set views seat (claimed_view v s))
claimed_desks {X} crew s waiting views seat v once at live free d =
    let a : ℕ = get_or v.numbers 0 0 in
    let mine = d.holds seat v at live in
    let exists : a < length d.desks.held = omega (arith, first_below views crew.handlers seat v once at live, handlers_stay d.reached) in
    let held_none : held_by d.desks a ≡ [] = mine.first ∙ ap peers_of free in
    let front : take 1 d.desks.ring ≡ s.peer ∷ [] = ap (take 1) d.ring_is in
    record {
      desks = claimed d.desks a;
      reached = places.claim d.desks a s.peer (peers_of waiting) d.reached exists held_none d.ring_is;
      ring_is = ap (drop 1) d.ring_is;
      holds = each_set (λ (u : HandView X). 0 < length u.numbers → Holds (claimed d.desks a) u) views seat (claimed_view v s)
          (λ _. holds_own d.desks (drop 1 d.desks.ring) (take 1 d.desks.ring) (claimed_view v s) exists (own_numbers views crew.handlers seat v once at live) mine.others front)
          (λ j u apart e live_u. holds_else d.desks (drop 1 d.desks.ring) (take 1 d.desks.ring) a u live_u (other_numbers views crew.handlers seat j v u once at live apart e) (d.holds j u e live_u));
    }

pub claims : {X : Type 0} (seat : ℕ) (v : HandView X) → v.crew.stage ≡ running → 0 < length v.numbers → v.held ≡ [] → Pops IsRing seat v (λ s w. (w ≡ claimed_view v s) × IsOfCrew v.crew.names s)
claims seat v stage live free s waiting views r at =
    let hand = r.hands seat v at in
    let knows = hand.knows live in
    let w = claimed_view v s in
    let is_running = stage_is r.crew v running knows stage in
    let d : AreDesks r.crew (s ∷ waiting) views = subst (λ (t : CrewStage). AtStage t r.crew (s ∷ waiting) views) is_running r.moves in
    let front : IsOfCrew r.crew.names s = All-head (IsOfCrew r.crew.names) s waiting r.waiting_named in (
      w,
      record {
        crew = r.crew;
        hands = each_set (IsHandOfCrew r.crew) views seat w (live_hand r.crew w knows live (All-cons (IsOfCrew r.crew.names) s [] front (All-nil (IsOfCrew r.crew.names)))) (λ j u apart e. r.hands j u e);
        waiting_named = All-tail (IsOfCrew r.crew.names) s waiting r.waiting_named;
        each_handler = once_moved numbers_of [] [] views seat r.crew.handlers r.crew.handlers v w r.each_handler at (λ h. refl);
        each_desk = once_moved held_peers (peers_of (s ∷ waiting)) (peers_of waiting) views seat (length r.crew.names) (length r.crew.names) v w r.each_desk at
            (λ h. omega (arith, sum_by-cons h s.peer (peers_of waiting), one_weighs h s.peer, none_weighs h v.held free));
        moves = subst (λ (t : CrewStage). AtStage t r.crew waiting (set views seat w)) (sym is_running) (claimed_desks r.crew s waiting views seat v r.each_handler at live free d);
      },
      (refl, subst (λ (c : RingCrew). IsOfCrew c.names s) (sym knows) front),
    )

-- ---- a desk is given back

given_desks : {X : Type 0} (crew : RingCrew) (s : Shown X) (waiting : List (Shown X)) (views : List (HandView X)) (seat : ℕ) (v : HandView X) → EachOnce [] numbers_of views crew.handlers → get_elem? views seat ≡ some v → 0 < length v.numbers → IsHeld v.held s → AreDesks crew waiting views → AreDesks crew (waiting ++ s ∷ []) (set views seat (given_view v s))
given_desks {X} crew s waiting views seat v once at live held d =
    let a : ℕ = get_or v.numbers 0 0 in
    let mine = d.holds seat v at live in
    let exists : a < length d.desks.held = omega (arith, first_below views crew.handlers seat v once at live, handlers_stay d.reached) in
    let holds_one : held_by d.desks a ≡ held.before.peer ∷ [] = mine.first ∙ ap peers_of held.only in
    let back : held_by d.desks a ≡ s.peer ∷ [] = holds_one ∙ ap (λ (p : ℕ). p ∷ []) (sym held.same_peer) in
    record {
      desks = given d.desks a;
      reached = places.give d.desks a held.before.peer d.reached exists holds_one;
      ring_is = ap₂ (λ (xs ys : List ℕ). xs ++ ys) d.ring_is back ∙ sym (peers_push waiting s);
      holds = each_set (λ (u : HandView X). 0 < length u.numbers → Holds (given d.desks a) u) views seat (given_view v s)
          (λ _. holds_own d.desks (d.desks.ring ++ held_by d.desks a) [] (given_view v s) exists (own_numbers views crew.handlers seat v once at live) mine.others refl)
          (λ j u apart e live_u. holds_else d.desks (d.desks.ring ++ held_by d.desks a) [] a u live_u (other_numbers views crew.handlers seat j v u once at live apart e) (d.holds j u e live_u));
    }

pub gives : {X : Type 0} (n seat : ℕ) (v : HandView X) (s : Shown X) → v.crew.stage ≡ running → 0 < length v.numbers → IsHeld v.held s → Pushes IsRing n seat v s (λ w. w ≡ given_view v s)
gives n seat v s stage live held waiting views room r at =
    let hand = r.hands seat v at in
    let knows = hand.knows live in
    let w = given_view v s in
    let is_running = stage_is r.crew v running knows stage in
    let d : AreDesks r.crew waiting views = subst (λ (t : CrewStage). AtStage t r.crew waiting views) is_running r.moves in
    let was : All (IsOfCrew r.crew.names) (held.before ∷ []) = subst (All (IsOfCrew r.crew.names)) held.only hand.named in
    let back : IsOfCrew r.crew.names s = same_desk r.crew.names held.before s held.same_peer held.same_inbox held.same_label (All-head (IsOfCrew r.crew.names) held.before [] was) in (
      w,
      record {
        crew = r.crew;
        hands = each_set (IsHandOfCrew r.crew) views seat w (live_hand r.crew w knows live (All-nil (IsOfCrew r.crew.names))) (λ j u apart e. r.hands j u e);
        waiting_named = All-push (IsOfCrew r.crew.names) waiting s r.waiting_named back;
        each_handler = once_moved numbers_of [] [] views seat r.crew.handlers r.crew.handlers v w r.each_handler at (λ h. refl);
        each_desk = once_moved held_peers (peers_of waiting) (peers_of (waiting ++ s ∷ [])) views seat (length r.crew.names) (length r.crew.names) v w r.each_desk at
            (λ h. omega (arith, push_weighs h waiting s, held_weighs h v.held held.before held.only, ap h held.same_peer));
        moves = subst (λ (t : CrewStage). AtStage t r.crew (waiting ++ s ∷ []) (set views seat w)) (sym is_running) (given_desks r.crew s waiting views seat v r.each_handler at live held d);
      },
      refl,
    )

-- ---- a hand takes in another

joined_holds : {X : Type 0} (d : Desks) (ns : List ℕ) (held : List (Shown X)) (w : HandView X) → 0 < length ns → 0 < length w.numbers → w.held ≡ [] → HoldsFor d ns held → Holds d w → HoldsFor d (ns ++ w.numbers) held
joined_holds d [] held w live live_w free h hw = absurd (omega arith)
joined_holds d (a ∷ ns) held w live live_w free h hw =
    let theirs : All (λ k. held_by d k ≡ []) w.numbers =
    All-same (λ k. held_by d k ≡ []) w.numbers (get_or w.numbers 0 0 ∷ drop 1 w.numbers) (parts_of w.numbers live_w)
    (All-cons (λ k. held_by d k ≡ []) (get_or w.numbers 0 0) (drop 1 w.numbers) (hw.first ∙ ap peers_of free) hw.others)
    in (h.0, All-append (λ k. held_by d k ≡ []) ns w.numbers h.1 theirs)

joined_desks : {X : Type 0} (crew : RingCrew) (waiting : List (Shown X)) (views : List (HandView X)) (seat other : ℕ) (v w : HandView X) → get_elem? views seat ≡ some v → get_elem? views other ≡ some w → 0 < length v.numbers → 0 < length w.numbers → w.held ≡ [] → AreDesks crew waiting views → AreDesks crew waiting (set (set views seat (joined_view v w)) other idle_view)
joined_desks {X} crew waiting views seat other v w at at' live live_w free d =
    let mine = d.holds seat v at live in
    let both = joined_holds d.desks v.numbers v.held w live live_w free (mine.first, mine.others) (d.holds other w at' live_w) in
    record {
      desks = d.desks;
      reached = d.reached;
      ring_is = d.ring_is;
      holds = each_merged (λ (u : HandView X). 0 < length u.numbers → Holds d.desks u) views seat other (joined_view v w) idle_view d.holds (λ _. record { first = both.0; others = both.1 })
          (λ (live_u : 0 < 0). absurd (omega arith));
    }

joined_moves : {X : Type 0} (t : CrewStage) (crew : RingCrew) (waiting : List (Shown X)) (views : List (HandView X)) (seat other : ℕ) (v w : HandView X) → get_elem? views seat ≡ some v → get_elem? views other ≡ some w → 0 < length v.numbers → 0 < length w.numbers → w.held ≡ [] → AtStage t crew waiting views → AtStage t crew waiting (set (set views seat (joined_view v w)) other idle_view)
joined_moves making crew waiting views seat other v w at at' live live_w free was = was
joined_moves running crew waiting views seat other v w at at' live live_w free was = joined_desks crew waiting views seat other v w at at' live live_w free was
joined_moves finishing crew waiting views seat other v w at at' live live_w free was = tt

pub joins : {X : Type 0} (seat : ℕ) (v : HandView X) (other : ℕ) (w : HandView X) → 0 < length v.numbers → 0 < length w.numbers → w.held ≡ [] → Merges IsRing seat v other w (joined_view v w) idle_view
joins seat v other w live live_w free waiting views r at apart at_other =
    let hand = r.hands seat v at in
    let knows = hand.knows live in
    let both = joined_view v w in
    let was : get_elem? views other ≡ some w =
    ⊎_elim (λ (x : (other ≡ seat) × (both ≡ w)). absurd (apart x.0)) (λ (x : (other ≢ seat) × (get_elem? views other ≡ some w)). x.1) (at_set views seat other both w at_other)
    in
    record {
      crew = r.crew;
      hands = each_merged (IsHandOfCrew r.crew) views seat other both idle_view r.hands (live_hand r.crew both knows (omega (arith, live, length-append v.numbers w.numbers)) hand.named) (spent_hand r.crew);
      waiting_named = r.waiting_named;
      each_handler = once_merged numbers_of [] views seat other r.crew.handlers v w both idle_view r.each_handler at at_other (λ h. omega (arith, sum_by-append h v.numbers w.numbers));
      each_desk = once_merged held_peers (peers_of waiting) views seat other (length r.crew.names) v w both idle_view r.each_desk at at_other (λ h. omega (arith, none_weighs h w.held free));
      moves = joined_moves r.crew.stage r.crew waiting views seat other v w at was live live_w free r.moves;
    }

-- ---- a desk is kept

pub keeps : {X : Type 0} (seat : ℕ) (v : HandView X) → 0 < length v.numbers → length v.numbers ≡ v.crew.handlers → Pops IsRing seat v (λ s w. (w ≡ kept_view v s) × IsOfCrew v.crew.names s × (length v.held < length v.crew.names))
keeps {X} seat v live all s waiting views r at =
    let hand = r.hands seat v at in
    let knows = hand.knows live in
    let next = at_stage r.crew finishing in
    let w = kept_view v s in
    let everyone : length v.numbers ≡ r.crew.handlers = all ∙ ap (λ (c : RingCrew). c.handlers) knows in
    let weighed : sum_by (λ (_ : ℕ). 1) (peers_of (s ∷ waiting)) + sum_by (λ (u : HandView X). sum_by (λ (_ : ℕ). 1) (peers_of u.held)) views ≡ sum_by (λ (_ : ℕ). 1) (range_with_len 0 (length r.crew.names)) = r.each_desk (λ _. 1) in
    let below : sum_by (λ (_ : ℕ). 1) (peers_of v.held) ≤ sum_by (λ (u : HandView X). sum_by (λ (_ : ℕ). 1) (peers_of u.held)) views = one_below (λ (u : HandView X). sum_by (λ (_ : ℕ). 1) (peers_of u.held)) views seat v at in
    let room : length v.held < length v.crew.names = omega (
      arith,
      weighed,
      below,
      ones (peers_of v.held),
      length-map v.held (λ (t : Shown X). t.peer),
      sum_by-cons (λ (_ : ℕ). 1) s.peer (peers_of waiting),
      ones (range_with_len 0 (length r.crew.names)),
      length-range_with_len 0 (length r.crew.names),
      ap (λ (c : RingCrew). length c.names) knows,
    ) in
    let front : IsOfCrew r.crew.names s = All-head (IsOfCrew r.crew.names) s waiting r.waiting_named in (
      w,
      record {
        crew = next;
        hands = each_set (IsHandOfCrew next) views seat w
            (live_hand next w (ap (λ (c : RingCrew). at_stage c finishing) knows) live (All-push (IsOfCrew r.crew.names) v.held s hand.named front))
            (λ j u apart e. idle_hand r.crew next u (alone views r.crew.handlers seat j v u r.each_handler at everyone apart e) (r.hands j u e));
        waiting_named = All-tail (IsOfCrew r.crew.names) s waiting r.waiting_named;
        each_handler = once_moved numbers_of [] [] views seat r.crew.handlers r.crew.handlers v w r.each_handler at (λ h. refl);
        each_desk = once_moved held_peers (peers_of (s ∷ waiting)) (peers_of waiting) views seat (length r.crew.names) (length r.crew.names) v w r.each_desk at
            (λ h. omega (arith, sum_by-cons h s.peer (peers_of waiting), push_weighs h v.held s));
        moves = tt;
      },
      (refl, subst (λ (c : RingCrew). IsOfCrew c.names s) (sym knows) front, room),
    )
