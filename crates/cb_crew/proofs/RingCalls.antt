-- What each call of a ring owes to its queue, and what the queue's answer says of the hand.
use Rattle.std.proofs.Common.{◌≡◌, ℕ, ◌+◌, ◌<◌, ◌≤◌, List, [], ◌∷◌, length, map, set, refl, sym, ap, ap₂, subst, ◌∙◌, arith}
use Rattle.std.specs.List.{sum_by, range_with_len}
use Rattle.std.proofs.lemmas.List.{map-append, length-map, length-append, length_push, nil_from_length}
use Rattle.atomic_table.specs.Seated.{TableId}
use Rattle.crossbeam_queue.specs.Fifo.{Pushes, Pops, Forks, Merges, Learns, Held}
use Rattle.crossbeam_queue.specs.Passes.{Pass, view}
use Rattle.cb_crew.specs.Ring.{Shown, HandState, making, running, IsOfCrew, IsHeld, HoldsAll, HoldsInTurn, StandsForAll, peers_of, no_last, opening_hand, hired_hand, hiring_hand, joined_hand}
use Rattle.cb_crew.specs.RingRule.{HandView, IsRing, IsRingOf, idle_view, first_view, grown_view, made_view, running_view, hired_view, hiring_view, claimed_view, given_view, joined_view, kept_view}
use Rattle.cb_crew.specs.Hand.{state_of, hand_state, IsHand, IsOpening}
use Rattle.cb_crew.proofs.RingMoves.{begins, grows, makes, starts, hires, hiring_count, hired_count, claims, gives, joins, keeps}
use Rattle.cb_crew.proofs.RingLessons.{all_wait, has_room, few_held, left_over, in_turn}

-- ---- from what desks show to desks

module _ {X D : Type 0} (shown : D → Shown X) where
  pushes_of : (n seat : ℕ) (v : HandView X) (desk : D) (then : HandView X → Type 0) → Pushes IsRing n seat v (shown desk) then → Pushes (IsRingOf shown) n seat v desk then
  pushes_of n seat v desk then owed desks views room r at =
      let given = owed (map shown desks) views (omega (arith, room, length-map desks shown)) r at in
      (given.0, subst (λ (waiting : List (Shown X)). IsRing waiting (set views seat given.0)) (sym (map-append shown desks (desk ∷ []))) given.1, given.2)

  -- ---- what each call owes

  pub make_owes : (n : ℕ) (pass : Pass D (HandView X)) (old : HandState X) (desk : D) → hand_state pass ≡ old → IsHand pass → old.stage ≡ making → StandsForAll old → (shown desk).peer ≡ length old.names
      → Pushes (IsRingOf shown) n pass.id (view pass) desk (λ w. w ≡ made_view (view pass) (shown desk)) × Learns (IsRingOf shown) pass.id (view pass) (λ desks. length desks ≡ length (view pass).crew.names)
  make_owes n pass old desk is hand stage all next = (
    pushes_of n pass.id (view pass) desk (λ w. w ≡ made_view (view pass) (shown desk))
        (makes n pass.id (view pass) (shown desk) (ap (λ (h : HandState X). h.stage) is ∙ stage) hand.live (subst StandsForAll (sym is) all) (next ∙ ap (λ (h : HandState X). length h.names) (sym is))),
    λ desks views r at. let count = all_wait pass.id (view pass) (ap (λ (h : HandState X). h.stage) is ∙ stage) hand.live (map shown desks) views r at in omega (arith, count, length-map desks shown),
  )

  pub start_owes : (pass : Pass D (HandView X)) (old : HandState X) → hand_state pass ≡ old → IsHand pass → old.stage ≡ making → StandsForAll old → Forks (IsRingOf shown) pass.id (view pass) (running_view (view pass)) idle_view
  start_owes pass old is hand stage all desks views r at =
      starts pass.id (view pass) (ap (λ (h : HandState X). h.stage) is ∙ stage) hand.live (subst StandsForAll (sym is) all) (map shown desks) views r at

  pub hire_owes : (pass : Pass D (HandView X)) (old : HandState X) → hand_state pass ≡ old → old.stage ≡ running → 2 ≤ old.hands → Forks (IsRingOf shown) pass.id (view pass) (hiring_view (view pass)) (hired_view (view pass))
  hire_owes pass old is stage two desks views r at =
      hires pass.id (view pass) (ap (λ (h : HandState X). h.stage) is ∙ stage) (subst (λ (h : HandState X). 2 ≤ h.hands) (sym is) two) (map shown desks) views r at

  pub claim_owes : (pass : Pass D (HandView X)) (old : HandState X) → hand_state pass ≡ old → IsHand pass → old.stage ≡ running → old.held ≡ []
      → Pops (IsRingOf shown) pass.id (view pass) (λ desk w. (w ≡ claimed_view (view pass) (shown desk)) × IsOfCrew (view pass).crew.names (shown desk)) × Learns (IsRingOf shown) pass.id (view pass) (λ desks. length (view pass).crew.names < length desks + (view pass).crew.handlers)
  claim_owes pass old is hand stage free =
      let is_running : (view pass).crew.stage ≡ running = ap (λ (h : HandState X). h.stage) is ∙ stage in
      let holds_none : (view pass).held ≡ [] = ap (λ (h : HandState X). h.held) is ∙ free in (
        λ desk desks views r at. claims pass.id (view pass) is_running hand.live holds_none (shown desk) (map shown desks) views r at,
        λ desks views r at. let few = few_held pass.id (view pass) is_running hand.live holds_none (map shown desks) views r at in omega (arith, few, length-map desks shown),
      )

  pub give_owes : (n : ℕ) (pass : Pass D (HandView X)) (old : HandState X) (desk : D) → hand_state pass ≡ old → IsHand pass → old.stage ≡ running → IsHeld old.held (shown desk)
      → Pushes (IsRingOf shown) n pass.id (view pass) desk (λ w. w ≡ given_view (view pass) (shown desk)) × Learns (IsRingOf shown) pass.id (view pass) (λ desks. length desks < length (view pass).crew.names)
  give_owes n pass old desk is hand stage held =
      let holds : IsHeld (view pass).held (shown desk) = subst (λ (h : HandState X). IsHeld h.held (shown desk)) (sym is) held in (
        pushes_of n pass.id (view pass) desk (λ w. w ≡ given_view (view pass) (shown desk)) (gives n pass.id (view pass) (shown desk) (ap (λ (h : HandState X). h.stage) is ∙ stage) hand.live holds),
        λ desks views r at. let room = has_room pass.id (view pass) (shown desk) hand.live holds (map shown desks) views r at in omega (arith, room, length-map desks shown),
      )

  pub join_owes : (pass other : Pass D (HandView X)) (theirs : HandState X) → IsHand pass → hand_state other ≡ theirs → IsHand other → theirs.held ≡ [] → Merges (IsRingOf shown) pass.id (view pass) other.id (view other) (joined_view (view pass) (view other)) idle_view
  join_owes pass other theirs hand is hand' free desks views r at apart at_other =
      joins pass.id (view pass) other.id (view other) hand.live hand'.live (ap (λ (h : HandState X). h.held) is ∙ free) (map shown desks) views r at apart at_other

  pub keep_owes : (pass : Pass D (HandView X)) (old : HandState X) → hand_state pass ≡ old → IsHand pass → StandsForAll old
      → Pops (IsRingOf shown) pass.id (view pass) (λ desk w. (w ≡ kept_view (view pass) (shown desk)) × IsOfCrew (view pass).crew.names (shown desk) × (length (view pass).held < length (view pass).crew.names))
      × Learns (IsRingOf shown) pass.id (view pass) (λ desks. (weight : ℕ → ℕ) → sum_by weight (peers_of (map shown desks)) + sum_by weight (peers_of (view pass).held) ≡ sum_by weight (range_with_len 0 (length (view pass).crew.names)))
  keep_owes pass old is hand all = (
    λ desk desks views r at. keeps pass.id (view pass) hand.live (subst StandsForAll (sym is) all) (shown desk) (map shown desks) views r at,
    λ desks views r at. left_over pass.id (view pass) hand.live (subst StandsForAll (sym is) all) (map shown desks) views r at,
  )

  pub places_owe : (pass : Pass D (HandView X)) (old : HandState X) → hand_state pass ≡ old → IsHand pass → old.stage ≡ running → Learns (IsRingOf shown) pass.id (view pass) (λ desks. (ring : TableId) → HoldsInTurn (state_of ring (view pass)))
  places_owe pass old is hand stage desks views r at = in_turn pass.id (view pass) (ap (λ (h : HandState X). h.stage) is ∙ stage) hand.live (map shown desks) views r at

  -- ---- what answers say

  -- nothing is left: all desks are held
  pub none_left : (pass : Pass D (HandView X)) (old : HandState X) → hand_state pass ≡ old → Held 0 (λ (desks : List D). (weight : ℕ → ℕ) → sum_by weight (peers_of (map shown desks)) + sum_by weight (peers_of (view pass).held) ≡ sum_by weight (range_with_len 0 (length (view pass).crew.names))) → HoldsAll old
  none_left pass old is empty =
      let nothing : empty.0 ≡ [] = nil_from_length empty.0 empty.1 in
      subst HoldsAll is (λ weight. let none : sum_by weight (peers_of (map shown empty.0)) ≡ 0 = ap (λ (desks : List D). sum_by weight (peers_of (map shown desks))) nothing in omega (arith, none, empty.2 weight))

module _ {X D : Type 0} where
  -- a hand whose view became w is the hand changed by g
  pub hand_after : (w : HandView X) (g : HandState X → HandState X) (pass next : Pass D (HandView X)) (old : HandState X) → state_of pass.table_id w ≡ g (hand_state pass) → hand_state pass ≡ old → next.table_id ≡ pass.table_id → view next ≡ w → hand_state next ≡ g old
  hand_after w g pass next old same is ring step = ap₂ state_of ring step ∙ (same ∙ ap g is)

  -- a hand stays one
  pub still_hand : (pass next : Pass D (HandView X)) (w : HandView X) → IsHand pass → next.me.1 ≡ pass.me.1 → view next ≡ w → 0 < length w.numbers → IsHand next
  still_hand pass next w hand rest is live = record { at_rest = rest ∙ hand.at_rest; live = subst (λ (u : HandView X). 0 < length u.numbers) (sym is) live }

-- ---- the first hand

-- a ring in which nothing waits
pub begins_of : {X D : Type 0} (shown : D → Shown X) → IsRingOf shown [] (first_view ∷ [])
begins_of shown = begins

first_opens : {X : Type 0} → IsOpening {X = X} 1 first_view
first_opens = record { stands = refl; handlers_is = refl; names_is = refl; stage_is = refl; held_is = refl; last_is = refl }

pub opens : {X : Type 0} (v : HandView X) → v ≡ first_view → IsOpening 1 v
opens v is = subst (IsOpening 1) (sym is) first_opens

pub grow_owes : {X D : Type 0} (shown : D → Shown X) (pass : Pass D (HandView X)) (n : ℕ) → 1 ≤ n → IsOpening n (view pass) → Forks (IsRingOf shown) pass.id (view pass) (grown_view (view pass)) idle_view
grow_owes shown pass n some_one o desks views r at =
    grows pass.id (view pass) o.stage_is (omega (arith, o.stands, some_one)) (o.stands ∙ sym o.handlers_is) (map shown desks) views r at

-- the crew has one handler more
pub grown : {X : Type 0} (n : ℕ) (v w : HandView X) → IsOpening n v → w ≡ grown_view v → IsOpening (n + 1) w
grown n v w o is =
    subst (IsOpening (n + 1)) (sym is)
    (record {
      stands = omega (arith, o.stands, length_push v.numbers v.crew.handlers);
      handlers_is = ap (λ (k : ℕ). k + 1) o.handlers_is;
      names_is = o.names_is;
      stage_is = o.stage_is;
      held_is = o.held_is;
      last_is = o.last_is;
    })

pub opening_is : {X : Type 0} (ring : TableId) (n : ℕ) (v : HandView X) → IsOpening n v → state_of ring v ≡ opening_hand ring n
opening_is ring n v o = λ i. record {
  ring = ring;
  hands = o.stands i;
  names = o.names_is i;
  handlers = o.handlers_is i;
  stage = o.stage_is i;
  held = o.held_is i;
  last = o.last_is i;
}

-- ---- a hand that hires, and the one that is hired

pub hiring_is : {X : Type 0} (ring : TableId) (v : HandView X) → 2 ≤ length v.numbers → state_of ring (hiring_view v) ≡ hiring_hand (state_of ring v)
hiring_is ring v two = λ i. record { ring = ring; hands = hiring_count v.numbers two i; names = v.crew.names; handlers = v.crew.handlers; stage = v.crew.stage; held = v.held; last = v.last }

pub hired_is : {X : Type 0} (ring : TableId) (v : HandView X) → 2 ≤ length v.numbers → state_of ring (hired_view v) ≡ hired_hand (state_of ring v)
hired_is ring v two = λ i. record { ring = ring; hands = hired_count v.numbers two i; names = v.crew.names; handlers = v.crew.handlers; stage = v.crew.stage; held = []; last = no_last }

pub joined_is : {X : Type 0} (ring theirs : TableId) (v w : HandView X) → state_of ring (joined_view v w) ≡ joined_hand (state_of ring v) (state_of theirs w)
joined_is ring theirs v w = λ i. record { ring = ring; hands = length-append v.numbers w.numbers i; names = v.crew.names; handlers = v.crew.handlers; stage = v.crew.stage; held = v.held; last = v.last }
