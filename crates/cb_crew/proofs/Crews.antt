-- What follows of a crew's inboxes, of its handlers and of the hand that they become.
use Rattle.std.proofs.Common.{◌≡◌, ℕ, ◌+◌, ◌<◌, ◌≤◌, List, [], ◌∷◌, length, map, get_or, ◌++◌, sym, ap, subst, ◌∙◌, arith}
use Rattle.std.specs.List.{All, range_with_len, sum_by}
use Rattle.std.proofs.lemmas.List.{get_or-map, length-map, map-append}
use Rattle.std.proofs.lemmas.List.FromFn.{get_or-range_with_len}
use Rattle.std.proofs.lemmas.List.Elements.{All-tail, All-push}
use Rattle.cb_crew.specs.Seat.{InboxState}
use Rattle.cb_crew.specs.Ring.{DeskName, HandState, HoldsAll, Shown, IsHandOf, IsOfCrew, StandsForAll, joined_hand, kept_hand, peers_of}
use Rattle.cb_crew.specs.Turn.{HandlerState}
use Rattle.cb_crew.specs.Crew.{CrewState, AreAllDesks, AreDeskNames, IsCrew, IsFreeHandOf, IsHandlerOf, FirstHasRoom, AreHandlersOf}

-- an inbox is that of the peer at whose place it stands
pub peer_at : (inboxes : List InboxState) (k : ℕ) (inbox : InboxState) → map (λ (i : InboxState). i.peer) inboxes ≡ range_with_len 0 (length inboxes) → k < length inboxes → inbox ≡ get_or inboxes k inbox → inbox.peer ≡ k
peer_at inboxes k inbox order lt is =
    ap (λ (i : InboxState). i.peer) is ∙ (sym (get_or-map (λ (i : InboxState). i.peer) inboxes k inbox inbox.peer lt) ∙ (ap (λ ns. get_or ns k inbox.peer) order ∙ (get_or-range_with_len 0 (length inboxes) k inbox.peer lt ∙ omega arith)))

-- as many desks have names as there are inboxes
pub names_count : (crew : CrewState) (names : List DeskName) → AreDeskNames crew names → length names ≡ length crew.inboxes
names_count crew names are = sym (length-map names (λ (n : DeskName). n.inbox)) ∙ (ap length are.inboxes ∙ length-map crew.inboxes (λ (i : InboxState). i.name))

-- a free hand of the crew is one of its ring
pub hand_of : {X : Type 0} (crew inside : CrewState) (hand : HandState X) → inside ≡ crew → IsCrew inside → IsFreeHandOf crew hand → IsHandOf inside.ring hand
hand_of crew inside hand is ok free = (
  free.ring_is ∙ ap (λ (c : CrewState). c.ring.name) (sym is),
  omega (arith, names_count crew hand.names free.names_is, ok.room, ap (λ (c : CrewState). length c.inboxes) is),
)

-- ---- handlers become one hand

-- the first of them, and the others
pub front_is : {X : Type 0} (P : X → Type 0) (xs ys : List X) (x : X) → xs ≡ x ∷ ys → All P xs → P x × All P ys
front_is P xs ys x is all =
    let now : All P (x ∷ ys) = subst (All P) is all in
    (now 0 x (omega arith), All-tail P x ys now)

some_first : {X : Type 0} (crew : CrewState) (handlers : List (HandlerState X)) → 1 ≤ crew.handlers → AreHandlersOf crew handlers → handlers ≡ [] → ⊥
some_first crew handlers some are none = omega (arith, some, are.all, ap length none)

pub record IsGathered {X : Type 0} (crew : CrewState) (hand : HandState X) (rest : List (HandlerState X)) : Type 0 where
  pub free : IsFreeHandOf crew hand
  pub others : All (IsHandlerOf crew) rest
  pub count : hand.hands + length rest ≡ crew.handlers

pub gather_first : {X : Type 0} (crew : CrewState) (handlers rest : List (HandlerState X)) (first : HandlerState X) (hand : HandState X) → AreHandlersOf crew handlers → handlers ≡ first ∷ rest → hand ≡ first.hand → IsGathered crew hand rest
gather_first {X} crew handlers rest first hand are is hand_is =
    let parts = front_is (IsHandlerOf crew) handlers rest first is are.each in
    record {
      free = subst (IsFreeHandOf crew) (sym hand_is) parts.0.0;
      others = parts.1;
      count = omega (arith, ap (λ (h : HandState X). h.hands) hand_is, parts.0.1, are.all, ap length is);
    }

-- the list of the first has room for all desks
pub first_room : {X : Type 0} (crew : CrewState) (handlers rest : List (HandlerState X)) (first : HandlerState X) → AreHandlersOf crew handlers → handlers ≡ first ∷ rest → length crew.inboxes ≤ first.room
first_room crew handlers rest first are is = subst (FirstHasRoom crew) is are.first

joined_free : {X : Type 0} (crew : CrewState) (hand other : HandState X) → IsFreeHandOf crew hand → IsFreeHandOf crew (joined_hand hand other)
joined_free crew hand other free = record { ring_is = free.ring_is; names_is = free.names_is; handlers_is = free.handlers_is; stage_is = free.stage_is; free = free.free }

pub gather_next : {X : Type 0} (crew : CrewState) (hand other new : HandState X) (handlers rest : List (HandlerState X)) (handler : HandlerState X) → IsFreeHandOf crew hand → All (IsHandlerOf crew) handlers → hand.hands + length handlers ≡ crew.handlers → handlers ≡ handler ∷ rest → other ≡ handler.hand → new ≡ joined_hand hand other → IsGathered crew new rest
gather_next {X} crew hand other new handlers rest handler free each count is other_is new_is =
    let parts = front_is (IsHandlerOf crew) handlers rest handler is each in
    record {
      free = subst (IsFreeHandOf crew) (sym new_is) (joined_free crew hand other free);
      others = parts.1;
      count = omega (arith, ap (λ (h : HandState X). h.hands) new_is, ap (λ (h : HandState X). h.hands) other_is, parts.0.1, count, ap length is);
    }

pub other_free : {X : Type 0} (crew : CrewState) (other : HandState X) (handlers rest : List (HandlerState X)) (handler : HandlerState X) → All (IsHandlerOf crew) handlers → handlers ≡ handler ∷ rest → other ≡ handler.hand → IsFreeHandOf crew other
other_free crew other handlers rest handler each is other_is = subst (IsFreeHandOf crew) (sym other_is) (front_is (IsHandlerOf crew) handlers rest handler is each).0.0

-- ---- all desks are kept

pub record IsKeeping {X D : Type 0} (shown : D → Shown X) (crew : CrewState) (hand : HandState X) (desks : List D) : Type 0 where
  pub of_ring : IsHandOf crew.ring hand
  pub all : StandsForAll hand
  pub names : AreDeskNames crew hand.names
  pub held : hand.held ≡ map shown desks
  pub named : All (IsOfCrew hand.names) hand.held

pub keep_more : {X D : Type 0} (shown : D → Shown X) (crew : CrewState) (hand new : HandState X) (desks more : List D) (desk : D)
    → IsHandOf crew.ring hand → StandsForAll hand → AreDeskNames crew hand.names → hand.held ≡ map shown desks → All (IsOfCrew hand.names) hand.held
    → new ≡ kept_hand hand (shown desk) → IsOfCrew hand.names (shown desk) → more ≡ desks ++ desk ∷ [] → IsKeeping shown crew new more
keep_more {X} shown crew hand new desks more desk of_ring all names held named new_is of more_is =
    subst (λ (h : HandState X). IsKeeping shown crew h more) (sym new_is) (record {
      of_ring = of_ring;
      all = all;
      names = names;
      held = ap (λ ss. ss ++ shown desk ∷ []) held ∙ (sym (map-append shown desks (desk ∷ [])) ∙ ap (map shown) (sym more_is));
      named = All-push (IsOfCrew hand.names) hand.held (shown desk) named of;
    })

-- none is left
pub all_kept : {X D : Type 0} (shown : D → Shown X) (crew : CrewState) (hand : HandState X) (desks : List D) → AreDeskNames crew hand.names → hand.held ≡ map shown desks → All (IsOfCrew hand.names) hand.held → HoldsAll hand → AreAllDesks crew (map shown desks)
all_kept {X} shown crew hand desks names held named all = record {
  names = hand.names;
  names_is = names;
  each = λ weight. ap (λ (ss : List (Shown X)). sum_by weight (peers_of ss)) (sym held) ∙ (all weight ∙ ap (λ k. sum_by weight (range_with_len 0 k)) (names_count crew hand.names names));
  named = subst (All (IsOfCrew hand.names)) held named;
}
