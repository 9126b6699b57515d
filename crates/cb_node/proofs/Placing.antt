-- What a node is started with.
use Rattle.std.proofs.Common.{◌≡◌, ℕ, suc, ◌+◌, ◌-◌, ◌<◌, false, List, [], ◌∷◌, ◌++◌, length, map, take, drop, replicate, slice_index_or, All, refl, sym, ap, subst, ◌∙◌, arith}
use Rattle.std.proofs.lemmas.List.{append-nil, drop_more, get_or-map, length-drop, length-map, map-append, take_all, take_more}
use Rattle.std.proofs.lemmas.List.Elements.{All-append, All-cons, All-nil}
use Rattle.std.specs.List.{AllZip}
use Rattle.atomic_table.specs.Seated.{TableId}
use Rattle.cb_crew.specs.Seat.{InboxState, SeatState, opening_seat}
use Rattle.cb_crew.specs.Crew.{CrewState}
use Rattle.cb_crew.proofs.Works.{zip_push}
use Rattle.cb_node.specs.Slot.{AreSlotsOf, IsInboxOf, SlotState, inboxes_of, new_slot, uses_of}
use Rattle.cb_node.proofs.Linking.{moved}

-- ---- the slots of a new crew

abbrev pub seats_of : {S : Type 0} → (TableId → S) → List InboxState → List S
seats_of seat_of inboxes = map seat_of (map (λ (inbox : InboxState). inbox.name) inboxes)

-- where a seat is left, an inbox is
pub some_left : {S : Type 0} (seat_of : TableId → S) (inboxes : List InboxState) (k : ℕ) (seat : S) (rest left : List S)
    → rest ≡ seats_of seat_of (drop k inboxes) → rest ≡ seat ∷ left → k < length inboxes
some_left seat_of inboxes k seat rest left was steps =
    let names : List TableId = map (λ (inbox : InboxState). inbox.name) (drop k inboxes) in
    let counts : suc (length left) ≡ length inboxes - k =
    ap length (sym steps ∙ was) ∙ length-map names seat_of ∙ length-map (drop k inboxes) (λ (inbox : InboxState). inbox.name) ∙ length-drop k inboxes in
    omega arith

-- and the seat is of the inbox at its place
pub seat_here : {S : Type 0} (seat_of : TableId → S) (inboxes : List InboxState) (k : ℕ) (at : InboxState) (seat : S) (rest left : List S)
    → rest ≡ seats_of seat_of (drop k inboxes) → rest ≡ seat ∷ left → at ≡ slice_index_or inboxes k at → (seat ≡ seat_of at.name) × (left ≡ seats_of seat_of (drop (k + 1) inboxes))
seat_here seat_of inboxes k at seat rest left was steps here =
    let lt = some_left seat_of inboxes k seat rest left was steps in
    let both : seat ∷ left ≡ seat_of at.name ∷ seats_of seat_of (drop (k + 1) inboxes) =
    sym steps ∙ was ∙ ap (seats_of seat_of) (drop_more inboxes k at lt ∙ ap (λ i. i ∷ drop (k + 1) inboxes) (sym here)) in
    (ap (λ ss. slice_index_or ss 0 seat) both, ap (drop 1) both)

-- So many inboxes have their slots. The rest have their seats and links.
pub record IsPlacing {Q L : Type 0} (crew : CrewState) (k : ℕ) (slots : List SlotState) (rest : List (SeatState Q)) (left : List L) : Type 0 where
  pub slots_are : slots ≡ map new_slot (take k crew.inboxes)
  pub each : All (IsInboxOf crew) (take k crew.inboxes)
  pub seats_left : rest ≡ seats_of opening_seat (drop k crew.inboxes)
  pub as_many : length left ≡ length rest

pub placing_none : {Q L : Type 0} (crew : CrewState) (slots : List SlotState) (rest : List (SeatState Q)) (left : List L)
    → slots ≡ [] → rest ≡ seats_of opening_seat crew.inboxes → length left ≡ length rest → IsPlacing crew 0 slots rest left
placing_none crew slots rest left none seats many = record { slots_are = none; each = All-nil (IsInboxOf crew); seats_left = seats; as_many = many }

pub placing_more : {Q L : Type 0} (crew : CrewState) (k : ℕ) (at : InboxState) (slots new : List SlotState) (seat : SeatState Q) (link : L) (rest rest' : List (SeatState Q)) (left left' : List L)
    → IsPlacing crew k slots rest left → rest ≡ seat ∷ rest' → left ≡ link ∷ left' → at ≡ slice_index_or crew.inboxes k at → at.peer ≡ k → new ≡ slots ++ new_slot at ∷ [] → IsPlacing crew (k + 1) new rest' left'
placing_more crew k at slots new seat link rest rest' left left' was steps steps' here peer pushed =
    let inboxes : List InboxState = crew.inboxes in
    let lt : k < length inboxes = some_left opening_seat inboxes k seat rest rest' was.seats_left steps in
    let more : take (k + 1) inboxes ≡ take k inboxes ++ at ∷ [] = take_more inboxes k at lt ∙ ap (λ i. take k inboxes ++ i ∷ []) (sym here) in
    let named : at.name ≡ slice_index_or (map (λ (i : InboxState). i.name) inboxes) at.peer at.name =
    ap (λ (i : InboxState). i.name) here ∙ sym (get_or-map (λ (i : InboxState). i.name) inboxes k at at.name lt) ∙ ap (λ n. slice_index_or (map (λ (i : InboxState). i.name) inboxes) n at.name) (sym peer) in
    let of : IsInboxOf crew at = record { peer = omega (arith, lt, peer); name = named } in
    record {
      slots_are = pushed ∙ ap (λ xs. xs ++ new_slot at ∷ []) was.slots_are ∙ sym (map-append new_slot (take k inboxes) (at ∷ [])) ∙ ap (map new_slot) (sym more);
      each = subst (All (IsInboxOf crew)) (sym more) (All-append (IsInboxOf crew) (take k inboxes) (at ∷ []) was.each (All-cons (IsInboxOf crew) at [] of (All-nil (IsInboxOf crew))));
      seats_left = (seat_here opening_seat inboxes k at seat rest rest' was.seats_left steps here).1;
      as_many = omega (arith, ap length steps, ap length steps', was.as_many);
    }

inboxes_back : (inboxes : List InboxState) → inboxes_of (map new_slot inboxes) ≡ inboxes
inboxes_back [] = refl
inboxes_back (i ∷ inboxes) = ap (λ is. i ∷ is) (inboxes_back inboxes)

-- where no seat is left, each inbox has its slot
pub placing_all : {Q L : Type 0} (crew : CrewState) (k : ℕ) (slots : List SlotState) (rest : List (SeatState Q)) (left : List L)
    → IsPlacing crew k slots rest left → rest ≡ [] → AreSlotsOf crew slots × (slots ≡ map new_slot crew.inboxes)
placing_all crew k slots rest left was none =
    let inboxes : List InboxState = crew.inboxes in
    let names : List TableId = map (λ (inbox : InboxState). inbox.name) (drop k inboxes) in
    let counts : 0 ≡ length inboxes - k =
    ap length (sym none ∙ was.seats_left) ∙ length-map names opening_seat ∙ length-map (drop k inboxes) (λ (inbox : InboxState). inbox.name) ∙ length-drop k inboxes in
    let all : take k inboxes ≡ inboxes = take_all k inboxes (omega arith) in
    let are : slots ≡ map new_slot inboxes = was.slots_are ∙ ap (map new_slot) all in
    (record { inboxes = ap inboxes_of are ∙ inboxes_back inboxes; each = subst (All (IsInboxOf crew)) all was.each }, are)

-- none of the new slots ever had a socket
pub uses_none : (inboxes : List InboxState) → uses_of (map new_slot inboxes) ≡ replicate (length inboxes) false
uses_none [] = refl
uses_none (i ∷ inboxes) = ap (λ us. false ∷ us) (uses_none inboxes)

-- ---- the sides of slots that end

-- one side more, of the next slot
pub sides_more : {S T N : Type 0} (f : S → N) (g : T → N) (P : S → Type 0) (done new : List S) (s : S) (t : T) (rest left : List T) (all : List N)
    → map f done ++ map g rest ≡ all → All P done → rest ≡ t ∷ left → new ≡ done ++ s ∷ [] → f s ≡ g t → P s → (map f new ++ map g left ≡ all) × All P new
sides_more f g P done new s t rest left all was are steps pushed is here = (
  moved f g done new s t rest left all was steps pushed is,
  subst (All P) (sym pushed) (All-append P done (s ∷ []) are (All-cons P s [] here (All-nil P))),
)

-- where no slot is left, all are
pub sides_all : {S T N : Type 0} (f : S → N) (g : T → N) (done : List S) (rest : List T) (all : List N) → map f done ++ map g rest ≡ all → rest ≡ [] → map f done ≡ all
sides_all f g done rest all was none = sym (append-nil (map f done)) ∙ ap (λ r. map f done ++ map g r) (sym none) ∙ was

-- and what its sockets gave
pub zip_on : {A B : Type 0} (R : A → B → Type 0) (xs xs' : List A) (ys ys' : List B) (x : A) (y : B) → AllZip R xs ys → xs' ≡ xs ++ x ∷ [] → ys' ≡ ys ++ y ∷ [] → R x y → AllZip R xs' ys'
zip_on R xs xs' ys ys' x y all more grown is = subst (λ zs. AllZip R zs ys') (sym more) (subst (AllZip R (xs ++ x ∷ [])) (sym grown) (zip_push R xs ys x y all is))
