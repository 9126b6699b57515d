-- What loops keep while a crew is made, and what follows of it.
use Rattle.std.proofs.Common.{◌≡◌, ◌⊎◌, inl, inr, None, Bool, ℕ, ◌+◌, ◌^◌, ◌<◌, ◌≤◌, List, [], ◌∷◌, ◌++◌, length, map, get_or, set, All, refl, sym, ap, ap₂, subst, ◌∙◌, arith}
use Rattle.std.specs.List.{range_with_len}
use Rattle.std.proofs.Math.Seq.{map-set_same}
use Rattle.std.proofs.lemmas.Simd.{map-map}
use Rattle.std.proofs.lemmas.List.{map-append, length-map, length-append, length_push, append_assoc, append-nil, get_or-map, nil_from_length}
use Rattle.std.proofs.lemmas.List.Elements.{All-map, All-push, All-set}
use Rattle.std.proofs.lemmas.List.FromFn.{length-range_with_len}
use Rattle.std.specs.Vec.Iter.{into_iter_items, into_iter_steps}
use Rattle.std.specs.declared.vec.IntoIter.{IntoIter}
use Rattle.atomic_table.specs.Seated.{TableId}
use Rattle.cb_crew.specs.declared.queued.Queued.{Queued}
use Rattle.cb_crew.specs.Seat.{InboxState, SeatState, opening_seat}
use Rattle.cb_crew.specs.Ring.{DeskName, HandState, RingState, making, most_peers, StandsForAll, made_hand, running_hand, hired_hand, hiring_hand}
use Rattle.cb_crew.specs.declared.reader_side.ReaderSide.{ReaderSide}
use Rattle.cb_crew.specs.declared.reader_side.ReaderSide.TheVariants as side
use Rattle.cb_crew.specs.Desk.{DeskState, first_label}
use Rattle.cb_crew.specs.Turn.{HandlerState, IsNoteOf, shown_desk}
use Rattle.cb_crew.specs.Crew.{CrewState, AreHandlersOf, AreOpeningSeats, AreSidesOf, FirstHasRoom, HasPlace, IsCrew, IsFreeHandOf, IsHandlerOf, IsNewCrew, MadeNoTurn, inbox_of, names_of}
use Rattle.cb_crew.specs.Unmanned.{AreLines, IsOpeningHandOf}
use Rattle.cb_crew.proofs.RingSums.{range_push}
use Rattle.cb_crew.proofs.Crews.{names_count, peer_at}

-- ---- inboxes

-- one peer's more
pub lines_more : {Q : Type 0} (n capacity : ℕ) (inboxes inboxes' : List InboxState) (readers readers' : List (SeatState Q)) (vacancies vacancies' : List InboxState) (inbox shared vacancy : InboxState) (reader : SeatState Q) → AreLines n capacity inboxes readers vacancies
    → (inbox.peer ≡ n) × (inbox.capacity ≡ capacity) → reader ≡ opening_seat inbox.name → shared ≡ inbox → vacancy ≡ shared → inboxes' ≡ inboxes ++ shared ∷ [] → readers' ≡ readers ++ reader ∷ [] → vacancies' ≡ vacancies ++ vacancy ∷ [] → AreLines (n + 1) capacity inboxes' readers' vacancies'
lines_more n capacity inboxes inboxes' readers readers' vacancies vacancies' inbox shared vacancy reader lines made reader_is shared_is vacancy_is is ris vis =
    let seats : map opening_seat (map (λ (i : InboxState). i.name) (inboxes ++ inbox ∷ [])) ≡ map opening_seat (map (λ (i : InboxState). i.name) inboxes) ++ opening_seat inbox.name ∷ [] = ap (map opening_seat) (map-append (λ (i : InboxState). i.name) inboxes (inbox ∷ [])) ∙ map-append opening_seat (map (λ (i : InboxState). i.name) inboxes) (inbox.name ∷ []) in
    rw (is, ris, vis, vacancy_is, shared_is) record {
      in_order = map-append (λ (i : InboxState). i.peer) inboxes (inbox ∷ []) ∙ (ap₂ (λ (xs : List ℕ) (p : ℕ). xs ++ p ∷ []) lines.in_order made.0 ∙ sym (range_push n));
      capacities = All-push (λ (i : InboxState). i.capacity ≡ capacity) inboxes inbox lines.capacities made.1;
      readers_are = ap₂ (λ (xs : List (SeatState _)) x. xs ++ x ∷ []) lines.readers_are reader_is ∙ sym seats;
      vacancies_are = ap (λ (xs : List InboxState). xs ++ inbox ∷ []) lines.vacancies_are;
    }

-- they are as many as the peers
pub lines_count : {Q : Type 0} (n capacity : ℕ) (inboxes : List InboxState) (readers : List (SeatState Q)) (vacancies : List InboxState) → AreLines n capacity inboxes readers vacancies → length inboxes ≡ n
lines_count n capacity inboxes readers vacancies lines = sym (length-map inboxes (λ (i : InboxState). i.peer)) ∙ (ap (length {A = ℕ}) lines.in_order ∙ length-range_with_len 0 n)

pub crew_of_lines : {Q : Type 0} (labels : List ℕ) (n handlers capacity : ℕ) (ring : RingState) (inboxes : List InboxState) (readers : List (SeatState Q)) (vacancies : List InboxState) → AreLines n capacity inboxes readers vacancies → (1 ≤ n) × (n ≤ most_peers) → 1 ≤ handlers → ring.capacity ≡ n
    → IsCrew record { ring = ring; inboxes = inboxes; handlers = handlers; labels = labels } × IsNewCrew n handlers capacity record { ring = ring; inboxes = inboxes; handlers = handlers; labels = labels }
crew_of_lines labels n handlers capacity ring inboxes readers vacancies lines peers some room =
    let count : length inboxes ≡ n = lines_count n capacity inboxes readers vacancies lines in (
      record {
        some = omega (arith, count, peers);
        few = omega (arith, count, peers);
        in_order = lines.in_order ∙ ap (range_with_len 0) (sym count);
        working = some;
        room = omega (arith, count, room);
      },
      record { peers_are = count; handlers_are = refl; capacities = lines.capacities },
    )

-- ---- desks

-- The hand of a crew whose desks are made, with the inboxes whose desks are still to come, and the labels of their works.
pub record IsMaking {X : Type 0} (crew : CrewState) (left : List InboxState) (labels : List ℕ) (hand : HandState X) : Type 0 where
  pub ring_is : hand.ring ≡ crew.ring.name
  pub hands_is : hand.hands ≡ crew.handlers
  pub handlers_is : hand.handlers ≡ crew.handlers
  pub stage_is : hand.stage ≡ making
  pub free : hand.held ≡ []
  pub made : List InboxState
  pub split : made ++ left ≡ crew.inboxes
  pub names_is : map (λ (n : DeskName). n.inbox) hand.names ≡ map (λ (i : InboxState). i.name) made
  pub labels_split : map (λ (n : DeskName). n.label) hand.names ++ labels ≡ crew.labels

pub making_first : {X : Type 0} (crew : CrewState) (hand : HandState X) → IsOpeningHandOf crew hand → IsMaking crew crew.inboxes crew.labels hand
making_first crew hand is = rw is record { ring_is = refl; hands_is = refl; handlers_is = refl; stage_is = refl; free = refl; made = []; split = refl; names_is = refl; labels_split = refl }

-- the same of equal lists
pub making_start : {X : Type 0} (crew : CrewState) (left : List InboxState) (labels : List ℕ) (hand : HandState X) → IsOpeningHandOf crew hand → left ≡ crew.inboxes → labels ≡ crew.labels → IsMaking crew left labels hand
making_start crew left labels hand opening left_is labels_is = subst (λ ls. IsMaking crew left ls hand) (sym labels_is) (subst (λ is. IsMaking crew is crew.labels hand) (sym left_is) (making_first crew hand opening))

stands_next : (made next : List InboxState) (inbox : InboxState) → get_or (made ++ inbox ∷ next) (length made) inbox ≡ inbox
stands_next [] next inbox = refl
stands_next (i ∷ is) next inbox = stands_next is next inbox

-- what the next desk needs
pub making_owes : {X : Type 0} (seen crew : CrewState) (inbox : InboxState) (left next : List InboxState) (labels : List ℕ) (hand : HandState X) (peer : ℕ) → seen ≡ crew → IsCrew seen → IsMaking crew left labels hand → left ≡ inbox ∷ next → peer ≡ inbox.peer → (peer ≡ length hand.names) × (length hand.names < seen.ring.capacity)
making_owes seen crew inbox left next labels hand peer seen_is is m left_is peer_is =
    let count : length hand.names ≡ length m.made = sym (length-map hand.names (λ (n : DeskName). n.inbox)) ∙ (ap (length {A = TableId}) m.names_is ∙ length-map m.made (λ (i : InboxState). i.name)) in
    let split : m.made ++ inbox ∷ next ≡ seen.inboxes = ap (λ (is : List InboxState). m.made ++ is) (sym left_is) ∙ (m.split ∙ ap (λ (k : CrewState). k.inboxes) (sym seen_is)) in
    let total : length m.made + length (inbox ∷ next) ≡ length seen.inboxes = sym (length-append m.made (inbox ∷ next)) ∙ ap (length {A = InboxState}) split in
    let within : length m.made < length seen.inboxes = omega (arith, total) in
    let at : inbox ≡ get_or seen.inboxes (length m.made) inbox = sym (stands_next m.made next inbox) ∙ ap (λ (is : List InboxState). get_or is (length m.made) inbox) split in
    (peer_is ∙ (peer_at seen.inboxes (length m.made) inbox is.in_order within at ∙ sym count), omega (arith, count, within, is.room))

pub making_more : {W M : Type 0} (label : W → ℕ) (is_closed : W → Bool) (crew : CrewState) (inbox : InboxState) (left next : List InboxState) (work : W) (works rest : List W) (hand hand' : HandState (DeskState W M)) (desk : DeskState W M) → left ≡ inbox ∷ next → works ≡ work ∷ rest → desk.inbox ≡ inbox → first_label label desk ≡ label work → hand' ≡ made_hand hand (shown_desk label is_closed desk) → IsMaking crew left (map label works) hand → IsMaking crew next (map label rest) hand'
making_more label is_closed crew inbox left next work works rest hand hand' desk left_is works_is desk_is work_is is m = rw is record {
  ring_is = m.ring_is;
  hands_is = m.hands_is;
  handlers_is = m.handlers_is;
  stage_is = m.stage_is;
  free = m.free;
  made = m.made ++ inbox ∷ [];
  split = append_assoc m.made (inbox ∷ []) next ∙ (ap (λ (is : List InboxState). m.made ++ is) (sym left_is) ∙ m.split);
  names_is = map-append (λ (n : DeskName). n.inbox) hand.names (record { inbox = desk.inbox.name; label = first_label label desk } ∷ [])
      ∙ (ap₂ (λ (ns : List TableId) n. ns ++ n ∷ []) m.names_is (ap (λ (i : InboxState). i.name) desk_is) ∙ sym (map-append (λ (i : InboxState). i.name) m.made (inbox ∷ [])));
  labels_split = ap (λ (ls : List ℕ). ls ++ map label rest) (map-append (λ (n : DeskName). n.label) hand.names (record { inbox = desk.inbox.name; label = first_label label desk } ∷ []))
      ∙ (append_assoc (map (λ (n : DeskName). n.label) hand.names) (first_label label desk ∷ []) (map label rest)
      ∙ (ap (λ l. map (λ (n : DeskName). n.label) hand.names ++ l ∷ map label rest) work_is
      ∙ (ap (λ ws. map (λ (n : DeskName). n.label) hand.names ++ map label ws) (sym works_is) ∙ m.labels_split)));
}

-- all are made
pub making_done : {X W : Type 0} (label : W → ℕ) (crew : CrewState) (left : List InboxState) (works : List W) (hand hand' : HandState X) → left ≡ [] → length works ≡ length left → hand' ≡ running_hand hand → IsMaking crew left (map label works) hand → IsFreeHandOf crew hand' × StandsForAll hand'
making_done label crew left works hand hand' left_is same is m = rw is (
  record {
    ring_is = m.ring_is;
    names_is = record {
      inboxes = m.names_is ∙ ap (map (λ (i : InboxState). i.name)) (sym (append-nil m.made) ∙ (ap (λ (is : List InboxState). m.made ++ is) (sym left_is) ∙ m.split));
      labels = sym (append-nil (map (λ (n : DeskName). n.label) hand.names)) ∙ (ap (λ ws. map (λ (n : DeskName). n.label) hand.names ++ map label ws) (sym (nil_from_length works (omega (arith, same, ap length left_is)))) ∙ m.labels_split);
    };
    handlers_is = m.handlers_is;
    stage_is = refl;
    free = m.free;
  },
  m.hands_is ∙ sym m.handlers_is,
)

-- two lists of one length, gone through together
pub same_left : {A B : Type 0} (vacancies left : List A) (works rest : List B) (vacancy : A) (work : B) → vacancies ≡ vacancy ∷ left → works ≡ work ∷ rest → length works ≡ length vacancies → length rest ≡ length left
same_left vacancies left works rest vacancy work more more' same = omega (arith, ap (length {A = _}) more, ap (length {A = _}) more', same)

-- they end together
pub none_left : {A B Z : Type 0} (vacancies : IntoIter A Z) (works : IntoIter B Z) → ((u : IntoIter A Z) × into_iter_steps vacancies None u) ⊎ ((u : IntoIter B Z) × into_iter_steps works None u) → length (into_iter_items works) ≡ length (into_iter_items vacancies) → into_iter_items vacancies ≡ []
none_left vacancies works (inl ended) same = nil_from_length (into_iter_items vacancies) (omega (arith, ended.1.0, vacancies.rest.ok.0))
none_left vacancies works (inr ended) same = nil_from_length (into_iter_items vacancies) (omega (arith, ended.1.0, works.rest.ok.0, same))

-- ---- handlers

-- The first handler's list has room for all desks, or else the list that the next one gets.
abbrev pub StillHasRoom : {X : Type 0} → CrewState → List (HandlerState X) → ℕ → Type 0
StillHasRoom crew [] room = length crew.inboxes ≤ room
StillHasRoom crew (first ∷ others) room = length crew.inboxes ≤ first.room

pub room_kept : {X : Type 0} (crew : CrewState) (handlers : List (HandlerState X)) (handler : HandlerState X) (room next : ℕ) → handler.room ≡ room → StillHasRoom crew handlers room → StillHasRoom crew (handlers ++ handler ∷ []) next
room_kept crew [] handler room next is fits = subst (λ n. length crew.inboxes ≤ n) (sym is) fits
room_kept crew (first ∷ others) handler room next is fits = fits

-- The hand of a crew whose handlers are hired, with those that were.
pub record IsHiring {X : Type 0} (crew : CrewState) (hand : HandState X) (room : ℕ) (handlers : List (HandlerState X)) : Type 0 where
  pub hand_is : IsFreeHandOf crew hand
  pub count : hand.hands + length handlers ≡ crew.handlers
  pub each : All (IsHandlerOf crew) handlers
  pub turns : MadeNoTurn handlers
  pub fits : StillHasRoom crew handlers room

pub hiring_more : {X : Type 0} (crew : CrewState) (hand hand' hired : HandState X) (handler : HandlerState X) (room room' next : ℕ) (handlers handlers' : List (HandlerState X)) → 2 ≤ hand.hands → hired ≡ hired_hand hand → hand' ≡ hiring_hand hand → room' ≡ room → handler ≡ record { hand = hired; turns = 0; room = room' } → handlers' ≡ handlers ++ handler ∷ []
    → IsHiring crew hand room handlers → IsHiring crew hand' next handlers'
hiring_more {X} crew hand hand' hired handler room room' next handlers handlers' two hired_is hand_is room_is handler_is is h =
    let new : HandlerState X = record { hand = hired_hand hand; turns = 0; room = room } in
    rw (is, handler_is, room_is, hired_is, hand_is) record {
      hand_is = record { ring_is = h.hand_is.ring_is; names_is = h.hand_is.names_is; handlers_is = h.hand_is.handlers_is; stage_is = h.hand_is.stage_is; free = h.hand_is.free };
      count = omega (arith, h.count, two, length_push handlers new);
      each = All-push (IsHandlerOf crew) handlers new h.each (record { ring_is = h.hand_is.ring_is; names_is = h.hand_is.names_is; handlers_is = h.hand_is.handlers_is; stage_is = h.hand_is.stage_is; free = refl }, refl);
      turns = All-push (λ (k : HandlerState X). k.turns ≡ 0) handlers new h.turns refl;
      fits = room_kept crew handlers new room next refl h.fits;
    }

first_has_room : {X : Type 0} (crew : CrewState) (handlers : List (HandlerState X)) (handler : HandlerState X) (room : ℕ) → handler.room ≡ room → StillHasRoom crew handlers room → FirstHasRoom crew (handlers ++ handler ∷ [])
first_has_room crew [] handler room is fits = subst (λ n. length crew.inboxes ≤ n) (sym is) fits
first_has_room crew (first ∷ others) handler room is fits = fits

pub hiring_done : {X : Type 0} (crew : CrewState) (hand : HandState X) (handler : HandlerState X) (room : ℕ) (handlers handlers' : List (HandlerState X)) → hand.hands ≡ 1 → handler ≡ record { hand = hand; turns = 0; room = room } → handlers' ≡ handlers ++ handler ∷ [] → IsHiring crew hand room handlers → AreHandlersOf crew handlers' × MadeNoTurn handlers'
hiring_done {X} crew hand handler room handlers handlers' one handler_is is h =
    let last : HandlerState X = record { hand = hand; turns = 0; room = room } in
    rw (is, handler_is) (
      record {
        each = All-push (IsHandlerOf crew) handlers last h.each (h.hand_is, one);
        all = omega (arith, h.count, one, length_push handlers last);
        first = first_has_room crew handlers last room refl h.fits;
      },
      All-push (λ (k : HandlerState X). k.turns ≡ 0) handlers last h.turns refl,
    )

-- ---- what follows of a new crew

-- a note of an inbox is one of the peer's at whose place that stands
pub note_of : {X Q : Type 0} (crew : CrewState) (handler : HandlerState X) (k : ℕ) (inbox : InboxState) (note : SeatState Q) → IsHandlerOf crew handler → k < length crew.inboxes → inbox ≡ get_or crew.inboxes k inbox → note.inbox ≡ inbox.name → IsNoteOf handler.hand.names k note
note_of crew handler k inbox note is within at same = record {
  exists = omega (arith, within, names_count crew handler.hand.names is.0.names_is);
  inbox = ap (λ ns. get_or ns k note.inbox) is.0.names_is.inboxes ∙ (get_or-map (λ (i : InboxState). i.name) crew.inboxes k inbox note.inbox within ∙ (ap (λ (i : InboxState). i.name) (sym at) ∙ sym same));
}

-- the reader's seat at a peer's place is that of the peer's inbox
pub reader_at : {Q : Type 0} (crew : CrewState) (seats : List (SeatState Q)) (k : ℕ) (seat : SeatState Q) (inbox : InboxState) → AreOpeningSeats crew seats → k < length crew.inboxes → seat ≡ get_or seats k seat → inbox ≡ get_or crew.inboxes k inbox → seat ≡ opening_seat inbox.name
reader_at {Q} crew seats k seat inbox are within seat_is inbox_is =
    let at_names : get_or (map opening_seat (names_of crew)) k seat ≡ opening_seat (get_or (names_of crew) k inbox.name) = get_or-map opening_seat (names_of crew) k inbox.name seat (omega (arith, within, length-map crew.inboxes (λ (i : InboxState). i.name))) in
    let at_inboxes : get_or (names_of crew) k inbox.name ≡ (get_or crew.inboxes k inbox).name = get_or-map (λ (i : InboxState). i.name) crew.inboxes k inbox inbox.name within in
    seat_is ∙ (ap (λ (ss : List (SeatState Q)). get_or ss k seat) are ∙ (at_names ∙ ap opening_seat (at_inboxes ∙ ap (λ (i : InboxState). i.name) (sym inbox_is))))

names_of_seats : (M O : Type 0) (names : List TableId) → map (inbox_of {M = M} {O = O}) (map side.Live (map opening_seat names)) ≡ names
names_of_seats M O [] = refl
names_of_seats M O (name ∷ names) = ap (λ ns. name ∷ ns) (names_of_seats M O names)

-- its readers' seats are sides of it
pub opening_sides : {M O : Type 0} (crew : CrewState) (seats : List (SeatState (Queued M O))) (sides : List (ReaderSide M O)) → AreOpeningSeats crew seats → sides ≡ map side.Live seats → AreSidesOf crew sides
opening_sides crew seats sides are is = rw (is, are) record {
  inboxes = names_of_seats _ _ (names_of crew);
  places = All-map HasPlace side.Live (map opening_seat (names_of crew)) (All-map (λ seat. HasPlace (side.Live seat)) opening_seat (names_of crew) (λ k name lt. omega arith));
}

-- and so they are where one of them queued something
pub fed_sides : {M O : Type 0} (crew : CrewState) (seats fed : List (SeatState (Queued M O))) (sides : List (ReaderSide M O)) (k : ℕ) (seat put : SeatState (Queued M O)) → AreOpeningSeats crew seats → seat ≡ get_or seats k seat → fed ≡ set seats k put → put.inbox ≡ seat.inbox → length put.queued < 2 ^ 48 → sides ≡ map side.Live fed → AreSidesOf crew sides
fed_sides crew seats fed sides k seat put are at fed_is same few is =
    let opening = opening_sides crew seats (map side.Live seats) are refl in
    rw (is, fed_is) record {
      inboxes = map-map inbox_of side.Live (set seats k put) ∙ (map-set_same (λ (s : SeatState (Queued _ _)). s.inbox) seats k put seat (same ∙ ap (λ (s : SeatState (Queued _ _)). s.inbox) at) ∙ (sym (map-map inbox_of side.Live seats) ∙ opening.inboxes));
      places = All-map HasPlace side.Live (set seats k put) (All-set (λ seat. HasPlace (side.Live seat)) seats k put few (subst (All (λ seat. HasPlace (side.Live seat))) (sym are) (All-map (λ seat. HasPlace (side.Live seat)) opening_seat (names_of crew) (λ j name lt. omega arith))));
    }
