-- Lists of slots.
use Rattle.std.proofs.Common.{◌≡◌, ℕ, ◌<◌, Bool, true, false, List, [], ◌∷◌, length, map, set, get_or, replicate, All, Option, Result, Ok, Err, IfOk, OnErr, refl, sym, ap, subst, ◌∙◌, arith}
use Rattle.std.specs.declared.net.socket_addr.SocketAddr.{SocketAddr}
use Rattle.std.proofs.lemmas.List.{get_or-map, get_or-set_same, length-map, length-set, map-set, set-get_or}
use Rattle.std.specs.List.{range_with_len}
use Rattle.std.proofs.lemmas.List.FromFn.{length-range_with_len}
use Rattle.std.proofs.lemmas.List.Elements.{All-cons, All-get_or, All-nil}
use Rattle.std.specs.declared.thread.PromisedHandle.{PromisedHandle}
use Rattle.cb_crew.specs.Seat.{InboxState}
use Rattle.cb_hall.specs.Badge.{AreBadges, BadgeState, first_of, fresh_badge}
use Rattle.cb_work.specs.PeerWork.{label_of}
use Rattle.cb_crew.specs.declared.reader_side.ReaderSide.{ReaderSide}
use Rattle.cb_crew.specs.Desk.{DeskState}
use Rattle.cb_crew.specs.Turn.{HandlerState}
use Rattle.cb_crew.specs.Crew.{AreHandlersOf, AreSidesOf, CrewState, HasPlace, inbox_of}
use Rattle.cb_service.specs.declared.promises.OfCrew.{OfCrew}
use Rattle.cb_service.specs.Service.{HandBack}
use Rattle.cb_node.specs.declared.fault.NodeFault.{NodeFault}
use Rattle.cb_node.specs.declared.fault.NodeFault.TheVariants.{NoSlot}
use Rattle.cb_node.specs.Choosing.{HasNone, IsChosen, IsLowest}
use Rattle.cb_node.specs.Slot.{AreAlike, AreAlikeBut, AreSlotsOf, AreThreadsOf, IsInboxOf, IsNew, SlotState, WaitsAt, attached, inboxes_of, names_in, new_slot, uses_of}
use Rattle.cb_node.specs.declared.settings.NodeSettings.{NodeSettings}
use Rattle.cb_node.specs.Node.{IsServed, NodeState, end_of, first_labels, first_of as first_slot, node_state, with_used}

-- ---- one slot changes

-- the slot at a place is of the crew
pub inbox_at : (crew : CrewState) (slots : List SlotState) (n : ℕ) (d : SlotState) → AreSlotsOf crew slots → n < length slots → IsInboxOf crew (get_or slots n d).inbox
inbox_at crew slots n d are lt =
    let all : List InboxState = crew.inboxes in
    let counts : length all ≡ length slots = ap length (sym are.inboxes) ∙ length-map slots (λ (s : SlotState). s.inbox) in
    let here : get_or all n d.inbox ≡ (get_or slots n d).inbox =
    ap (λ is. get_or is n d.inbox) (sym are.inboxes) ∙ get_or-map (λ (s : SlotState). s.inbox) slots n d d.inbox lt in
    subst (IsInboxOf crew) here (All-get_or (IsInboxOf crew) all n d.inbox (omega (arith, counts, lt)) are.each)

pub alike_refl : (slots : List SlotState) → AreAlike slots slots
alike_refl slots = record { inboxes = refl; uses = refl }

-- slots that are alike are of the same crew
pub still_of : (crew : CrewState) (old new : List SlotState) → AreSlotsOf crew old → inboxes_of new ≡ inboxes_of old → AreSlotsOf crew new
still_of crew old new are same = record { inboxes = same ∙ are.inboxes; each = are.each }

-- as many
pub as_many : (old new : List SlotState) → inboxes_of new ≡ inboxes_of old → length new ≡ length old
as_many old new same = sym (length-map new (λ (s : SlotState). s.inbox)) ∙ ap length same ∙ length-map old (λ (s : SlotState). s.inbox)

-- the slot at a place is another one with the same inbox, and had a socket as before
pub alike_set : (old new : List SlotState) (n : ℕ) (d s : SlotState) → new ≡ set old n s → s.inbox ≡ (get_or old n d).inbox → s.used ≡ (get_or old n d).used → AreAlike old new
alike_set old new n d s is inbox used = record {
  inboxes = ap inboxes_of is ∙ map-set (λ (t : SlotState). t.inbox) old n s ∙ ap (λ i. set (inboxes_of old) n i) inbox ∙ sym (map-set (λ (t : SlotState). t.inbox) old n (get_or old n d)) ∙ ap inboxes_of (set-get_or old n d);
  uses = ap uses_of is ∙ map-set (λ (t : SlotState). t.used) old n s ∙ ap (λ u. set (uses_of old) n u) used ∙ sym (map-set (λ (t : SlotState). t.used) old n (get_or old n d)) ∙ ap uses_of (set-get_or old n d);
}

-- and so on from slots that are alike already
pub alike_then : (old mid new : List SlotState) (n : ℕ) (d s : SlotState) → AreAlike old mid → new ≡ set mid n s → s.inbox ≡ (get_or mid n d).inbox → s.used ≡ (get_or mid n d).used → AreAlike old new
alike_then old mid new n d s alike is inbox used =
    let step = alike_set mid new n d s is inbox used in
    record { inboxes = step.inboxes ∙ alike.inboxes; uses = step.uses ∙ alike.uses }

-- or it got one
pub attached_set : (old mid new : List SlotState) (n : ℕ) (d : SlotState) → AreAlike old mid → new ≡ set mid n (attached (get_or mid n d)) → AreAlikeBut n old new
attached_set old mid new n d alike is = record {
  inboxes = ap inboxes_of is ∙ map-set (λ (t : SlotState). t.inbox) mid n (attached (get_or mid n d)) ∙ sym (map-set (λ (t : SlotState). t.inbox) mid n (get_or mid n d)) ∙ ap inboxes_of (set-get_or mid n d) ∙ alike.inboxes;
  uses = ap uses_of is ∙ map-set (λ (t : SlotState). t.used) mid n (attached (get_or mid n d)) ∙ ap (λ us. set us n true) alike.uses;
}

-- the slot at a place waits
pub waits_at : (slots : List SlotState) (n : ℕ) (d : SlotState) → n < length slots → (get_or slots n d).waits ≡ true → WaitsAt slots n
waits_at slots n d lt is = get_or-map (λ (s : SlotState). s.waits) slots n d false lt ∙ is

-- one that never had a socket waits
pub waits_unused : (slots : List SlotState) (first end n : ℕ) (d : SlotState) (told : Bool) → IsLowest (uses_of slots) false first end n → n < length slots
    → told ≡ (get_or slots n d).waits → ((get_or slots n d).used ≡ false → told ≡ true) → WaitsAt slots n
waits_unused slots first end n d told low lt is unused =
    let used : (get_or slots n d).used ≡ false = sym (get_or-map (λ (s : SlotState). s.used) slots n d false lt) ∙ low.there in
    waits_at slots n d lt (sym is ∙ unused used)

-- a slot that waits was put there
pub waits_set : (old new : List SlotState) (n : ℕ) (s : SlotState) → new ≡ set old n s → n < length old → s.waits ≡ true → WaitsAt new n
waits_set old new n s is lt waits = waits_at new n s (omega (arith, ap length is, length-set old n s, lt)) (ap (λ (xs : List SlotState). (get_or xs n s).waits) is ∙ ap (λ (t : SlotState). t.waits) (get_or-set_same old n s s lt) ∙ waits)

-- as many as their uses
pub uses_count : (slots : List SlotState) → length (uses_of slots) ≡ length slots
uses_count slots = length-map slots (λ (s : SlotState). s.used)

-- whether or not a slot got a socket, the inboxes are the same
pub kept_if : (result : Result ℕ NodeFault) (old new : List SlotState) → IfOk result (λ n. AreAlikeBut n old new) → OnErr result (AreAlike old new) → inboxes_of new ≡ inboxes_of old
kept_if (Ok n) old new but alike = but.inboxes
kept_if (Err fault) old new but alike = alike.inboxes

-- ---- a node's slots change

abbrev seen : CrewState → NodeSettings → Option SocketAddr → List Bool → NodeState
seen crew settings listens used = record { crew = crew; settings = settings; listens = listens; used = used }

-- what contracts see of a node one of whose slots got a socket
pub used_then : (crew : CrewState) (settings : NodeSettings) (listens : Option SocketAddr) (old new : List SlotState) (n : ℕ) (node : NodeState) → node_state crew settings listens old ≡ node → AreAlikeBut n old new
    → node_state crew settings listens new ≡ with_used node n
used_then crew settings listens old new n node is but =
    let here : node_state crew settings listens new ≡ with_used (node_state crew settings listens old) n = ap (seen crew settings listens) but.uses in
    here ∙ ap (λ (k : NodeState). with_used k n) is

-- and of one whose slots are alike
pub same_then : (crew : CrewState) (settings : NodeSettings) (listens : Option SocketAddr) (old new : List SlotState) (node : NodeState) → node_state crew settings listens old ≡ node → AreAlike old new
    → node_state crew settings listens new ≡ node
same_then crew settings listens old new node is alike =
    let here : node_state crew settings listens new ≡ node_state crew settings listens old = ap (seen crew settings listens) alike.uses in
    here ∙ is

-- each slot of a kind had a socket
pub none_of : (kind : Bool) (node : NodeState) (used : List Bool) (first end : ℕ) → used ≡ node.used → first ≡ first_slot kind node → end ≡ end_of kind node → HasNone used false first end
    → HasNone node.used false (first_slot kind node) (end_of kind node)
none_of kind node used first end is from to none =
    subst (λ k. HasNone node.used false k (end_of kind node)) from (subst (λ k. HasNone node.used false first k) to (subst (λ us. HasNone us false first end) is none))

-- what a node answers whose slots served a connection by one of them, or refused it
pub served : (kind : Bool) (crew : CrewState) (settings : NodeSettings) (listens : Option SocketAddr) (old new : List SlotState) (first end : ℕ) (node : NodeState) (result : Result ℕ NodeFault)
    → node_state crew settings listens old ≡ node → first ≡ first_slot kind node → end ≡ end_of kind node
    → IfOk result (IsChosen (uses_of old) first end) → IfOk result (λ n. AreAlikeBut n old new) → OnErr result (AreAlike old new) → (result ≡ Err NoSlot → HasNone (uses_of old) false first end)
    → IsServed kind node (node_state crew settings listens new) result
served kind crew settings listens old new first end node (Ok n) is from to chosen but alike none =
    let used : uses_of old ≡ node.used = ap (λ (k : NodeState). k.used) is in
    let here : IsChosen node.used first end n = subst (λ us. IsChosen us first end n) used chosen in
    record {
      chosen = subst (λ k. IsChosen node.used k (end_of kind node) n) from (subst (λ k. IsChosen node.used first k n) to here);
      ok = used_then crew settings listens old new n node is but;
      err = tt;
      no_slot = λ no. absurd (let same : Ok n ≡ Err NoSlot = no in cc);
    }
served kind crew settings listens old new first end node (Err fault) is from to chosen but alike none =
    let used : uses_of old ≡ node.used = ap (λ (k : NodeState). k.used) is in
    record {
      chosen = tt;
      ok = tt;
      err = same_then crew settings listens old new node is alike;
      no_slot = λ no.
          subst (λ k. HasNone node.used false k (end_of kind node)) from (subst (λ k. HasNone node.used false first k) to (subst (λ us. HasNone us false first end) used (none no)));
    }

-- ---- a node that starts

-- as many slots as inboxes
pub count_of : (crew : CrewState) (slots : List SlotState) → AreSlotsOf crew slots → length slots ≡ length crew.inboxes
count_of crew slots are = sym (length-map slots (λ (s : SlotState). s.inbox)) ∙ ap length are.inboxes

uses_none : (inboxes : List InboxState) → uses_of (map new_slot inboxes) ≡ replicate (length inboxes) false
uses_none [] = refl
uses_none (i ∷ inboxes) = ap (λ us. false ∷ us) (uses_none inboxes)

-- none of the new slots ever had a socket
pub uses_new : (crew : CrewState) (slots : List SlotState) (n : ℕ) → slots ≡ map new_slot crew.inboxes → length crew.inboxes ≡ n → uses_of slots ≡ replicate n false
uses_new crew slots n are count = ap uses_of are ∙ uses_none crew.inboxes ∙ ap (λ k. replicate k false) count

-- ---- a node that finishes

names_map : (slots : List SlotState) → names_in slots ≡ map (λ (i : InboxState). i.name) (inboxes_of slots)
names_map [] = refl
names_map (s ∷ slots) = ap (λ ns. s.inbox.name ∷ ns) (names_map slots)

-- the sides of the slots are those of the crew's peers
pub sides_are : {M O : Type 0} (crew : CrewState) (slots : List SlotState) (sides : List (ReaderSide M O)) → AreSlotsOf crew slots → map inbox_of sides ≡ names_in slots → All HasPlace sides → AreSidesOf crew sides
sides_are crew slots sides are names places = record {
  inboxes = names ∙ names_map slots ∙ ap (map (λ (i : InboxState). i.name)) are.inboxes;
  places = places;
}

-- the handlers that threads give back are the crew's
pub handlers_are : {W M : Type 0} (crew : CrewState) (threads : List (PromisedHandle (HandlerState (DeskState W M)) (OfCrew W M))) (back : List (HandlerState (DeskState W M)))
    → ((k : CrewState) (before : List (HandlerState (DeskState W M))) → HandBack k threads before → AreHandlersOf k before → AreHandlersOf k back)
    → AreThreadsOf crew threads → AreHandlersOf crew back
handlers_are crew threads back joined are = joined crew are.handlers are.have are.all

-- badges of new connections
all_new : (peers : List ℕ) → All IsNew (map (λ (p : ℕ). fresh_badge (first_of p)) peers)
all_new [] = All-nil IsNew
all_new (p ∷ peers) = All-cons IsNew _ _ (refl, refl) (all_new peers)

pub badges_new : (n : ℕ) (badges : List BadgeState) → AreBadges n badges → All IsNew badges
badges_new n badges are = subst (All IsNew) (sym are) (all_new (range_with_len 0 n))

abbrev pub badge_peer : BadgeState → ℕ
badge_peer badge = badge.connection.peer

abbrev pub badge_label : BadgeState → ℕ
badge_label badge = label_of badge.connection

-- their numbers and labels are those of the slots, in order
peers_back : (peers : List ℕ) → map (λ (badge : BadgeState). badge.connection.peer) (map (λ (p : ℕ). fresh_badge (first_of p)) peers) ≡ peers
peers_back [] = refl
peers_back (p ∷ peers) = ap (λ ps. p ∷ ps) (peers_back peers)

pub badges_peers : (n : ℕ) (badges : List BadgeState) → AreBadges n badges → map (λ (badge : BadgeState). badge.connection.peer) badges ≡ range_with_len 0 n
badges_peers n badges are = ap (map (λ (badge : BadgeState). badge.connection.peer)) are ∙ peers_back (range_with_len 0 n)

labels_back : (peers : List ℕ) → map (λ (badge : BadgeState). label_of badge.connection) (map (λ (p : ℕ). fresh_badge (first_of p)) peers) ≡ map (λ (slot : ℕ). label_of (record { peer = slot; generation = 1 })) peers
labels_back [] = refl
labels_back (p ∷ peers) = ap (λ ls. label_of (first_of p) ∷ ls) (labels_back peers)

pub badges_labels : (n : ℕ) (badges : List BadgeState) → AreBadges n badges → map (λ (badge : BadgeState). label_of badge.connection) badges ≡ first_labels n
badges_labels n badges are = ap (map (λ (badge : BadgeState). label_of badge.connection)) are ∙ labels_back (range_with_len 0 n)

pub badges_count : (n : ℕ) (badges : List BadgeState) → AreBadges n badges → length badges ≡ n
badges_count n badges are = ap length are ∙ length-map (range_with_len 0 n) (λ (p : ℕ). fresh_badge (first_of p)) ∙ length-range_with_len 0 n
