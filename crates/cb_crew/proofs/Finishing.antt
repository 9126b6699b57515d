-- Desks in the order of their peers, and what is settled of them one after another.
use Rattle.std.proofs.Common.{◌≡◌, ℕ, ◌+◌, ◌<◌, ◌≤◌, Bool, List, [], ◌∷◌, ◌++◌, length, map, get_or, set, take, refl, sym, ap, subst, ◌∙◌, arith}
use Rattle.std.specs.List.{All, AllZip, range_with_len}
use Rattle.std.proofs.Math.Seq.{map-set_same, get_or-append_seam}
use Rattle.std.proofs.lemmas.List.{append-nil, append_assoc, get_or-map, length-append, length-map, nil_from_length, take_more_set, take_all}
use Rattle.std.proofs.lemmas.List.Elements.{All-nil, All-push}
use Rattle.std.proofs.lemmas.Simd.{map-map}
use Rattle.cb_crew.specs.Seat.{InboxState}
use Rattle.cb_crew.specs.declared.work.Given.{Given}
use Rattle.cb_crew.specs.declared.reader_side.ReaderSide.{ReaderSide}
use Rattle.cb_crew.specs.Desk.{DeskState, KeepsWorks, NotTicked, first_label}
use Rattle.cb_crew.specs.Ring.{DeskName, Shown}
use Rattle.cb_crew.specs.Turn.{shown_desk}
use Rattle.cb_crew.specs.Crew.{CrewState, AreInOrder, AreSidesOf, HasPlace, all_queued, inbox_of, names_of}
use Rattle.cb_crew.specs.Headline.{IsFinished, IsSettled}
use Rattle.cb_crew.proofs.Crews.{front_is}
use Rattle.cb_crew.proofs.Ticks.{unticked_step, unticked_same}
use Rattle.cb_crew.proofs.Works.{zip_push, zip_refl, zip_set}

-- what stands at a place of a list that is lent
pub place_is : {X : Type 0} (xs ys : List X) (k : ℕ) (a b : X) → b ≡ a → a ≡ get_or xs k a → xs ≡ ys → b ≡ get_or ys k b
place_is xs ys k a b same is lists = subst (λ x. x ≡ get_or ys k x) (sym same) (is ∙ ap (λ zs. get_or zs k a) lists)

module _ {W M : Type 0} (label : W → ℕ) (was_given : W → List (Given M) → Type 0) (ticked : W → List ℕ → Type 0) (is_closed : W → Bool) (is_whole : W → Type 0) (weight : W → ℕ) where
  abbrev Keeping : DeskState W M → Type 0
  Keeping = KeepsWorks label was_given ticked is_closed is_whole weight

  -- of the first desks all is settled, in the order of the crew's peers
  pub record IsSettledTo (crew : CrewState) (sides rest : List (ReaderSide M W)) (desks : List (DeskState W M)) (k : ℕ) : Type 0 where
    pub done : List (ReaderSide M W)
    pub parts : sides ≡ done ++ rest
    pub count : length done ≡ k
    pub settled : AllZip (λ side desk. IsSettled label was_given is_closed (all_queued side) desk) done (take k desks)
    pub peers : map (λ (desk : DeskState W M). desk.inbox.peer) desks ≡ range_with_len 0 (length crew.inboxes)
    pub names : map (λ (desk : DeskState W M). desk.inbox.name) desks ≡ names_of crew
    pub labels : map (first_label label) desks ≡ crew.labels
    pub inboxes : map inbox_of sides ≡ names_of crew
    pub places : All HasPlace rest
    pub kept : All Keeping (take k desks)
    pub before : List (DeskState W M)
    pub taken_out : AreInOrder crew (map (shown_desk label is_closed) before)
    pub unticked : AllZip (NotTicked ticked) before desks

  shown_names : (desks : List (DeskState W M)) → map (λ (d : DeskState W M). (shown_desk label is_closed d).name) desks ≡ map (λ (s : Shown (DeskState W M)). s.name) (map (shown_desk label is_closed) desks)
  shown_names desks = sym (map-map (λ (s : Shown (DeskState W M)). s.name) (shown_desk label is_closed) desks)

  -- nothing is settled yet
  pub settled_none : (crew : CrewState) (sides : List (ReaderSide M W)) (desks : List (DeskState W M)) → AreSidesOf crew sides → AreInOrder crew (map (shown_desk label is_closed) desks) → IsSettledTo crew sides sides desks 0
  settled_none crew sides desks are order = record {
    done = [];
    parts = refl;
    count = refl;
    settled = tt;
    peers = sym (map-map (λ (s : Shown (DeskState W M)). s.peer) (shown_desk label is_closed) desks) ∙ order.peers;
    names = sym (map-map (λ (n : DeskName). n.inbox) (λ (d : DeskState W M). (shown_desk label is_closed d).name) desks) ∙ (ap (map (λ (n : DeskName). n.inbox)) (shown_names desks) ∙ order.names.inboxes);
    labels = sym (map-map (λ (n : DeskName). n.label) (λ (d : DeskState W M). (shown_desk label is_closed d).name) desks) ∙ (ap (map (λ (n : DeskName). n.label)) (shown_names desks) ∙ order.names.labels);
    inboxes = are.inboxes;
    places = are.places;
    kept = All-nil Keeping;
    before = desks;
    taken_out = order;
    unticked = zip_refl (NotTicked ticked) (unticked_same ticked) desks;
  }

  pub settled_start : (crew : CrewState) (sides rest : List (ReaderSide M W)) (desks : List (DeskState W M)) (k : ℕ) → AreSidesOf crew sides → AreInOrder crew (map (shown_desk label is_closed) desks) → rest ≡ sides → k ≡ 0 → IsSettledTo crew sides rest desks k
  settled_start crew sides rest desks k are order rest_is k_is = subst (λ i. IsSettledTo crew sides rest desks i) (sym k_is) (subst (λ ss. IsSettledTo crew sides ss desks 0) (sym rest_is) (settled_none crew sides desks are order))

  -- as many desks as peers
  desks_count : (crew : CrewState) (desks : List (DeskState W M)) → map (λ (desk : DeskState W M). desk.inbox.name) desks ≡ names_of crew → length desks ≡ length crew.inboxes
  desks_count crew desks names = omega (arith, ap length names, length-map desks (λ (desk : DeskState W M). desk.inbox.name), length-map crew.inboxes (λ (i : InboxState). i.name))

  -- a side that is left stands at the place of a desk
  pub next_place : (crew : CrewState) (sides rest later : List (ReaderSide M W)) (side : ReaderSide M W) (desks : List (DeskState W M)) (k : ℕ) → IsSettledTo crew sides rest desks k → rest ≡ side ∷ later → (k < length crew.inboxes) × (k < length desks)
  next_place crew sides rest later side desks k s is =
      let count : k < length crew.inboxes = omega (arith, ap length s.parts, length-append s.done rest, s.count, ap length is, ap length s.inboxes, length-map sides inbox_of, length-map crew.inboxes (λ (i : InboxState). i.name)) in
      (count, omega (arith, count, desks_count crew desks s.names))

  -- it is of that peer's inbox, and so is the desk
  pub next_inboxes : (crew : CrewState) (sides rest later : List (ReaderSide M W)) (side : ReaderSide M W) (desks : List (DeskState W M)) (k : ℕ) (inbox : InboxState) (desk : DeskState W M) → IsSettledTo crew sides rest desks k → rest ≡ side ∷ later → inbox ≡ get_or crew.inboxes k inbox → desk ≡ get_or desks k desk → (inbox_of side ≡ inbox.name) × (desk.inbox.name ≡ inbox.name)
  next_inboxes crew sides rest later side desks k inbox desk s is inbox_is desk_is =
      let at = next_place crew sides rest later side desks k s is in
      let name_is : get_or (names_of crew) k inbox.name ≡ inbox.name = get_or-map (λ (i : InboxState). i.name) crew.inboxes k inbox inbox.name at.0 ∙ sym (ap (λ (i : InboxState). i.name) inbox_is) in
      let all : sides ≡ s.done ++ side ∷ later = s.parts ∙ ap (λ ss. s.done ++ ss) is in
      let here : get_or sides k side ≡ side = ap (λ ss. get_or ss k side) all ∙ (ap (λ i. get_or (s.done ++ side ∷ later) i side) (sym s.count) ∙ get_or-append_seam s.done side later side) in
      let within : k < length sides = omega (arith, at.0, ap length s.inboxes, length-map sides inbox_of, length-map crew.inboxes (λ (i : InboxState). i.name)) in
      let side_is : inbox_of side ≡ get_or (names_of crew) k inbox.name = ap inbox_of (sym here) ∙ (sym (get_or-map inbox_of sides k side inbox.name within) ∙ ap (λ ns. get_or ns k inbox.name) s.inboxes) in
      let desk_name : desk.inbox.name ≡ get_or (names_of crew) k inbox.name = ap (λ (d : DeskState W M). d.inbox.name) desk_is ∙ (sym (get_or-map (λ (d : DeskState W M). d.inbox.name) desks k desk inbox.name at.1) ∙ ap (λ ns. get_or ns k inbox.name) s.names) in
      (side_is ∙ name_is, desk_name ∙ name_is)

  pub next_has_place : (crew : CrewState) (sides rest later : List (ReaderSide M W)) (side : ReaderSide M W) (desks : List (DeskState W M)) (k : ℕ) → IsSettledTo crew sides rest desks k → rest ≡ side ∷ later → HasPlace side
  next_has_place crew sides rest later side desks k s is = (front_is HasPlace rest later side is s.places).0

  -- one desk more is settled
  pub settled_next : (crew : CrewState) (sides rest later : List (ReaderSide M W)) (side : ReaderSide M W) (desks more : List (DeskState W M)) (k : ℕ) (old new : DeskState W M) → IsSettledTo crew sides rest desks k → rest ≡ side ∷ later → old ≡ get_or desks k old → more ≡ set desks k new → new.inbox ≡ old.inbox → first_label label new ≡ first_label label old → IsSettled label was_given is_closed (all_queued side) new → Keeping new → NotTicked ticked old new → IsSettledTo crew sides later more (k + 1)
  settled_next crew sides rest later side desks more k old new s is old_is more_is same labelled settled kept unticked =
      let at = next_place crew sides rest later side desks k s is in
      subst (λ ds. IsSettledTo crew sides later ds (k + 1)) (sym more_is) (record {
        done = s.done ++ side ∷ [];
        parts = s.parts ∙ (ap (λ ss. s.done ++ ss) is ∙ sym (append_assoc s.done (side ∷ []) later));
        count = omega (arith, length-append s.done (side ∷ []), s.count);
        settled = subst (AllZip (λ side desk. IsSettled label was_given is_closed (all_queued side) desk) (s.done ++ side ∷ [])) (sym (take_more_set desks k new at.1)) (zip_push (λ side desk. IsSettled label was_given is_closed (all_queued side) desk) s.done (take k desks) side new s.settled settled);
        peers = map-set_same (λ (d : DeskState W M). d.inbox.peer) desks k new old (ap (λ (i : InboxState). i.peer) same ∙ ap (λ (d : DeskState W M). d.inbox.peer) old_is) ∙ s.peers;
        names = map-set_same (λ (d : DeskState W M). d.inbox.name) desks k new old (ap (λ (i : InboxState). i.name) same ∙ ap (λ (d : DeskState W M). d.inbox.name) old_is) ∙ s.names;
        labels = map-set_same (first_label label) desks k new old (labelled ∙ ap (first_label label) old_is) ∙ s.labels;
        inboxes = s.inboxes;
        places = (front_is HasPlace rest later side is s.places).1;
        kept = subst (All Keeping) (sym (take_more_set desks k new at.1)) (All-push Keeping (take k desks) new s.kept kept);
        before = s.before;
        taken_out = s.taken_out;
        unticked = zip_set (NotTicked ticked) s.before desks k new old at.1 (λ desk still. unticked_step ticked desk old new (subst (NotTicked ticked desk) (sym old_is) still) unticked) s.unticked;
      })

  -- all are settled
  pub settled_all : (crew : CrewState) (sides rest : List (ReaderSide M W)) (desks : List (DeskState W M)) (k : ℕ) → IsSettledTo crew sides rest desks k → length rest ≡ 0 → IsFinished label was_given ticked is_closed is_whole weight crew sides desks
  settled_all crew sides rest desks k s none =
      let all : sides ≡ s.done = s.parts ∙ (ap (λ ss. s.done ++ ss) (nil_from_length rest none) ∙ append-nil s.done) in
      let many : length desks ≤ k = omega (arith, desks_count crew desks s.names, ap length all, s.count, ap length s.inboxes, length-map sides inbox_of, length-map crew.inboxes (λ (i : InboxState). i.name)) in
      record {
        peers = s.peers;
        names = s.names;
        labels = s.labels;
        settled = subst (λ ss. AllZip (λ side desk. IsSettled label was_given is_closed (all_queued side) desk) ss desks) (sym all) (subst (AllZip (λ side desk. IsSettled label was_given is_closed (all_queued side) desk) s.done) (take_all k desks many) s.settled);
        kept = subst (All Keeping) (take_all k desks many) s.kept;
        before = s.before;
        taken_out = s.taken_out;
        unticked = s.unticked;
      }
