-- A desk that a hand claimed for a turn.
use Rattle.std.proofs.Common.{◌≡◌, ℕ, ◌<◌, inl, inr, Bool, Option, List, length, map, get_or, refl, sym, ap, subst, ◌∙◌, arith}
use Rattle.std.proofs.lemmas.List.{get_or-map, length-append}
use Rattle.cb_crew.specs.declared.queued.Queued.{Queued}
use Rattle.cb_crew.specs.Seat.{InboxState, SeatState}
use Rattle.cb_crew.specs.declared.handler.TurnOutcome.{TurnOutcome}
use Rattle.cb_crew.specs.declared.handler.TurnOutcome.TheVariants as turn
use Rattle.cb_crew.specs.declared.work.Given.{Given}
use Rattle.cb_crew.specs.Desk.{DeskState, HasTaken, HasServed, TickedOnce, desk_told, first_label}
use Rattle.cb_crew.specs.Ring.{DeskName, HandState, Shown, IsHeld, IsOfCrew, claimed_hand, given_hand}
use Rattle.cb_crew.specs.Turn.{shown_desk, Counts, Did, GivesTicked, Hears, IsClaimed, IsNoteOf, Serves, ServesDesk, Ticks, TurnsDesk}

-- what was taken, as a turn tells of it
pub serves_desk : {W M : Type 0} (label : W → ℕ) (given : W → List (Given M) → Type 0) (is_closed : W → Bool) (old new : DeskState W M) (peer worked passed : ℕ) → old.inbox.peer ≡ peer → first_label label new ≡ first_label label old → HasServed given is_closed old new worked passed → ServesDesk label given is_closed old new peer worked passed
serves_desk label given is_closed old new peer worked passed peer_is first h = record {
  peer_is = peer_is;
  same_first = first;
  same_inbox = h.same.0;
  same_told = h.same.1;
  taken_is = omega (arith, ap length h.has.taken, length-append old.taken h.has.marks, h.has.count);
  has = h.has;
}

-- the note of a peer's reader is of the inbox of the peer's desk
pub note_is : {X Q : Type 0} (names : List DeskName) (s : Shown X) (peer : ℕ) (note : SeatState Q) → IsOfCrew names s → IsNoteOf names peer note → s.peer ≡ peer → note.inbox ≡ s.name.inbox
note_is names s peer note of at same =
    let here : s.peer < length names = of.exists in
    sym at.inbox
    ∙ (ap (λ k. get_or (map (λ (n : DeskName). n.inbox) names) k note.inbox) (sym same)
    ∙ (get_or-map (λ (n : DeskName). n.inbox) names s.peer s.name note.inbox here ∙ ap (λ (n : DeskName). n.inbox) of.named))

module _ {W M : Type 0} (label : W → ℕ) (given : W → List (Given M) → Type 0) (is_closed : W → Bool) where
  -- what was claimed is held
  pub claimed_is : (old hand : HandState (DeskState W M)) (desk : DeskState W M) → hand ≡ claimed_hand old (shown_desk label is_closed desk) → IsClaimed label hand desk
  claimed_is old hand desk is = record { before = shown_desk label is_closed desk; only = ap (λ (h : HandState (DeskState W M)). h.held) is; peer_is = refl; inbox_is = refl; label_is = refl; taken_is = refl }

  -- also after its seat was told something
  pub heard_is : (hand : HandState (DeskState W M)) (old new : DeskState W M) (peer : ℕ) (note : SeatState (Queued M W)) (back : Option (SeatState (Queued M W))) → Hears old new peer note back → IsClaimed label hand old → IsClaimed label hand new
  heard_is hand old new peer note back (inl heard) c = subst (IsClaimed label hand) (sym heard.2) (record { before = c.before; only = c.only; peer_is = c.peer_is; inbox_is = c.inbox_is; label_is = c.label_is; taken_is = c.taken_is })
  heard_is hand old new peer note back (inr other) c = subst (IsClaimed label hand) (sym other.2) c

  still : {hand : HandState (DeskState W M)} (desk after : DeskState W M) → IsClaimed label hand desk → after.inbox ≡ desk.inbox → first_label label after ≡ first_label label desk → IsHeld hand.held (shown_desk label is_closed after)
  still desk after c same first = record {
    before = c.before;
    only = c.only;
    same_peer = ap (λ (i : InboxState). i.peer) same ∙ c.peer_is;
    same_inbox = ap (λ (i : InboxState). i.name) same ∙ c.inbox_is;
    same_label = first ∙ c.label_is;
  }

  -- what was served is held still
  pub held_is : (hand : HandState (DeskState W M)) (desk after : DeskState W M) (budget : ℕ) (done : TurnOutcome) → IsClaimed label hand desk → TurnsDesk label given is_closed desk after budget done → IsHeld hand.held (shown_desk label is_closed after)
  held_is hand desk after budget (turn.Served peer worked passed) c t = still desk after c t.0.same_inbox t.0.same_first
  held_is hand desk after budget (turn.Idle peer) c t = still desk after c t.0.same_inbox t.0.same_first
  held_is hand desk after budget (turn.Shut peer) c t = still desk after c t.0.same_inbox t.0.same_first
  held_is hand desk after budget turn.NoDesk c t = absurd t
  held_is hand desk after budget turn.Spent c t = absurd t

  -- what was done with a desk that was claimed and given back
  pub did : (what : DeskState W M → DeskState W M → Type 0) (old hand new : HandState (DeskState W M)) (desk after : DeskState W M) → hand ≡ claimed_hand old (shown_desk label is_closed desk) → new ≡ given_hand hand (shown_desk label is_closed after) → after.inbox ≡ desk.inbox → what desk after → Did label is_closed what old new
  did what old hand new desk after claimed gave same done = record {
    desk = desk;
    after = after;
    gave = gave ∙ ap (λ (h : HandState (DeskState W M)). given_hand h (shown_desk label is_closed after)) claimed;
    same_inbox = same;
    did = done;
  }

  -- its inbox is the same
  pub inbox_of_turn : (desk after : DeskState W M) (budget : ℕ) (done : TurnOutcome) → TurnsDesk label given is_closed desk after budget done → after.inbox ≡ desk.inbox
  inbox_of_turn desk after budget (turn.Served peer worked passed) t = t.0.same_inbox
  inbox_of_turn desk after budget (turn.Idle peer) t = t.0.same_inbox
  inbox_of_turn desk after budget (turn.Shut peer) t = t.0.same_inbox
  inbox_of_turn desk after budget turn.NoDesk t = absurd t
  inbox_of_turn desk after budget turn.Spent t = absurd t

  heard_inbox : (desk heard : DeskState W M) (peer : ℕ) (note : SeatState (Queued M W)) (back : Option (SeatState (Queued M W))) → Hears desk heard peer note back → heard.inbox ≡ desk.inbox
  heard_inbox desk heard peer note back (inl told) = ap (λ (d : DeskState W M). d.inbox) told.2
  heard_inbox desk heard peer note back (inr other) = ap (λ (d : DeskState W M). d.inbox) other.2

  -- ---- how many marks were taken

  told_taken : (desk after : DeskState W M) (note : SeatState (Queued M W)) (worked passed : ℕ) → HasTaken given is_closed (desk_told desk note) after worked passed → HasTaken given is_closed desk after worked passed
  told_taken desk after note worked passed h = record { marks = h.marks; taken = h.taken; count = h.count; gave = h.gave; works = h.works; sum = h.sum; begin = h.begin; all = h.all; behind = h.behind; stays = h.stays }

  -- whether its seat was told something before makes no difference
  heard_taken : (desk heard after : DeskState W M) (peer : ℕ) (note : SeatState (Queued M W)) (back : Option (SeatState (Queued M W))) (worked passed : ℕ) → Hears desk heard peer note back → HasTaken given is_closed heard after worked passed → HasTaken given is_closed desk after worked passed
  heard_taken desk heard after peer note back worked passed (inl told) h = told_taken desk after note worked passed (subst (λ d. HasTaken given is_closed d after worked passed) told.2 h)
  heard_taken desk heard after peer note back worked passed (inr other) h = subst (λ d. HasTaken given is_closed d after worked passed) other.2 h

  -- a turn that had a desk
  pub turn_counts : (old hand new : HandState (DeskState W M)) (desk : DeskState W M) (budget : ℕ) (done : TurnOutcome) → hand ≡ claimed_hand old (shown_desk label is_closed desk) → Serves label given is_closed hand new desk budget done → Counts label given is_closed old new done
  turn_counts old hand new desk budget (turn.Served peer worked passed) is s = did (λ d e. HasTaken given is_closed d e worked passed) old hand new desk s.0 is s.1 s.2.0.same_inbox s.2.0.has
  turn_counts old hand new desk budget (turn.Idle peer) is s = did (λ d e. HasTaken given is_closed d e 0 0) old hand new desk s.0 is s.1 s.2.0.same_inbox s.2.0.has
  turn_counts old hand new desk budget (turn.Shut peer) is s = did (λ d e. HasTaken given is_closed d e 0 0) old hand new desk s.0 is s.1 s.2.0.same_inbox s.2.0.has
  turn_counts old hand new desk budget turn.NoDesk is s = tt
  turn_counts old hand new desk budget turn.Spent is s = tt

  -- the same where its seat was told something
  pub heard_counts : (old hand new : HandState (DeskState W M)) (desk heard : DeskState W M) (peer budget : ℕ) (note : SeatState (Queued M W)) (back : Option (SeatState (Queued M W))) (done : TurnOutcome) → Hears desk heard peer note back → hand ≡ claimed_hand old (shown_desk label is_closed desk) → Serves label given is_closed hand new heard budget done → Counts label given is_closed old new done
  heard_counts old hand new desk heard peer budget note back (turn.Served of worked passed) hears is s = did (λ d e. HasTaken given is_closed d e worked passed) old hand new desk s.0 is s.1 (s.2.0.same_inbox ∙ heard_inbox desk heard peer note back hears) (heard_taken desk heard s.0 peer note back worked passed hears s.2.0.has)
  heard_counts old hand new desk heard peer budget note back (turn.Idle of) hears is s = did (λ d e. HasTaken given is_closed d e 0 0) old hand new desk s.0 is s.1 (s.2.0.same_inbox ∙ heard_inbox desk heard peer note back hears) (heard_taken desk heard s.0 peer note back 0 0 hears s.2.0.has)
  heard_counts old hand new desk heard peer budget note back (turn.Shut of) hears is s = did (λ d e. HasTaken given is_closed d e 0 0) old hand new desk s.0 is s.1 (s.2.0.same_inbox ∙ heard_inbox desk heard peer note back hears) (heard_taken desk heard s.0 peer note back 0 0 hears s.2.0.has)
  heard_counts old hand new desk heard peer budget note back turn.NoDesk hears is s = tt
  heard_counts old hand new desk heard peer budget note back turn.Spent hears is s = tt

-- ---- ticks

module _ {W M : Type 0} (label : W → ℕ) (given : W → List (Given M) → Type 0) (ticked : W → List ℕ → Type 0) (is_closed : W → Bool) where
  told_ticked : (desk after : DeskState W M) (note : SeatState (Queued M W)) → TickedOnce given ticked is_closed (desk_told desk note) after → TickedOnce given ticked is_closed desk after
  told_ticked desk after note t = record { earlier = t.earlier; latest = t.latest; later = t.later; works = t.works; earlier_none = t.earlier_none; became = t.became; later_none = t.later_none }

  -- whether its seat was told something before makes no difference
  pub heard_ticked : (hand new : HandState (DeskState W M)) (desk heard : DeskState W M) (peer : ℕ) (note : SeatState (Queued M W)) (back : Option (SeatState (Queued M W))) → Hears desk heard peer note back → GivesTicked label given ticked is_closed hand new heard → GivesTicked label given ticked is_closed hand new desk
  heard_ticked hand new desk heard peer note back (inl told) g = (g.0, g.1, g.2 ∙ ap (λ (d : DeskState W M). d.inbox) told.2, told_ticked desk g.0 note (subst (λ d. TickedOnce given ticked is_closed d g.0) told.2 g.3))
  heard_ticked hand new desk heard peer note back (inr other) g = (g.0, g.1, g.2 ∙ ap (λ (d : DeskState W M). d.inbox) other.2, subst (λ d. TickedOnce given ticked is_closed d g.0) other.2 g.3)

  -- a turn that had a desk
  pub turn_ticks : (old hand new : HandState (DeskState W M)) (desk : DeskState W M) (done : TurnOutcome) → hand ≡ claimed_hand old (shown_desk label is_closed desk) → GivesTicked label given ticked is_closed hand new desk → Ticks label given ticked is_closed old new done
  turn_ticks old hand new desk (turn.Served peer worked passed) is g = did label given is_closed (TickedOnce given ticked is_closed) old hand new desk g.0 is g.1 g.2 g.3
  turn_ticks old hand new desk (turn.Idle peer) is g = did label given is_closed (TickedOnce given ticked is_closed) old hand new desk g.0 is g.1 g.2 g.3
  turn_ticks old hand new desk (turn.Shut peer) is g = did label given is_closed (TickedOnce given ticked is_closed) old hand new desk g.0 is g.1 g.2 g.3
  turn_ticks old hand new desk turn.NoDesk is g = tt
  turn_ticks old hand new desk turn.Spent is g = tt
