-- What a turn of a handler does.
use Rattle.std.specs.Prelude.{◌≡◌, ◌≢◌, ◌⊎◌, ℕ, ◌+◌, ◌<◌, ◌≤◌, ◌^◌, Bool, true, false, Option, Result, List, [], ◌∷◌, length, map, slice_index_or}
use Rattle.std.specs.declared.option.Option.TheVariants as option
use Rattle.std.specs.declared.result.Result.TheVariants as outcome
use Rattle.cb_crew.specs.Seat.{SeatState}
use Rattle.cb_crew.specs.declared.handler.TurnOutcome.{TurnOutcome}
use Rattle.cb_crew.specs.declared.handler.TurnOutcome.TheVariants as turn
use Rattle.cb_crew.specs.declared.queued.Queued.{Queued}
use Rattle.cb_crew.specs.declared.work.Given.{Given}
use Rattle.cb_crew.specs.Desk.{DeskState, HasTaken, TickedOnce, desk_told, first_label}
use Rattle.cb_crew.specs.Ring.{DeskName, Shown, HandState, IsOfCrew, claimed_hand, given_hand}

-- what the ring sees of a desk
abbrev pub shown_desk : {W M : Type 0} → (W → ℕ) → (W → Bool) → DeskState W M
    → Shown (DeskState W M)
shown_desk label is_closed d = record {
  peer = d.inbox.peer;
  name = record { inbox = d.inbox.name; label = first_label label d };
  taken = length d.taken;
  closed = is_closed d.work;
  told = length d.queued;
  whole = d;
}

pub record HandlerState (X : Type 0) : Type 0 where
  pub hand : HandState X
  pub turns : ℕ  -- how many turns it made
  pub room : ℕ  -- for how many desks its list has room

-- One desk was given back. It is this peer's, and so many marks were taken from its inbox during
-- the turn.
pub record GaveBack {X : Type 0} (old new : HandState X) (peer taken : ℕ) : Type 0 where
  pub exists : peer < length old.names
  pub one : new.last.gives ≡ old.last.gives + 1
  pub peer_is : new.last.peer ≡ peer
  pub taken_is : new.last.grew ≡ taken

-- all that the desk's seat was told was queued has been taken
abbrev pub NoneLeft : {X : Type 0} → HandState X → Type 0
NoneLeft hand = hand.last.told ≤ hand.last.taken

-- A turn takes up to `budget` marks. It takes fewer only if none is left, or a work closed on what
-- it was given. It takes none only if none is left. Without a desk in the ring, all desks were
-- held, and there are fewer desks than handlers.
abbrev pub Turned : {X : Type 0} → HandState X → HandState X → ℕ → TurnOutcome → Type 0
Turned old new budget (turn.Served peer worked passed) =
    GaveBack old new peer (worked + passed) × (1 ≤ worked + passed) × (worked + passed ≤ budget)
    × (worked + passed < budget → NoneLeft new ⊎ ((1 ≤ worked) × (new.last.closed ≡ true)))
Turned old new budget (turn.Idle peer) =
    GaveBack old new peer 0 × NoneLeft new × (new.last.closed ≡ false)
Turned old new budget (turn.Shut peer) =
    GaveBack old new peer 0 × NoneLeft new × (new.last.closed ≡ true)
Turned old new budget turn.NoDesk = (new ≡ old) × (length old.names < old.handlers)
Turned old new budget turn.Spent = new ≡ old

-- ---- a note that a turn brings

-- the note is of the reader of this crew's peer
pub record IsNoteOf {Q : Type 0} (names : List DeskName) (peer : ℕ) (note : SeatState Q)
    : Type 0 where
  pub exists : peer < length names
  pub inbox : slice_index_or (map (λ (name : DeskName). name.inbox) names) peer note.inbox
      ≡ note.inbox

-- the turn didn't serve this peer's desk
abbrev pub IsOther : TurnOutcome → ℕ → Type 0
IsOther (turn.Served peer worked passed) other = peer ≢ other
IsOther (turn.Idle peer) other = peer ≢ other
IsOther (turn.Shut peer) other = peer ≢ other
IsOther turn.NoDesk other = Unit {0}
IsOther turn.Spent other = Unit {0}

-- The desk that was given back last is this peer's, and its seat was told all that is in the note.
-- So if none is left (`NoneLeft`), everything in the note was taken.
pub record IsHeard {X Q : Type 0} (hand : HandState X) (peer : ℕ) (note : SeatState Q)
    : Type 0 where
  pub peer_is : hand.last.peer ≡ peer
  pub told : length note.queued ≤ hand.last.told

-- Either the desk heard the note, or the note came back and the turn didn't serve its peer's desk.
abbrev pub Brings : {X Q : Type 0} → HandState X → TurnOutcome → ℕ → SeatState Q
    → Option (SeatState Q) → Type 0
Brings hand done peer note back =
    ((back ≡ option.None) × IsHeard hand peer note)
    ⊎ ((back ≡ option.Some note) × IsOther done peer)

-- ---- the two parts of a turn

-- A turn claims a desk, unless the handler has made all its turns or no desk waits.
abbrev pub Begins : {W M : Type 0} → (W → ℕ) → (W → Bool) → HandlerState (DeskState W M)
    → HandlerState (DeskState W M) → Result (DeskState W M) TurnOutcome → Type 0
Begins label is_closed old new (outcome.Ok desk) =
    (new.hand ≡ claimed_hand old.hand (shown_desk label is_closed desk))
    × IsOfCrew old.hand.names (shown_desk label is_closed desk) × (new.turns ≡ old.turns + 1)
    × (old.turns ≢ 2 ^ 40)
Begins label is_closed old new (outcome.Err turn.NoDesk) =
    (new.hand ≡ old.hand) × (length old.hand.names < old.hand.handlers)
    × (new.turns ≡ old.turns + 1) × (old.turns ≢ 2 ^ 40)
Begins label is_closed old new (outcome.Err turn.Spent) = (new ≡ old) × (old.turns ≡ 2 ^ 40)
Begins label is_closed old new (outcome.Err (turn.Served peer worked passed)) = ⊥
Begins label is_closed old new (outcome.Err (turn.Idle peer)) = ⊥
Begins label is_closed old new (outcome.Err (turn.Shut peer)) = ⊥

-- A desk of this peer learns all of the note. A desk of another peer learns nothing, and the note
-- comes back.
abbrev pub Hears : {W M : Type 0} → DeskState W M → DeskState W M → ℕ → SeatState (Queued M W)
    → Option (SeatState (Queued M W)) → Type 0
Hears old new peer note back =
    ((old.inbox.peer ≡ peer) × (back ≡ option.None) × (new ≡ desk_told old note))
    ⊎ ((old.inbox.peer ≢ peer) × (back ≡ option.Some note) × (new ≡ old))

-- The desk was served: so many marks were given to works and passed over. Its first work's label,
-- its inbox and what its seat was told are unchanged.
pub record ServesDesk {W M : Type 0} (label : W → ℕ) (given : W → List (Given M) → Type 0)
    (is_closed : W → Bool) (old new : DeskState W M) (peer worked passed : ℕ) : Type 0 where
  pub peer_is : old.inbox.peer ≡ peer
  pub same_first : first_label label new ≡ first_label label old
  pub same_inbox : new.inbox ≡ old.inbox
  pub same_told : new.queued ≡ old.queued
  pub taken_is : length new.taken ≡ length old.taken + (worked + passed)
  pub has : HasTaken given is_closed old new worked passed

abbrev pub HasNoneLeft : {W M : Type 0} → DeskState W M → Type 0
HasNoneLeft desk = length desk.queued ≤ length desk.taken

abbrev pub TurnsDesk : {W M : Type 0} → (W → ℕ) → (W → List (Given M) → Type 0) → (W → Bool)
    → DeskState W M → DeskState W M → ℕ → TurnOutcome → Type 0
TurnsDesk label given is_closed old new budget (turn.Served peer worked passed) =
    ServesDesk label given is_closed old new peer worked passed × (1 ≤ worked + passed)
    × (worked + passed ≤ budget)
    × (worked + passed < budget → HasNoneLeft new ⊎ ((1 ≤ worked) × (is_closed new.work ≡ true)))
TurnsDesk label given is_closed old new budget (turn.Idle peer) =
    ServesDesk label given is_closed old new peer 0 0 × HasNoneLeft new
    × (is_closed new.work ≡ false)
TurnsDesk label given is_closed old new budget (turn.Shut peer) =
    ServesDesk label given is_closed old new peer 0 0 × HasNoneLeft new
    × (is_closed new.work ≡ true)
TurnsDesk label given is_closed old new budget turn.NoDesk = ⊥
TurnsDesk label given is_closed old new budget turn.Spent = ⊥

-- the hand holds this desk, and nothing was taken from its inbox since it was claimed
pub record IsClaimed {W M : Type 0} (label : W → ℕ) (hand : HandState (DeskState W M))
    (desk : DeskState W M) : Type 0 where
  pub before : Shown (DeskState W M)
  pub only : hand.held ≡ before ∷ []
  pub peer_is : desk.inbox.peer ≡ before.peer
  pub inbox_is : desk.inbox.name ≡ before.name.inbox
  pub label_is : first_label label desk ≡ before.name.label
  pub taken_is : length desk.taken ≡ before.taken

-- The desk was served and given back.
abbrev pub Serves : {W M : Type 0} → (W → ℕ) → (W → List (Given M) → Type 0) → (W → Bool)
    → HandState (DeskState W M) → HandState (DeskState W M) → DeskState W M → ℕ → TurnOutcome
    → Type 0
Serves {W} {M} label given is_closed old new desk budget done =
    (after : DeskState W M) × (new ≡ given_hand old (shown_desk label is_closed after))
    × TurnsDesk label given is_closed desk after budget done

-- ---- the desk that a turn claims and gives back

-- The hand claimed a desk and gave it back, and remembers it as it was claimed and as it was given
-- back. In between, `what` was done with it.
pub record Did {W M : Type 0} (label : W → ℕ) (is_closed : W → Bool)
    (what : DeskState W M → DeskState W M → Type 0) (old new : HandState (DeskState W M))
    : Type 0 where
  pub desk : DeskState W M
  pub after : DeskState W M
  pub gave : new
      ≡ given_hand (claimed_hand old (shown_desk label is_closed desk))
      (shown_desk label is_closed after)
  pub same_inbox : after.inbox ≡ desk.inbox
  pub did : what desk after

-- In each turn that had a desk, its work was ticked once if it was open, before it was given
-- anything more. No other work was ticked.
abbrev pub Ticks : {W M : Type 0} → (W → ℕ) → (W → List (Given M) → Type 0) → (W → List ℕ → Type 0)
    → (W → Bool) → HandState (DeskState W M) → HandState (DeskState W M) → TurnOutcome → Type 0
Ticks label given ticked is_closed old new (turn.Served peer worked passed) =
    Did label is_closed (TickedOnce given ticked is_closed) old new
Ticks label given ticked is_closed old new (turn.Idle peer) =
    Did label is_closed (TickedOnce given ticked is_closed) old new
Ticks label given ticked is_closed old new (turn.Shut peer) =
    Did label is_closed (TickedOnce given ticked is_closed) old new
Ticks label given ticked is_closed old new turn.NoDesk = Unit {0}
Ticks label given ticked is_closed old new turn.Spent = Unit {0}

-- In each turn that had a desk, so many of its marks were taken. As many as the turn tells were
-- given to works, the others were open marks or came to a closed work.
abbrev pub Counts : {W M : Type 0} → (W → ℕ) → (W → List (Given M) → Type 0) → (W → Bool)
    → HandState (DeskState W M) → HandState (DeskState W M) → TurnOutcome → Type 0
Counts label given is_closed old new (turn.Served peer worked passed) =
    Did label is_closed (λ desk after. HasTaken given is_closed desk after worked passed) old new
Counts label given is_closed old new (turn.Idle peer) =
    Did label is_closed (λ desk after. HasTaken given is_closed desk after 0 0) old new
Counts label given is_closed old new (turn.Shut peer) =
    Did label is_closed (λ desk after. HasTaken given is_closed desk after 0 0) old new
Counts label given is_closed old new turn.NoDesk = Unit {0}
Counts label given is_closed old new turn.Spent = Unit {0}

-- The hand gave this desk back, and its latest work was ticked once if it was open.
abbrev pub GivesTicked : {W M : Type 0} → (W → ℕ) → (W → List (Given M) → Type 0)
    → (W → List ℕ → Type 0) → (W → Bool) → HandState (DeskState W M) → HandState (DeskState W M)
    → DeskState W M → Type 0
GivesTicked {W} {M} label given ticked is_closed old new desk =
    (after : DeskState W M) × (new ≡ given_hand old (shown_desk label is_closed after))
    × (after.inbox ≡ desk.inbox) × TickedOnce given ticked is_closed desk after
