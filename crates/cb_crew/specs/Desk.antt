-- A peer's desk: what was taken from its inbox, and what the works of its connections were given of
-- that.
use Rattle.std.specs.Prelude.{◌≡◌, ℕ, ◌+◌, ◌<◌, ◌≤◌, ◌⊎◌, Bool, true, false, List, [], ◌∷◌, ◌++◌, length, All}
use Rattle.std.specs.List.{AllZip, count_by, sum_by}
use Rattle.cb_crew.specs.Laws.{IsBeginning}
use Rattle.cb_crew.specs.declared.queued.Queued.{Queued}
use Rattle.cb_crew.specs.Queued.{is_open, has_ended}
use Rattle.cb_crew.specs.Rule.{longer}
use Rattle.cb_crew.specs.Seat.{InboxState, SeatState}
use Rattle.cb_crew.specs.declared.work.Given.{Given}
use Rattle.cb_crew.specs.declared.desk.Step.{Step}
use Rattle.cb_crew.specs.declared.desk.Step.TheVariants as step
use Rattle.cb_crew.specs.Past.{OldestLetGo, StaysIfFew}
use Rattle.cb_crew.specs.Work.{AreWorksOf, IsGivenMore, IsGivenNone, IsTicked, IsUnticked, WorksOn, brought_by, connections_of, first_of, given_by, go_on, last_of}

pub record DeskState (W M : Type 0) : Type 0 where
  pub inbox : InboxState
  pub queued : List (Queued M W)  -- a prefix of what was queued, as far as the seat was told
  pub taken : List (Queued M W)
  pub work : W  -- the work of the latest connection
  pub past : List W  -- the works of earlier connections

abbrev pub desk_state : {W M : Type 0} → InboxState → SeatState (Queued M W) → W → List W
    → DeskState W M
desk_state inbox seat work past = record {
  inbox = inbox;
  queued = seat.queued;
  taken = seat.taken;
  work = work;
  past = past;
}

-- after its seat learned from a note how much was queued
abbrev pub desk_told : {W M : Type 0} → DeskState W M → SeatState (Queued M W) → DeskState W M
desk_told d note = record {
  inbox = d.inbox;
  queued = longer d.queued note.queued;
  taken = d.taken;
  work = d.work;
  past = d.past;
}

-- what its seat knows
abbrev pub desk_note : {W M : Type 0} → DeskState W M → SeatState (Queued M W)
desk_note d = record { inbox = d.inbox.name; queued = d.queued; taken = d.taken }

-- the label of the first connection's work
abbrev pub first_label : {W M : Type 0} → (W → ℕ) → DeskState W M → ℕ
first_label label d = label (first_of d.past d.work)

-- Each connection has its own work. That work was given a prefix of what was taken of the
-- connection; an open work was given all of it. The works of earlier connections are closed. The
-- latest work is closed if its connection's end was taken.
pub record IsDesk {W M : Type 0} (label : W → ℕ) (given : W → List (Given M) → Type 0)
    (is_closed : W → Bool) (d : DeskState W M) : Type 0 where
  pub whose : AreWorksOf label (first_label label d) d.taken (d.past ++ d.work ∷ [])
  pub works : AllZip (WorksOn given is_closed) (d.past ++ d.work ∷ []) (connections_of d.taken)
  pub past_closed : All (λ work. is_closed work ≡ true) d.past
  pub ended : has_ended d.taken ≡ true → is_closed d.work ≡ true

-- What the works of a desk keep. The latest work let go of nothing. Each past work came to the past
-- ones whole, as `ended` tells: it had let go of nothing. Since then the oldest let go, and the
-- latest are whole still as far as 1,000,000 bytes go.
pub record KeepsWorks {W M : Type 0} (label : W → ℕ) (given : W → List (Given M) → Type 0)
    (ticked : W → List ℕ → Type 0) (is_closed : W → Bool) (is_whole : W → Type 0) (weight : W → ℕ)
    (d : DeskState W M) : Type 0 where
  pub latest : is_whole d.work
  pub ended : List W
  pub whole : All is_whole ended
  pub past : OldestLetGo label given ticked is_closed weight ended d.past

-- the inbox is the same, and the seat was told nothing new
abbrev pub IsSameDesk : {W M : Type 0} → DeskState W M → DeskState W M → Type 0
IsSameDesk old new = (new.inbox ≡ old.inbox) × (new.queued ≡ old.queued)

-- the same, and nothing was taken
abbrev pub IsSameLine : {W M : Type 0} → DeskState W M → DeskState W M → Type 0
IsSameLine old new = IsSameDesk old new × (new.taken ≡ old.taken)

-- This mark was taken, and given to the latest work, which was open.
pub record Gives {W M : Type 0} (given : W → List (Given M) → Type 0) (is_closed : W → Bool)
    (old new : DeskState W M) (mark : Queued M W) : Type 0 where
  pub item : is_open mark ≡ false
  pub live : is_closed old.work ≡ false
  pub past : new.past ≡ old.past
  pub gave : IsGivenMore given (given_by mark) old.work new.work

-- This mark came to a closed work, which was given nothing.
pub record PassesOver {W M : Type 0} (given : W → List (Given M) → Type 0) (is_closed : W → Bool)
    (old new : DeskState W M) (mark : Queued M W) : Type 0 where
  pub item : is_open mark ≡ false
  pub closed : is_closed new.work ≡ true
  pub past : new.past ≡ old.past
  pub gave : IsGivenNone given old.work new.work

-- This is an open mark. The latest work is past, and the work that the mark brought is the latest.
-- No work was given anything.
pub record Opens {W M : Type 0} (given : W → List (Given M) → Type 0) (old new : DeskState W M)
    (mark : Queued M W) : Type 0 where
  pub opens : is_open mark ≡ true
  pub brought : brought_by mark ≡ new.work ∷ []
  pub nothing : given new.work []
  pub past : AllZip (IsGivenNone given) (old.past ++ old.work ∷ []) new.past

-- What a step did. Worked: a mark was taken and given to a work that was open. Passed: a mark was
-- taken and given to no work, since it is an open mark or the work is closed. Empty: nothing was
-- taken, since all that the seat was told was queued had been taken.
abbrev pub Stepped : {W M : Type 0} → (W → List (Given M) → Type 0) → (W → Bool) → DeskState W M
    → DeskState W M → Step → Type 0
Stepped {W} {M} given is_closed old new step.Worked =
    IsSameDesk old new
    × ((mark : Queued M W) × (new.taken ≡ old.taken ++ mark ∷ [])
    × Gives given is_closed old new mark)
Stepped {W} {M} given is_closed old new step.Passed =
    IsSameDesk old new
    × ((mark : Queued M W) × (new.taken ≡ old.taken ++ mark ∷ [])
    × (Opens given old new mark ⊎ PassesOver given is_closed old new mark))
Stepped {W} {M} given is_closed old new step.Empty =
    IsSameLine old new × IsBeginning old.queued old.taken
    × (is_closed old.work ≡ true → is_closed new.work ≡ true) × (new.past ≡ old.past)
    × IsGivenNone given old.work new.work

-- The works were given this. `gave` has a list for the latest work and one for each work that came
-- since. Whatever the works had been given, the latest was given the first of these lists behind
-- that, each work that came since its own list, and no other work anything.
abbrev pub WereGiven : {W M : Type 0} → (W → List (Given M) → Type 0) → DeskState W M
    → DeskState W M → List (List (Given M)) → Type 0
WereGiven {W} {M} given old new gave =
    (had : List (List (Given M))) → AllZip given (old.past ++ old.work ∷ []) had
    → AllZip given (new.past ++ new.work ∷ []) (go_on had gave)

-- So many marks were taken, in order. Those that count as worked were given to works, as `gave`
-- tells: each work was given a beginning of what the marks give to its connection, and all of that
-- if it is open. The others were passed over: all open marks, and what came to a closed work. If
-- the work was closed before, only a work that an open mark brought was given anything; without an
-- open mark it is closed still.
pub record HasTaken {W M : Type 0} (given : W → List (Given M) → Type 0) (is_closed : W → Bool)
    (old new : DeskState W M) (worked passed : ℕ) : Type 0 where
  pub marks : List (Queued M W)
  pub taken : new.taken ≡ old.taken ++ marks
  pub count : length marks ≡ worked + passed
  pub gave : List (List (Given M))
  pub works : WereGiven given old new gave
  pub sum : sum_by length gave ≡ worked
  pub begin : AllZip IsBeginning gave (connections_of marks)
  pub all : is_closed new.work ≡ false → last_of gave ≡ last_of (connections_of marks)
  pub behind : is_closed old.work ≡ true → 1 ≤ worked → 1 ≤ count_by is_open marks
  pub stays : is_closed old.work ≡ true → count_by is_open marks ≡ 0 → is_closed new.work ≡ true

-- The same, of the same inbox, and the seat was told nothing new.
pub record HasServed {W M : Type 0} (given : W → List (Given M) → Type 0) (is_closed : W → Bool)
    (old new : DeskState W M) (worked passed : ℕ) : Type 0 where
  pub same : IsSameDesk old new
  pub has : HasTaken given is_closed old new worked passed

-- The same within a budget. Fewer marks than the budget were taken only if all that the seat was
-- told was queued has been taken, or something was given to a work and the work is closed now.
pub record IsServed {W M : Type 0} (given : W → List (Given M) → Type 0) (is_closed : W → Bool)
    (old new : DeskState W M) (budget worked passed : ℕ) : Type 0 where
  pub has : HasServed given is_closed old new worked passed
  pub within : worked + passed ≤ budget
  pub all_told : worked + passed < budget
      → IsBeginning new.queued new.taken ⊎ ((1 ≤ worked) × (is_closed new.work ≡ true))

-- Marks were taken, in order, until all that the seat was told was queued had been taken.
pub record HasServedAll {W M : Type 0} (old new : DeskState W M) : Type 0 where
  pub same : IsSameDesk old new
  pub taken : IsBeginning old.taken new.taken
  pub all_told : IsBeginning new.queued new.taken

-- ---- ticks

-- The works of a desk before and after. No earlier work was ticked. The latest work became
-- `latest`, as `becomes` tells. The works that came since were never ticked.
pub record WorksAfter {W M : Type 0} (ticked : W → List ℕ → Type 0) (becomes : W → W → Type 0)
    (old new : DeskState W M) : Type 0 where
  pub earlier : List W
  pub latest : W
  pub later : List W
  pub works : new.past ++ new.work ∷ [] ≡ earlier ++ latest ∷ later
  pub earlier_none : AllZip (IsUnticked ticked) old.past earlier
  pub became : becomes old.work latest
  pub later_none : All (λ work. ticked work []) later

-- If the latest work was open, it was ticked once, before it was given anything more. No other work
-- was ticked.
abbrev pub TickedOnce : {W M : Type 0} → (W → List (Given M) → Type 0) → (W → List ℕ → Type 0)
    → (W → Bool) → DeskState W M → DeskState W M → Type 0
TickedOnce given ticked is_closed old new =
    WorksAfter ticked (IsTicked given ticked is_closed) old new

-- no work was ticked
abbrev pub NotTicked : {W M : Type 0} → (W → List ℕ → Type 0) → DeskState W M → DeskState W M
    → Type 0
NotTicked ticked old new = WorksAfter ticked (IsUnticked ticked) old new

-- ---- what the works of past connections keep

-- `ended` are the works of the connections that ended since, each as it was then, or without the
-- bytes that it kept if these were more than 1,000,000. The first of them is the latest work from
-- before, unchanged if that was closed. Since then each past work stayed as it was or let go, and
-- the latest stayed as far as 1,000,000 bytes go.
pub record PastAfter {W M : Type 0} (label : W → ℕ) (given : W → List (Given M) → Type 0)
    (ticked : W → List ℕ → Type 0) (is_closed : W → Bool) (weight : W → ℕ) (old new : DeskState W M)
    : Type 0 where
  pub ended : List W
  pub few : All (λ work. weight work ≤ 1000000) ended
  pub past : OldestLetGo label given ticked is_closed weight (old.past ++ ended) new.past
  pub closed : is_closed old.work ≡ true
      → StaysIfFew label given ticked is_closed weight old.work (first_of ended new.work)
