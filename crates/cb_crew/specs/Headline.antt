-- What a crew promises for each peer: what its works were given of what its reader queued.
use Rattle.std.specs.Prelude.{◌≡◌, ℕ, Bool, true, List, [], ◌∷◌, ◌++◌, length, map, All, Contains}
use Rattle.std.specs.List.{AllZip, range_with_len}
use Rattle.cb_crew.specs.Laws.{IsBeginning}
use Rattle.cb_crew.specs.declared.queued.Queued.{Queued}
use Rattle.cb_crew.specs.declared.work.Given.{Given}
use Rattle.cb_crew.specs.declared.work.Given.TheVariants as given
use Rattle.cb_crew.specs.declared.reader_side.ReaderSide.{ReaderSide}
use Rattle.cb_crew.specs.Work.{AreWorksOf, connections_of}
use Rattle.cb_crew.specs.Desk.{DeskState, KeepsWorks, NotTicked, first_label}
use Rattle.cb_crew.specs.Turn.{shown_desk}
use Rattle.cb_crew.specs.Crew.{AreInOrder, CrewState, names_of, all_queued}

-- nothing comes after an end
abbrev pub NothingAfterEnd : {M : Type 0} → List (Given M) → Type 0
NothingAfterEnd [] = Unit {0}
NothingAfterEnd (given.Item item ∷ rest) = NothingAfterEnd rest
NothingAfterEnd (given.End ∷ rest) = rest ≡ []

-- The work was given a prefix of its connection: the items that the reader queued, each once and in
-- order, and nothing after the connection's end. If it was given the end, it was given all of the
-- connection. So it was given all of it unless something closed it before.
pub record InOrder {W M : Type 0} (was_given : W → List (Given M) → Type 0) (work : W)
    (connection : List (Given M)) : Type 0 where
  pub items : List (Given M)
  pub are_given : was_given work items
  pub begin : IsBeginning items connection
  pub none_after : NothingAfterEnd items
  pub whole : Contains items given.End → items ≡ connection

-- Each connection of a peer was served by a work of its own. The first is the crew's work with the
-- label `first`. Each later one is the work that its open mark brought. All works are closed.
pub record IsServedInOrder {W M : Type 0} (label : W → ℕ) (was_given : W → List (Given M) → Type 0)
    (is_closed : W → Bool) (first : ℕ) (queued : List (Queued M W)) (works : List W) : Type 0 where
  pub whose : AreWorksOf label first queued works
  pub each : AllZip (InOrder was_given) works (connections_of queued)
  pub closed : All (λ work. is_closed work ≡ true) works

-- the works of a desk, in the order of the connections
abbrev pub works_of : {W M : Type 0} → DeskState W M → List W
works_of desk = desk.past ++ desk.work ∷ []

-- All that was queued was taken, and the desk's works have served it.
pub record IsSettled {W M : Type 0} (label : W → ℕ) (was_given : W → List (Given M) → Type 0)
    (is_closed : W → Bool) (queued : List (Queued M W)) (desk : DeskState W M) : Type 0 where
  pub taken : desk.taken ≡ queued
  pub served : IsServedInOrder label was_given is_closed (first_label label desk) queued
      (works_of desk)

-- The desks of all peers, in order. Each has served all that the peer's reader queued. Its first
-- work is the one with which the crew was made for this peer. Its latest work let go of nothing,
-- and its past works let go only as far as the bound of 1,000,000 bytes asks. The desks came
-- without a tick from the desks `before`, which are the crew's in the order of their peers.
pub record IsFinished {W M : Type 0} (label : W → ℕ) (was_given : W → List (Given M) → Type 0)
    (ticked : W → List ℕ → Type 0) (is_closed : W → Bool) (is_whole : W → Type 0) (weight : W → ℕ)
    (crew : CrewState) (sides : List (ReaderSide M W)) (desks : List (DeskState W M)) : Type 0 where
  pub peers : map (λ desk. desk.inbox.peer) desks ≡ range_with_len 0 (length crew.inboxes)
  pub names : map (λ desk. desk.inbox.name) desks ≡ names_of crew
  pub labels : map (first_label label) desks ≡ crew.labels
  pub settled : AllZip (λ side desk. IsSettled label was_given is_closed (all_queued side) desk)
      sides desks
  pub kept : All (KeepsWorks label was_given ticked is_closed is_whole weight) desks
  pub before : List (DeskState W M)
  pub taken_out : AreInOrder crew (map (shown_desk label is_closed) before)
  pub unticked : AllZip (NotTicked ticked) before desks
