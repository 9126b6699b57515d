-- What a work was given of its connection, and when it was ticked.
use Rattle.std.specs.Prelude.{◌≡◌, ◌⊎◌, ℕ, Bool, true, false, List, [], ◌∷◌, ◌++◌, length, map}
use Rattle.std.specs.List.{flat_map}
use Rattle.cb_crew.specs.Laws.{IsBeginning}
use Rattle.cb_crew.specs.Parts.{parts}
use Rattle.cb_crew.specs.declared.queued.Queued.{Queued}
use Rattle.cb_crew.specs.declared.queued.Queued.TheVariants as queued
use Rattle.cb_crew.specs.Queued.{is_open}
use Rattle.cb_crew.specs.declared.work.Given.{Given}
use Rattle.cb_crew.specs.declared.work.Given.TheVariants as given

-- it is the end of a connection
abbrev pub IsEnd : {M : Type 0} → Given M → Type 0
IsEnd (given.Item item) = ⊥
IsEnd given.End = Unit {0}

-- a work that is open, was given nothing, was never ticked and let go of nothing
pub record IsFresh {W M : Type 0} (was_given : W → List (Given M) → Type 0)
    (ticked : W → List ℕ → Type 0) (is_closed : W → Bool) (is_whole : W → Type 0) (work : W)
    : Type 0 where
  pub nothing : was_given work []
  pub unticked : ticked work []
  pub live : is_closed work ≡ false
  pub whole : is_whole work

-- what a mark of an inbox gives to a work; an open mark gives nothing
abbrev pub given_by : {M O : Type 0} → Queued M O → List (Given M)
given_by (queued.Item item) = given.Item item ∷ []
given_by queued.End = given.End ∷ []
given_by (queued.Open opening) = []

-- what each connection of a peer gives to its work, one connection after another
abbrev pub connections_of : {M O : Type 0} → List (Queued M O) → List (List (Given M))
connections_of marks = map (flat_map given_by) (parts is_open marks)

-- the work that an open mark brings
abbrev pub brought_by : {M O : Type 0} → Queued M O → List O
brought_by (queued.Item item) = []
brought_by queued.End = []
brought_by (queued.Open opening) = opening ∷ []

-- the works of a peer's later connections, all but the first, in order
abbrev pub openings_of : {M O : Type 0} → List (Queued M O) → List O
openings_of marks = flat_map brought_by marks

-- the work of the first connection: the first past work, or the latest work if none is past
abbrev pub first_of : {W : Type 0} → List W → W → W
first_of [] work = work
first_of (first ∷ later) work = first

-- These are the works of a peer's connections. The first has the label `first`. Each later one has
-- the label of the work that its open mark brought.
abbrev pub AreWorksOf : {W M : Type 0} → (W → ℕ) → ℕ → List (Queued M W) → List W → Type 0
AreWorksOf label first marks works = map label works ≡ first ∷ map label (openings_of marks)

-- it was given these too, behind what it had been given
abbrev pub IsGivenMore : {W M : Type 0} → (W → List (Given M) → Type 0) → List (Given M) → W → W
    → Type 0
IsGivenMore {W} {M} was_given more old new =
    (items : List (Given M)) → was_given old items → was_given new (items ++ more)

-- it was given nothing
abbrev pub IsGivenNone : {W M : Type 0} → (W → List (Given M) → Type 0) → W → W → Type 0
IsGivenNone {W} {M} was_given old new =
    (items : List (Given M)) → was_given old items → was_given new items

-- the last of these lists
abbrev pub last_of : {A : Type 0} → List (List A) → List A
last_of [] = []
last_of (list ∷ []) = list
last_of (list ∷ next ∷ later) = last_of (next ∷ later)

-- The first of the lists `more` goes on with the last of these lists. The others come behind.
abbrev pub go_on : {A : Type 0} → List (List A) → List (List A) → List (List A)
go_on [] more = more
go_on (list ∷ []) [] = list ∷ []
go_on (list ∷ []) (first ∷ more) = (list ++ first) ∷ more
go_on (list ∷ next ∷ later) more = list ∷ go_on (next ∷ later) more

-- The work was given a prefix of its connection, in order and each once. An open work was given all
-- of it.
pub record WorksOn {W M : Type 0} (was_given : W → List (Given M) → Type 0) (is_closed : W → Bool)
    (work : W) (connection : List (Given M)) : Type 0 where
  pub items : List (Given M)
  pub are_given : was_given work items
  pub begin : IsBeginning items connection
  pub whole : is_closed work ≡ false → items ≡ connection

-- An open work was ticked once, before it was given anything more. A closed work wasn't ticked.
pub record IsTicked {W M : Type 0} (was_given : W → List (Given M) → Type 0)
    (ticked : W → List ℕ → Type 0) (is_closed : W → Bool) (old new : W) : Type 0 where
  pub once : is_closed old ≡ false → (items : List (Given M)) (at : List ℕ) → was_given old items
      → ticked old at → ticked new (at ++ length items ∷ [])
  pub none : is_closed old ≡ true → (at : List ℕ) → ticked old at → ticked new at

-- it wasn't ticked again
abbrev pub IsUnticked : {W : Type 0} → (W → List ℕ → Type 0) → W → W → Type 0
IsUnticked ticked old new = (at : List ℕ) → ticked old at → ticked new at

-- It let go of the bytes that it kept. It is closed, and else it is as before.
pub record HasLetGo {W M : Type 0} (label : W → ℕ) (was_given : W → List (Given M) → Type 0)
    (ticked : W → List ℕ → Type 0) (is_closed : W → Bool) (weight : W → ℕ) (old new : W)
    : Type 0 where
  pub nothing : weight new ≡ 0
  pub labelled : label new ≡ label old
  pub given : (items : List (Given M)) → was_given old items → was_given new items
  pub unticked : IsUnticked ticked old new
  pub closed : is_closed new ≡ true

-- it is as before, or it let go
abbrev pub IsKeptOrLetGo : {W M : Type 0} → (W → ℕ) → (W → List (Given M) → Type 0)
    → (W → List ℕ → Type 0) → (W → Bool) → (W → ℕ) → W → W → Type 0
IsKeptOrLetGo label was_given ticked is_closed weight old new =
    (new ≡ old) ⊎ HasLetGo label was_given ticked is_closed weight old new
