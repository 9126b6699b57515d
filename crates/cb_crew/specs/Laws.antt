-- What holds in each state that acts lead to.
use Rattle.std.specs.Prelude.{◌≡◌, ℕ, ◌+◌, Bool, ◌⊎◌, if◌then◌else◌, nat_eq, nat_lt, List, [], ◌∷◌, ◌++◌, length, replicate, count_by}
use Rattle.std.specs.List.{sum_by}
use Rattle.cb_crew.specs.declared.act.Act.{Act}
use Rattle.cb_crew.specs.declared.act.Act.TheVariants as act
use Rattle.cb_crew.specs.declared.act.Mark.{Mark}
use Rattle.cb_crew.specs.Line.{Line}
use Rattle.cb_crew.specs.Desks.{Desks}
use Rattle.cb_crew.specs.CrewModel.{Crew, Run, opening_crew, IsEnabled, is_end, line_of, desk_of}

-- the first list is a prefix of the second
abbrev pub IsBeginning : {M : Type 0} → List M → List M → Type 0
IsBeginning {M} front whole = (rest : List M) × (whole ≡ front ++ rest)

-- Read from the left: a mark is an open mark exactly if the mark before it is an end mark. So each
-- open mark follows an end mark, and each end mark is last or is followed by an open mark.
-- `after_end` tells whether the mark before the list is an end mark.
abbrev pub OpensFollowEnds : {M : Type 0} → (is_end is_open : M → Bool) → (after_end : Bool)
    → List M → Type 0
OpensFollowEnds is_end is_open after_end [] = Unit {0}
OpensFollowEnds is_end is_open after_end (m ∷ rest) =
    (is_open m ≡ after_end) × OpensFollowEnds is_end is_open (is_end m) rest

-- the last mark is an end mark; for an empty list, whether the mark before it is one (`after_end`)
abbrev pub ends_last : {M : Type 0} → (M → Bool) → (after_end : Bool) → List M → Bool
ends_last is_end after_end [] = after_end
ends_last is_end after_end (m ∷ rest) = ends_last is_end (is_end m) rest

-- Each desk from 0 to peers - 1 is in exactly one place, in the ring or with one handler. There is
-- no other desk.
abbrev pub EachDeskOnce : ℕ → Desks → Type 0
EachDeskOnce peers desks =
    (p : ℕ)
    → count_by (nat_eq p) desks.ring + sum_by (count_by (nat_eq p)) desks.held
    ≡ (if nat_lt p peers then 1 else 0)

-- These acts lead from the opening state to this one.
abbrev pub Reaches : ℕ → ℕ → ℕ → List Act → Crew → Type 0
Reaches peers handlers capacity acts s = Run capacity (opening_crew peers handlers) acts s

-- a Claim, Take or Give by the handler is possible
abbrev pub CanGoOn : ℕ → Crew → ℕ → Type 0
CanGoOn capacity s k =
    IsEnabled capacity s (act.Claim k) ⊎ IsEnabled capacity s (act.Take k)
    ⊎ IsEnabled capacity s (act.Give k)

-- Handler k can Take as often as its desk's inbox has marks. That leaves the inbox empty.
abbrev pub TakesAll : ℕ → Crew → ℕ → Type 0
TakesAll capacity s k =
    (t : Crew) × Run capacity s (replicate (length (line_of s (desk_of s k)).inbox) (act.Take k)) t
    × ((line_of t (desk_of s k)).inbox ≡ [])
    × ((line_of t (desk_of s k)).taken
    ≡ (line_of s (desk_of s k)).taken ++ (line_of s (desk_of s k)).inbox)

-- A line is the line of peer 0 in a state that acts lead to, with one peer and one handler.
abbrev pub LineRuns : ℕ → Line Mark → Type 0
LineRuns capacity l =
    (acts : List Act) × (s : Crew) × Reaches 1 1 capacity acts s × (line_of s 0 ≡ l)

-- An arrangement of desks is that of a state that acts lead to.
abbrev pub DesksRun : ℕ → ℕ → ℕ → Desks → Type 0
DesksRun peers handlers capacity d =
    (acts : List Act) × (s : Crew) × Reaches peers handlers capacity acts s × (s.desks ≡ d)
