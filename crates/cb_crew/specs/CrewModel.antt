-- The crew's core as a state machine: the inboxes of all peers, the desks, and the acts that lead
-- from one state to the next.
use Rattle.std.specs.Prelude.{◌≡◌, ℕ, ◌<◌, Bool, true, false, List, [], ◌∷◌, length, replicate, slice_index, slice_index_or, slice_set}
use Rattle.cb_crew.specs.declared.act.Act.{Act}
use Rattle.cb_crew.specs.declared.act.Act.TheVariants as act
use Rattle.cb_crew.specs.declared.act.Mark.{Mark}
use Rattle.cb_crew.specs.declared.act.Mark.TheVariants as mark
use Rattle.cb_crew.specs.Line.{Line, MayFollow, empty_line, line_put, line_taken}
use Rattle.cb_crew.specs.Desks.{Desks, opening_desks, held_by, claimed, given}

-- a state of the crew
pub record Crew : Type 0 where
  pub lines : List (Line Mark)  -- one for each peer
  pub desks : Desks

-- the mark is an end mark: a connection ends
abbrev pub is_end : Mark → Bool
is_end (mark.Item x) = false
is_end mark.End = true
is_end mark.Open = false

-- the mark is an open mark: the next connection begins
abbrev pub is_open : Mark → Bool
is_open (mark.Item x) = false
is_open mark.End = false
is_open mark.Open = true

-- nothing is queued, and all desks wait in the ring
abbrev pub opening_crew : ℕ → ℕ → Crew
opening_crew peers handlers = record {
  lines = replicate peers empty_line;
  desks = opening_desks peers handlers;
}

-- peer p's line
abbrev pub line_of : Crew → ℕ → Line Mark
line_of s p = slice_index_or s.lines p empty_line

-- the desk that handler k holds
abbrev pub desk_of : Crew → ℕ → ℕ
desk_of s k = slice_index (held_by s.desks k) 0

-- Peer p exists, its inbox holds fewer marks than the capacity, and this mark may come next. An
-- open mark may come if the peer has ended and had fewer than 256 connections. Any other mark may
-- come if the peer hasn't ended.
pub record MayPut (capacity : ℕ) (s : Crew) (p : ℕ) (m : Mark) : Type 0 where
  pub exists : p < length s.lines
  pub room : length (line_of s p).inbox < capacity
  pub follows : MayFollow is_open (line_of s p) m

-- handler k exists and holds no desk, and a desk waits in the ring
pub record MayClaim (s : Crew) (k : ℕ) : Type 0 where
  pub exists : k < length s.desks.held
  pub free : held_by s.desks k ≡ []
  pub waits : 0 < length s.desks.ring

-- handler k holds a desk
abbrev pub HoldsDesk : Crew → ℕ → Type 0
HoldsDesk s k = 0 < length (held_by s.desks k)

-- handler k holds a desk whose inbox isn't empty
pub record MayTake (s : Crew) (k : ℕ) : Type 0 where
  pub holds : HoldsDesk s k
  pub filled : 0 < length (line_of s (desk_of s k)).inbox

-- the act is possible in this state
abbrev pub IsEnabled : ℕ → Crew → Act → Type 0
IsEnabled capacity s (act.Put p x) = MayPut capacity s p (mark.Item x)
IsEnabled capacity s (act.End p) = MayPut capacity s p mark.End
IsEnabled capacity s (act.Open p) = MayPut capacity s p mark.Open
IsEnabled capacity s (act.Claim k) = MayClaim s k
IsEnabled capacity s (act.Take k) = MayTake s k
IsEnabled capacity s (act.Give k) = HoldsDesk s k

-- the state with peer p's line replaced
abbrev pub with_line : Crew → ℕ → Line Mark → Crew
with_line s p line = record { lines = slice_set s.lines p line; desks = s.desks }

-- the state with its desks replaced
abbrev pub with_desks : Crew → Desks → Crew
with_desks s desks = record { lines = s.lines; desks = desks }

-- Putting m at the back of peer p's inbox leads from s to t.
abbrev pub Puts : ℕ → Crew → ℕ → Mark → Crew → Type 0
Puts capacity s p m t =
    MayPut capacity s p m × (t ≡ with_line s p (line_put is_end (line_of s p) m))

-- The act leads from s to t.
abbrev pub Step : ℕ → Crew → Act → Crew → Type 0
Step capacity s (act.Put p x) t = Puts capacity s p (mark.Item x) t
Step capacity s (act.End p) t = Puts capacity s p mark.End t
Step capacity s (act.Open p) t = Puts capacity s p mark.Open t
Step capacity s (act.Claim k) t = MayClaim s k × (t ≡ with_desks s (claimed s.desks k))
Step capacity s (act.Take k) t =
    MayTake s k × (t ≡ with_line s (desk_of s k) (line_taken (line_of s (desk_of s k))))
Step capacity s (act.Give k) t = HoldsDesk s k × (t ≡ with_desks s (given s.desks k))

-- These acts, one after another, lead from s to t.
abbrev pub Run : ℕ → Crew → List Act → Crew → Type 0
Run capacity s [] t = t ≡ s
Run capacity s (a ∷ acts) t = (mid : Crew) × Step capacity s a mid × Run capacity mid acts t

-- some acts lead from the opening state to this one
pub record IsReached (peers handlers capacity : ℕ) (s : Crew) : Type 0 where
  pub acts : List Act
  pub run : Run capacity (opening_crew peers handlers) acts s

-- the acts that may allocate: those that queue a mark
abbrev pub TakesMemory : Act → Type 0
TakesMemory (act.Put p x) = Unit {0}
TakesMemory (act.End p) = Unit {0}
TakesMemory (act.Open p) = Unit {0}
TakesMemory (act.Claim k) = ⊥
TakesMemory (act.Take k) = ⊥
TakesMemory (act.Give k) = ⊥

-- how contracts see a System: a state, and how many marks an inbox may hold
pub record Machine : Type 0 where
  pub capacity : ℕ
  pub crew : Crew
