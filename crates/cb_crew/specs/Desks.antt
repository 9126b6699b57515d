-- The desks of a crew as a state machine. Each peer has one desk, named by the peer's number. A
-- desk waits in the ring, the run queue, or one handler holds it.
use Rattle.std.specs.Prelude.{◌≡◌, ℕ, ◌<◌, List, [], ◌∷◌, ◌++◌, length, take, drop, replicate, slice_index_or, slice_set}
use Rattle.std.specs.List.{range_with_len}

pub record Desks : Type 0 where
  pub ring : List ℕ  -- the waiting desks, the front first
  pub held : List (List ℕ)  -- for each handler its desk, or nothing

-- all desks wait, desk 0 at the front, and no handler holds one
abbrev pub opening_desks : ℕ → ℕ → Desks
opening_desks peers handlers = record {
  ring = range_with_len 0 peers;
  held = replicate handlers [];
}

-- what handler k holds
abbrev pub held_by : Desks → ℕ → List ℕ
held_by desks k = slice_index_or desks.held k []

-- after handler k took the desk at the front of the ring
abbrev pub claimed : Desks → ℕ → Desks
claimed desks k = record {
  ring = drop 1 desks.ring;
  held = slice_set desks.held k (take 1 desks.ring);
}

-- after handler k put its desk at the back of the ring
abbrev pub given : Desks → ℕ → Desks
given desks k = record { ring = desks.ring ++ held_by desks k; held = slice_set desks.held k [] }

-- the arrangements of desks that acts lead to from the opening one
pub data DesksReached (peers handlers : ℕ) : Desks → Type 0 where
  opening : DesksReached peers handlers (opening_desks peers handlers)
  claim : (desks : Desks) (k : ℕ) (desk : ℕ) (rest : List ℕ) → DesksReached peers handlers desks
      → k < length desks.held → held_by desks k ≡ [] → desks.ring ≡ desk ∷ rest
      → DesksReached peers handlers (claimed desks k)
  give : (desks : Desks) (k : ℕ) (desk : ℕ) → DesksReached peers handlers desks
      → k < length desks.held → held_by desks k ≡ desk ∷ []
      → DesksReached peers handlers (given desks k)
