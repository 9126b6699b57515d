-- One peer's inbox as a state machine: the line of marks that its reader queued, those that wait,
-- and those that were taken. It works for any type M of marks. is_end and is_open tell the end
-- mark, by which a connection ends, and the open mark, by which the next one begins.
use Rattle.std.specs.Prelude.{◌≡◌, ℕ, ◌+◌, ◌<◌, Bool, true, false, List, [], ◌∷◌, ◌++◌, take, drop, count_by}

pub record Line (M : Type 0) : Type 0 where
  pub queued : List M  -- all marks that the reader put, end marks and open marks included, in order
  pub inbox : List M  -- the marks that wait, the front first
  pub taken : List M  -- all marks that were taken, in order
  pub ended : Bool  -- the last mark that the reader put is an end mark

-- no mark was put yet
abbrev pub empty_line : {M : Type 0} → Line M
empty_line = record { queued = []; inbox = []; taken = []; ended = false }

-- after the reader put m at the back; an end mark ends the line
abbrev pub line_put : {M : Type 0} → (M → Bool) → Line M → M → Line M
line_put is_end line m = record {
  queued = line.queued ++ m ∷ [];
  inbox = line.inbox ++ m ∷ [];
  taken = line.taken;
  ended = is_end m;
}

-- after the mark at the front of the inbox was taken
abbrev pub line_taken : {M : Type 0} → Line M → Line M
line_taken line = record {
  queued = line.queued;
  inbox = drop 1 line.inbox;
  taken = line.taken ++ take 1 line.inbox;
  ended = line.ended;
}

-- how many connections these marks belong to: one more than there are open marks
abbrev pub connections : {M : Type 0} → (M → Bool) → List M → ℕ
connections is_open marks = 1 + count_by is_open marks

-- The mark may come next. An open mark may if the line has ended and had fewer than 256
-- connections. Any other mark may if the line hasn't ended.
pub record MayFollow {M : Type 0} (is_open : M → Bool) (line : Line M) (m : M) : Type 0 where
  pub in_turn : line.ended ≡ is_open m
  pub few : is_open m ≡ true → connections is_open line.queued < 256

-- the lines that puts and takes lead to from the empty one, whatever the capacity
pub data LineReached {M : Type 0} (is_end is_open : M → Bool) : Line M → Type 0 where
  opening : LineReached is_end is_open empty_line
  put : (line : Line M) (m : M) → LineReached is_end is_open line → MayFollow is_open line m
      → LineReached is_end is_open (line_put is_end line m)
  take_front : (line : Line M) (m : M) (rest : List M) → LineReached is_end is_open line
      → line.inbox ≡ m ∷ rest → LineReached is_end is_open (line_taken line)
