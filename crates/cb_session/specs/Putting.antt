-- Putting inputs one after another, and ending the connection.
use Rattle.std.specs.Prelude.{◌≡◌, ℕ, ◌≤◌, ◌-◌, ◌^◌, ◌⊎◌, Bool, true, false, List, ◌++◌}
use Rattle.cb_base.specs.declared.read_end.ReadEnd.{ReadEnd}
use Rattle.cb_base.specs.declared.read_end.ReadEnd.TheVariants as ends
use Rattle.cb_session.specs.declared.input.Input.{Input}

-- What a reader's seat and its stop tell.
pub record SeatNow : Type 0 where
  pub queued : List Input  -- the inputs that were put so far
  pub ended : Bool  -- whether the connection was ended
  pub counted : ℕ  -- how many puts and ends the seat counts
  pub stopped : Bool  -- whether the stop has answered true

abbrev pub seat_now : {T P : Type 0} → (T → List Input) → (T → Bool) → (T → ℕ) → (P → Bool) → T → P
    → SeatNow
seat_now queued has_ended counted has_stopped seat stop =
    record {
      queued = queued seat;
      ended = has_ended seat;
      counted = counted seat;
      stopped = has_stopped stop;
    }

-- Why nothing more can be put: the reader was stopped, or its seat counts 2^48 - 1 puts.
abbrev pub HaltsSo : ReadEnd → SeatNow → Type 0
HaltsSo ends.Stopped now = now.stopped ≡ true
HaltsSo ends.Turns now = (now.stopped ≡ false) × (2 ^ 48 - 1 ≤ now.counted)
HaltsSo ends.Eof now = ⊥
HaltsSo ends.Fault now = ⊥

-- All of these inputs were put, and the connection goes on.
pub record PutAll (old new : SeatNow) (inputs : List Input) : Type 0 where
  pub grown : new.queued ≡ old.queued ++ inputs
  pub live : new.ended ≡ false
  pub going : old.stopped ≡ false → new.stopped ≡ false

-- A beginning of these inputs was put. Then no more could be put, and the connection isn't ended.
pub record PutSome (old new : SeatNow) (inputs : List Input) (end : ReadEnd) : Type 0 where
  pub put : List Input
  pub later : List Input
  pub parts : put ++ later ≡ inputs
  pub grown : new.queued ≡ old.queued ++ put
  pub live : new.ended ≡ false
  pub cause : HaltsSo end new

-- All of these inputs were put, and the connection was ended behind them.
pub record PutAndEnded (old new : SeatNow) (inputs : List Input) : Type 0 where
  pub grown : new.queued ≡ old.queued ++ inputs
  pub ended : new.ended ≡ true
  pub going : new.stopped ≡ false

-- The connection was ended behind these inputs, and `end` is `why`. Or not all could be put.
abbrev pub Closes : SeatNow → SeatNow → List Input → ReadEnd → ReadEnd → Type 0
Closes old new inputs why end =
    ((end ≡ why) × PutAndEnded old new inputs) ⊎ PutSome old new inputs end
