use Rattle.std.proofs.Common.{ℕ, ◌*◌, ◌<◌, List}
use Rattle.sha2.specs.Sha256.{IsRoundsAt, IsWindow, schedule}
use Rattle.cb_base.specs.Lanes.{lane}
use Rattle.cb_base.proofs.compression.all_rounds.Given as goal

abbrev pub invariant-loop-turn : goal.invariant-loop-turn
invariant-loop-turn l =
    (k : ℕ) → k < 4 → (b : List ℕ) → IsWindow (lane k l.fn.words) (schedule b 48) 16 → IsRoundsAt b (lane k l.fn.state) (lane k l.w) (lane k l.v) (16 * l.turn)
