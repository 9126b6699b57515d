use Rattle.std.proofs.Common.{◌≡◌, ℕ, ◌*◌, ◌<◌}
use Rattle.sha2.specs.Sha256.{padding, rounds, schedule}
use Rattle.cb_base.specs.Lanes.{lane}
use Rattle.cb_base.proofs.compression.compress_padding.Given as goal

abbrev pub invariant-loop-turn : goal.invariant-loop-turn
invariant-loop-turn l = (k : ℕ) → k < 4 → lane k l.v ≡ rounds (lane k l.fn.state) (schedule (padding 64) 48) (8 * l.turn)
