use Rattle.std.proofs.Common.{ℕ, ◌<◌}
use Rattle.cb_block.specs.Work.{HasWork}
use Rattle.cb_state.specs.Mining.{with_nonce}
use Rattle.cb_state.proofs.mining.with_work.Given as goal

abbrev pub invariant-loop-nonce : goal.invariant-loop-nonce
invariant-loop-nonce l = (nonce : ℕ) → nonce < l.nonce → ¬ HasWork (with_nonce l.header nonce)
