use Rattle.std.proofs.Common.{◌≡◌, ℕ, ◌<◌, [], length, slice_index, slice_index_or, refl, ap, ◌∙◌, arith}
use Rattle.sha2.specs.Sha256.{add32}
use Rattle.cb_base.specs.Lanes.{lane}
use Rattle.cb_base.proofs.LaneLemmas.{lane_at}
use Rattle.cb_base.proofs.PaddingRounds.{added_in_turn}
use Rattle.cb_base.proofs.compression.round.Goals as goal

pub returns : goal.returns
returns c k lt constant word is =
    let long : length c.args.v ≡ 8 = omega arith in
    let at : (i : ℕ) → i < 8 → slice_index (lane k c.args.v) i ≡ slice_index (slice_index_or c.args.v i []) k = λ i below. lane_at k i c.args.v [] (omega (arith, long, below)) in
    let sum : slice_index c.add-temp1.result k ≡ add32 (add32 (slice_index c.add-t2.result k) constant) word =
    c.add-temp1.ensures k lt ∙ ap (add32 (slice_index c.add-t2.result k)) is ∙ added_in_turn (slice_index c.add-t2.result k) constant word in
    rw (
      at 0 (omega arith),
      at 1 (omega arith),
      at 2 (omega arith),
      at 3 (omega arith),
      at 4 (omega arith),
      at 5 (omega arith),
      at 6 (omega arith),
      at 7 (omega arith),
      c.add-first.ensures k lt,
      c.add-fifth.ensures k lt,
      c.add-temp2.ensures k lt,
      sum,
      c.add-t2.ensures k lt,
      c.add-t1.ensures k lt,
      c.big_sigma1-s1.ensures k lt,
      c.big_sigma0-s0.ensures k lt,
      c.ch-chosen.ensures k lt,
      c.maj-most.ensures k lt,
    ) refl
