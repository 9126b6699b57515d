use Rattle.std.proofs.Common.{◌≡◌, ℕ, ◌+◌, ◌%◌, ◌<◌, [], length, slice_index, slice_index_or, refl, arith}
use Rattle.cb_base.specs.Lanes.{lane}
use Rattle.cb_base.proofs.LaneLemmas.{lane_at}
use Rattle.cb_base.proofs.compression.next_word.Goals as goal

pub returns-clause-value : goal.returns-clause-value
returns-clause-value c k lt =
    let long : length c.args.w.now ≡ 16 = omega arith in
    let at : (i : ℕ) → i < 16 → slice_index (lane k c.args.w.now) i ≡ slice_index (slice_index_or c.args.w.now i []) k = λ i below. lane_at k i c.args.w.now [] (omega (arith, long, below)) in
    let here : c.args.place % 16 ≡ c.args.place = omega arith in
    rw (
      here,
      at ((c.args.place + 14) % 16) (omega arith),
      at ((c.args.place + 9) % 16) (omega arith),
      at ((c.args.place + 1) % 16) (omega arith),
      at c.args.place (omega arith),
      c.add-word.ensures k lt,
      c.add-second.ensures k lt,
      c.add-first.ensures k lt,
      c.small_sigma1-near.ensures k lt,
      c.small_sigma0-far.ensures k lt,
    ) refl
