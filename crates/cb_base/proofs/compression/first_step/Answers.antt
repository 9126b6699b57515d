use Rattle.std.proofs.Common.{◌≡◌, ℕ, [], length, slice_index, slice_index_or, refl, sym, ap, ◌∙◌, arith}
use Rattle.sha2.specs.Sha256.{add32, round_constants}
use Rattle.sha2.proofs.Schedule256.{rounds_first}
use Rattle.cb_base.specs.Lanes.{lane}
use Rattle.cb_base.proofs.LaneLemmas.{lane_at, splat_at}
use Rattle.cb_base.proofs.compression.first_step.Goals as goal

pub returns : goal.returns
returns c k lt b h window held =
    let long : length c.args.w.now ≡ 16 = omega arith in
    let constant : ℕ = slice_index round_constants c.args.t in
    let word : ℕ = slice_index (slice_index_or c.args.w.now c.args.t []) k in
    let added : slice_index c.add-added.result k ≡ add32 constant word = c.add-added.ensures k lt ∙ ap (λ (x : ℕ). add32 x word) (splat_at constant k lt) in
    rounds_first b h (lane k c.args.w.now) (lane k c.args.v) c.args.t constant word _ c.requires window held refl
    (sym (lane_at k c.args.t c.args.w.now [] (omega arith))) (c.round.ensures k lt constant word added)
