use Rattle.std.proofs.Common.{ℕ, List, slice_index, sym, ap, ◌∙◌}
use Rattle.sha2.specs.Sha256.{padding, round, round_constants, schedule}
use Rattle.sha2.proofs.Schedule256.{rounds_next}
use Rattle.cb_base.proofs.LaneLemmas.{splat_at}
use Rattle.cb_base.proofs.PaddingRounds.{table, table_at}
use Rattle.cb_base.proofs.compression.padding_step.Goals as goal

pub returns : goal.returns
returns c k lt h held =
    let words : List ℕ = schedule (padding 64) 48 in
    let constant : ℕ = slice_index round_constants c.args.t in
    let word : ℕ = slice_index words c.args.t in
    c.round.ensures k lt constant word (splat_at (slice_index table c.args.t) k lt ∙ table_at c.args.t c.requires)
    ∙ ap (λ (v : List ℕ). round v constant word) held ∙ sym (rounds_next h words c.args.t)
