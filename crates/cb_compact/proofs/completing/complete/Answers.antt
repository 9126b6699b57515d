use Rattle.std.proofs.Common.{◌≡◌, length, ap, ◌∙◌, arith}
use Rattle.cb_compact.specs.Slots.{missing}
use Rattle.cb_compact.proofs.Settling.{completed_by}
use Rattle.cb_compact.proofs.completing.complete.Goals as goal

pub returns-clause-exact : goal.returns-clause-exact
returns-clause-exact c =
    let same = c.into_vec-list.ensures ∙ ap (λ it. it.txs) c.in_ok-copy.ensures.equal in
    let count : length c.args.txs.now.txs ≡ length (missing 0 c.args.partial.slots) = omega (arith, c.if-as_slice-lacking.false, ap length c.as_slice.ensures, c.lacking.ensures) in
    completed_by c.args.partial c.args.txs.now c.into_vec-list.result.items c.fill.result same count c.fill.ensures.filled c.fill.ensures.refused
