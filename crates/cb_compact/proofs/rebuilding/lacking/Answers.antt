use Rattle.std.proofs.Common.{◌≤◌, ap, ◌∙◌, sym, subst, length, arith}
use Rattle.cb_compact.specs.Differences.{Rise, differences}
use Rattle.cb_compact.proofs.Leading.{missing_few, missing_wider}
use Rattle.cb_compact.proofs.rebuilding.lacking.Goals as goal

pub differ-requires : goal.differ-requires
differ-requires c = subst (Rise 0 18446744073709551616) (sym c.requires.exact) (missing_wider c.args.partial.slots c.requires.few)

pub from_few-differences-requires : goal.from_few-differences-requires
from_few-differences-requires c =
    let few : length c.in_ok-differ.field-0.items ≤ 16666 = subst (λ list. length list ≤ 16666) (sym (c.in_ok-differ.ensures.exact ∙ ap (differences 0) c.requires.exact)) (missing_few c.args.partial.slots c.requires.few) in
    (omega arith, few)
