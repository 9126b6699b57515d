use Rattle.std.proofs.Common.{◌+◌, ◌-◌, ◌^◌, ◌++◌, ◌∷◌, [], get_or, drop, ap, ◌∙◌, sym, append_assoc}
use Rattle.cb_compact.specs.Differences.{differences}
use Rattle.cb_compact.proofs.Indexes.{differences_here}
use Rattle.cb_compact.proofs.difference.differ.Goals as goal

pub loop-index-preserved : goal.loop-index-preserved
loop-index-preserved c =
    let others = c.in-Some.others.now in
    let i = c.loop-index.index-index in
    let before = c.loop-index.before in
    let index = get_or others i 0 in
    let more = differences (index + 1) (drop (i + 1) others) in
    let here = differences_here before (2 ^ 64) others i c.loop-index-test.true c.loop-index.invariant.1 in (
      ap (λ list. list ++ more) c.in_ok-push-2.ensures.items ∙ append_assoc c.loop-index.list.items ((index - before - 1) ∷ []) more ∙ ap (λ list. c.loop-index.list.items ++ list) (sym here.0) ∙ c.loop-index.invariant.0,
      here.2,
    )
