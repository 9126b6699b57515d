use Rattle.std.proofs.Common.{◌≡◌, ◌∷◌, [], ◌++◌, sym, ap, ◌∙◌, append_assoc}
use Rattle.std.specs.Vec.Iter.{into_iter_items}
use Rattle.cb_compact.proofs.Tabling.{pair_more}
use Rattle.cb_compact.proofs.table.Table.found_among.Goals as goal

pub loop-pair-preserved : goal.loop-pair-preserved
loop-pair-preserved c =
    let l = c.loop-pair in
    let pair = c.in-Some.pair in
    let before = l.invariant.0 in
    let rest = into_iter_items c.next.new.self in
    let rest_is : into_iter_items l.pair-iterator ≡ pair ∷ rest = c.in-Some.ensures.steps.0 in (
      before ++ pair ∷ [],
      append_assoc before (pair ∷ []) rest ∙ ap (λ list. before ++ list) (sym rest_is) ∙ l.invariant.1,
      λ ids different begun. pair_more ids before pair l.table c.add.new.self different (l.invariant.2 ids different begun) c.add.ensures.places c.add.ensures.found,
    )
