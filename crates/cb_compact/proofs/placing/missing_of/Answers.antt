use Rattle.std.proofs.Common.{◌+◌, ◌++◌, ◌∷◌, [], drop, not, ap, ◌∙◌, sym, append_assoc}
use Rattle.cb_compact.specs.Slots.{missing}
use Rattle.cb_compact.proofs.Slotting.{missing_here, missing_none, missing_some}
use Rattle.cb_compact.proofs.placing.missing_of.Goals as goal
use Rattle.cb_compact.proofs.placing.missing_of.Goals.{then-is_none+in_ok-push, else-is_none}

pub loop-place-preserved : goal.loop-place-preserved
loop-place-preserved c =
    let place = c.loop-place.place in
    let slot = c.index-list-place.result in
    let had = c.loop-place.places.items in
    let rest = drop (place + 1) c.args.list.now in
    let more = missing (place + 1) rest in
    let here = missing_here place c.args.list.now place slot c.loop-place-test.true c.index-list-place.is in
    elim c.if-is_none.branch [
      | then-is_none+in_ok-push w ↦
          let step = here ∙ missing_none place slot rest (c.is_none.ensures ∙ ap not w.if-is_none.true) in
          ap (λ places. places.items ++ more) w.places-is ∙ ap (λ items. items ++ more) w.in_ok-push.ensures.items ∙ append_assoc had (place ∷ []) more ∙ ap (λ list. had ++ list) (sym step) ∙ c.loop-place.invariant
      | else-is_none w ↦
          let step = here ∙ missing_some place slot rest (c.is_none.ensures ∙ ap not w.if-is_none.false) in
          ap (λ places. places.items ++ more) w.places-is ∙ ap (λ list. had ++ list) (sym step) ∙ c.loop-place.invariant
    ]
