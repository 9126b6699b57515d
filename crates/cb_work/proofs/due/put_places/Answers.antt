use Rattle.std.proofs.Common.{rules, ◌<◌, ◌∙◌, ◌++◌, ◌∷◌, [], if◌then◌else◌, ap, length}
use Rattle.cb_work.specs.Due.{is_due_as}
use Rattle.cb_work.proofs.Places.{one_more}
use Rattle.cb_work.proofs.due.put_places.Goals as goal

pub loop-place-preserved : goal.loop-place-preserved
loop-place-preserved c =
    let within : c.loop-place.place < length c.args.all.now = search rules in
    one_more (is_due_as c.args.tip c.args.high) c.args.all.now c.loop-place.place _ c.loop-place.places.items c.put_if.new.places.items within (c.in_ok-put_if.ensures.places ∙ ap (λ (due : _). c.loop-place.places.items ++ (if due then c.loop-place.place ∷ [] else [])) c.is_due_as.ensures) c.args.places.now.items c.loop-place.invariant
