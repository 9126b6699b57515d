use Rattle.std.proofs.Common.{◌≤◌, ap, ◌∙◌, refl, sym, subst, length}
use Rattle.cb_compact.specs.Placing.{IsPlaced}
use Rattle.cb_compact.specs.declared.partial.Placed.TheVariants.{Missing}
use Rattle.cb_compact.specs.HonestMessages.{told_of}
use Rattle.cb_compact.specs.Places.{has_places}
use Rattle.cb_compact.specs.Rebuilding.{rebuilt_of}
use Rattle.cb_compact.proofs.Leading.{fits_placing, slots_most, some_placed}
use Rattle.cb_compact.proofs.Settling.{rebuilt_as, told_ok}
use Rattle.cb_compact.proofs.rebuilding.rebuild_from.Goals as goal

pub place-requires-clause-rise : goal.place-requires-clause-rise
place-requires-clause-rise c = fits_placing c.args.message.now.txs c.ids.result.now c.in_ok-prefilled.prefilled.items c.in_ok-check_places.ensures c.ids.ensures.same c.in_ok-prefilled.ensures.same

pub place-requires-clause-some : goal.place-requires-clause-some
place-requires-clause-some c = some_placed c.args.message.now.txs c.ids.result.now c.in_ok-prefilled.prefilled.items c.ids.ensures.kept.some c.ids.ensures.same c.in_ok-prefilled.ensures.same

pub lacking-requires-clause-few : goal.lacking-requires-clause-few
lacking-requires-clause-few c =
    let ids = c.ids.result.now in
    let given = c.in_ok-prefilled.prefilled.items in
    let pairs = c.args.list.items in
    let is : IsPlaced c.args.message.now.header ids given pairs (Missing c.in-Missing.places c.in-Missing.partial) = subst (IsPlaced c.args.message.now.header ids given pairs) c.in-Missing.is c.in_ok-found.ensures.placed in
    subst (λ it. length it ≤ 16666) (sym (ap (λ it. it.slots) is.3)) (slots_most c.args.message.now.txs ids given pairs c.ids.ensures.kept.few c.ids.ensures.same c.in_ok-prefilled.ensures.same)

pub returns-in-Whole-clause-rebuilt : goal.returns-in-Whole-clause-rebuilt
returns-in-Whole-clause-rebuilt c =
    let told = rebuilt_as c.args.message.now c.args.list.items c.args.list.items c.ids.result.now c.in_ok-prefilled.prefilled.items c.in_ok-found.found c.ids.ensures.same c.in_ok-prefilled.ensures.same refl c.in_ok-found.ensures.placed in
    (c.in_ok-check_places.ensures, c.whole.ensures ∙ sym (told ∙ ap told_of c.in-Whole.is))

pub returns-in-Missing-clause-rebuilt : goal.returns-in-Missing-clause-rebuilt
returns-in-Missing-clause-rebuilt c =
    let told = rebuilt_as c.args.message.now c.args.list.items c.args.list.items c.ids.result.now c.in_ok-prefilled.prefilled.items c.in_ok-found.found c.ids.ensures.same c.in_ok-prefilled.ensures.same refl c.in_ok-found.ensures.placed in
    let same = told ∙ ap told_of c.in-Missing.is in
    told_ok c.lacking.result (told_of (Missing c.in-Missing.places c.in-Missing.partial)) (rebuilt_of c.args.message.now c.args.list.items) (has_places c.args.message.now.txs) c.lacking.ensures.told c.in_ok-check_places.ensures same

pub returns-in-Repeat-clause-rebuilt : goal.returns-in-Repeat-clause-rebuilt
returns-in-Repeat-clause-rebuilt c =
    let told = rebuilt_as c.args.message.now c.args.list.items c.args.list.items c.ids.result.now c.in_ok-prefilled.prefilled.items c.in_ok-found.found c.ids.ensures.same c.in_ok-prefilled.ensures.same refl c.in_ok-found.ensures.placed in
    (c.in_ok-check_places.ensures, sym (told ∙ ap told_of c.in-Repeat.is))
