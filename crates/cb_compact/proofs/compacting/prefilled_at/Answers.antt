use Rattle.std.proofs.Common.{◌≡◌, ◌++◌, ◌∷◌, [], All, Some, get_or, length, slice_get, ap, ◌∙◌, sym, subst, rules}
use Rattle.std.proofs.lemmas.Grind.{take_at_read}
use Rattle.std.proofs.lemmas.List.{map-append}
use Rattle.std.proofs.lemmas.Option.{slice_get-get_or}
use Rattle.cb_compact.specs.Forms.{places_of}
use Rattle.std.proofs.lemmas.List.Elements.{All-push}
use Rattle.cb_compact.specs.declared.form.Prefilled.{Prefilled}
use Rattle.cb_compact.proofs.Indexes.{rise_below}
use Rattle.cb_compact.proofs.compacting.prefilled_at.Goals as goal

pub bounds-txs-place : goal.bounds-txs-place
bounds-txs-place c = rise_below 0 (length c.args.txs.now) c.args.places.now c.requires c.loop-place.place-index 0 c.loop-place-test.true

pub offset_bounds-txs-place : goal.offset_bounds-txs-place
offset_bounds-txs-place c =
    let below = rise_below 0 (length c.args.txs.now) c.args.places.now c.requires c.loop-place.place-index 0 c.loop-place-test.true in
    search (rules, below)

pub loop-place-preserved : goal.loop-place-preserved
loop-place-preserved c =
    let l = c.loop-place in
    let place = get_or c.args.places.now l.place-index 0 in
    let given : Prefilled = record { place = place; tx = c.in_ok-tx.tx } in
    let whole : slice_get c.args.txs.now place ≡ Some c.in_ok-tx.tx = slice_get-get_or c.args.txs.now place c.index-txs-place.result (rise_below 0 (length c.args.txs.now) c.args.places.now c.requires l.place-index 0 c.loop-place-test.true) ∙ ap Some (sym c.index-txs-place.is ∙ sym c.in_ok-tx.ensures) in
    let pushed : c.push.new.self.items ≡ l.prefilled.items ++ given ∷ [] = c.in_ok-push.ensures.items in
    let held = All-push (λ it. slice_get c.args.txs.now it.place ≡ Some it.tx) l.prefilled.items given l.invariant.1 whole in (
      ap places_of pushed ∙ map-append (λ it. it.place) l.prefilled.items (given ∷ []) ∙ ap (λ list. list ++ place ∷ []) l.invariant.0 ∙ sym (take_at_read c.args.places.now l.place-index 0 c.loop-place-test.true).1,
      subst (All (λ it. slice_get c.args.txs.now it.place ≡ Some it.tx)) (sym pushed) held,
    )
