use Rattle.std.proofs.Common.{◌≡◌, ◌∷◌, ◌∙◌, List, length, map, ap, subst, arith}
use Rattle.std.specs.Vec.Iter.{into_iter_items}
use Rattle.cb_block.specs.declared.tx.Tx.{Tx}
use Rattle.std.specs.Prelude.{not}
use Rattle.cb_pool.specs.declared.members.Pooled.{Pooled}
use Rattle.cb_pool.specs.Folding.{Took, new_offer}
use Rattle.cb_pool.specs.Leaving.{touched_by_all}
use Rattle.cb_pool.specs.Listing.{txs_of}
use Rattle.cb_pool.specs.Rules.{Applies}
use Rattle.cb_pool.proofs.Numbers.{numbered_more}
use Rattle.cb_pool.proofs.Taking.{applies_from, fits_from, more_applies, refused_from, took_more, took_passed}
use Rattle.cb_pool.proofs.refolding.take_new.Goals as goal

pub push-requires-clause-fits : goal.push-requires-clause-fits
push-requires-clause-fits c =
    let u = c.args.ledger.now.unspent in
    let now = c.loop-candidate.members.list in
    let tx = c.in-Some.candidate in
    fits_from u now tx (applies_from u (txs_of now) tx c.fault_of.result c.fault_of.ensures (c.is_none.ensures ∙ ap not c.if-is_none.true))

pub loop-candidate-preserved-then-is_none : goal.loop-candidate-preserved-then-is_none
loop-candidate-preserved-then-is_none c =
    let u = c.args.ledger.now.unspent in
    let now = c.loop-candidate.members.list in
    let old = c.args.members.now.list in
    let tx : Tx = c.in-Some.candidate in
    let rest = into_iter_items c.next.new.self in
    let next = c.loop-candidate.next in
    let pooled : Pooled = record { tx = tx; number = next } in
    let all = map new_offer c.args.first.items in
    let rest_is : into_iter_items c.loop-candidate.candidate-iterator ≡ tx ∷ rest = c.in-Some.ensures.steps.0 in
    let applies : Applies u (txs_of now) tx = applies_from u (txs_of now) tx c.fault_of.result c.fault_of.ensures (c.is_none.ensures ∙ ap not c.if-is_none.true) in
    rw (c.push.ensures.list, c.saturating_add-next.ensures) (record {
      applies = more_applies u now pooled applies;
      took = took_more u all (map new_offer rest) (new_offer tx) c.args.next old now next (subst (λ (l : List Tx). Took u all (map new_offer l) c.args.next old now next) rest_is c.loop-candidate.invariant.took) applies;
      numbers = λ others h. numbered_more now others tx next (c.loop-candidate.invariant.numbers others h);
      places = omega (arith, ap length rest_is, c.loop-candidate.invariant.places, c.push.ensures.places);
      coins = omega (arith, ap touched_by_all rest_is, c.loop-candidate.invariant.coins, c.push.ensures.coins);
    })

pub loop-candidate-preserved : goal.loop-candidate-preserved
loop-candidate-preserved c =
    let u = c.args.ledger.now.unspent in
    let now = c.loop-candidate.members.list in
    let old = c.args.members.now.list in
    let tx : Tx = c.in-Some.candidate in
    let rest = into_iter_items c.next.new.self in
    let next = c.loop-candidate.next in
    let all = map new_offer c.args.first.items in
    let rest_is : into_iter_items c.loop-candidate.candidate-iterator ≡ tx ∷ rest = c.in-Some.ensures.steps.0 in
    let refused : ¬ Applies u (txs_of now) tx = refused_from u (txs_of now) tx c.fault_of.result c.fault_of.ensures (c.is_none.ensures ∙ ap not c.if-is_none.false) in
    record {
      applies = c.loop-candidate.invariant.applies;
      took = took_passed u all (map new_offer rest) (new_offer tx) c.args.next old now next (subst (λ (l : List Tx). Took u all (map new_offer l) c.args.next old now next) rest_is c.loop-candidate.invariant.took) refused;
      numbers = c.loop-candidate.invariant.numbers;
      places = omega (arith, ap length rest_is, c.loop-candidate.invariant.places);
      coins = omega (arith, ap touched_by_all rest_is, c.loop-candidate.invariant.coins);
    }
