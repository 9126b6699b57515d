use Rattle.std.proofs.Common.{◌≡◌, ◌∷◌, ◌++◌, ◌∙◌, List, length, map, ap, subst, arith}
use Rattle.std.specs.Prelude.{not}
use Rattle.cb_pool.specs.declared.members.Pooled.{Pooled}
use Rattle.cb_pool.specs.Folding.{Took, old_offer}
use Rattle.cb_pool.specs.Leaving.{touched_by_all}
use Rattle.cb_pool.specs.Listing.{AreNumbered, txs_of}
use Rattle.cb_pool.specs.Rules.{Applies}
use Rattle.cb_pool.proofs.Numbers.{numbered_less, numbered_moved}
use Rattle.cb_pool.proofs.Taking.{applies_from, fits_from, more_applies, refused_from, took_more, took_passed}
use Rattle.cb_pool.proofs.refolding.take_old.Goals as goal

pub push-requires-clause-fits : goal.push-requires-clause-fits
push-requires-clause-fits c =
    let u = c.args.ledger.now.unspent in
    let now = c.loop-pooled.members.list in
    let tx = c.in-Some.pooled.tx in
    fits_from u now tx (applies_from u (txs_of now) tx c.fault_of.result c.fault_of.ensures (c.is_none.ensures ∙ ap not c.if-is_none.true))

pub loop-pooled-preserved-then-is_none : goal.loop-pooled-preserved-then-is_none
loop-pooled-preserved-then-is_none c =
    let u = c.args.ledger.now.unspent in
    let now = c.loop-pooled.members.list in
    let old = c.args.members.now.list in
    let pooled : Pooled = c.in-Some.pooled in
    let rest = c.next.new.self in
    let next = c.args.next in
    let all = map old_offer c.args.old.list in
    let rest_is : c.loop-pooled.pooled-iterator ≡ pooled ∷ rest = c.in-Some.ensures.steps in
    let applies : Applies u (txs_of now) pooled.tx = applies_from u (txs_of now) pooled.tx c.fault_of.result c.fault_of.ensures (c.is_none.ensures ∙ ap not c.if-is_none.true) in
    rw c.push.ensures.list (record {
      applies = more_applies u now pooled applies;
      took = took_more u all (map old_offer rest) (old_offer pooled) next old now next (subst (λ (l : List Pooled). Took u all (map old_offer l) next old now next) rest_is c.loop-pooled.invariant.took) applies;
      numbers = numbered_moved now rest pooled next (subst (λ (l : List Pooled). AreNumbered (now ++ l) next) rest_is c.loop-pooled.invariant.numbers);
      places = omega (arith, ap length rest_is, c.loop-pooled.invariant.places, c.push.ensures.places);
      coins = omega (arith, ap (λ (l : List Pooled). touched_by_all (txs_of l)) rest_is, c.loop-pooled.invariant.coins, c.push.ensures.coins);
    })

pub loop-pooled-preserved : goal.loop-pooled-preserved
loop-pooled-preserved c =
    let u = c.args.ledger.now.unspent in
    let now = c.loop-pooled.members.list in
    let old = c.args.members.now.list in
    let pooled : Pooled = c.in-Some.pooled in
    let rest = c.next.new.self in
    let next = c.args.next in
    let all = map old_offer c.args.old.list in
    let rest_is : c.loop-pooled.pooled-iterator ≡ pooled ∷ rest = c.in-Some.ensures.steps in
    let refused : ¬ Applies u (txs_of now) pooled.tx = refused_from u (txs_of now) pooled.tx c.fault_of.result c.fault_of.ensures (c.is_none.ensures ∙ ap not c.if-is_none.false) in
    record {
      applies = c.loop-pooled.invariant.applies;
      took = took_passed u all (map old_offer rest) (old_offer pooled) next old now next (subst (λ (l : List Pooled). Took u all (map old_offer l) next old now next) rest_is c.loop-pooled.invariant.took) refused;
      numbers = numbered_less now rest pooled next (subst (λ (l : List Pooled). AreNumbered (now ++ l) next) rest_is c.loop-pooled.invariant.numbers);
      places = omega (arith, ap length rest_is, c.loop-pooled.invariant.places);
      coins = omega (arith, ap (λ (l : List Pooled). touched_by_all (txs_of l)) rest_is, c.loop-pooled.invariant.coins);
    }
