use Rattle.std.proofs.Common.{◌≡◌, ◌∙◌, sym, arith, to_z, of_z, ◌+ℤ◌, SFits, rules}
use Rattle.std.specs.Int.{w64, w128}
use Rattle.std.proofs.lemmas.Int.{ints, to_z-of_z}
use Rattle.cb_ledger.specs.Spend.{spend_inputs}
use Rattle.cb_ledger.specs.Undo.{changed, changes_of}
use Rattle.cb_pool.proofs.Left.{worth_end, worth_more, worth_refused, worth_start}
use Rattle.cb_pool.proofs.checking.worth.Goals as goal

pub loop-input-init : goal.loop-input-init
loop-input-init c = record {
  spent = worth_start (changed c.args.ledger.now.unspent (changes_of c.args.coins.now.entries)) c.args.inputs.now;
  least = omega (arith, ints);
  most = omega (arith, ints);
}

pub returns-in-None : goal.returns-in-None
returns-in-None c =
    let u = changed c.args.ledger.now.unspent (changes_of c.args.coins.now.entries) in
    worth_refused u c.args.inputs.now c.loop-input.input-index c.input-item.result (to_z w128 c.loop-input.sum-bits) (spend_inputs u c.args.inputs.now) c.requires c.loop-input-test.true c.input-item.is (sym c.value_of.ensures ∙ c.in-None.is) c.loop-input.invariant.spent

pub loop-input-preserved : goal.loop-input-preserved
loop-input-preserved c =
    let u = changed c.args.ledger.now.unspent (changes_of c.args.coins.now.entries) in
    let sum = to_z w128 c.loop-input.sum-bits in
    let value = c.in-Some.value in
    let fits : SFits w64 value = search rules in
    let added : to_z w128 (of_z w128 (sum +ℤ to_z w128 (of_z w128 c.from-sum.result))) ≡ sum +ℤ value = grind (arith, ints, to_z-of_z, to_z-of_z w64 value fits) in
    rw added (record {
      spent = worth_more u c.args.inputs.now c.loop-input.input-index c.input-item.result sum value (spend_inputs u c.args.inputs.now) c.requires c.loop-input-test.true c.input-item.is (sym c.value_of.ensures ∙ c.in-Some.is) c.loop-input.invariant.spent;
      least = omega (arith, ints);
      most = omega (arith, ints);
    })

pub returns : goal.returns
returns c =
    let u = changed c.args.ledger.now.unspent (changes_of c.args.coins.now.entries) in
    worth_end u c.args.inputs.now c.loop-input.input-index (to_z w128 c.loop-input.sum-bits) (spend_inputs u c.args.inputs.now) c.loop-input-test.false c.loop-input.invariant.spent
