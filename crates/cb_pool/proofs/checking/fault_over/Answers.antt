use Rattle.std.proofs.Common.{◌≡◌, ◌∙◌, ap, sym, arith, ◌<ℤ◌, ◌≤ℤ◌, SFits, rules, refl, Result, Err, Ok, inl, inr}
use Rattle.std.specs.Int.{w128}
use Rattle.std.proofs.lemmas.Int.{ints, to_z-of_z}
use Rattle.std.proofs.lemmas.Bool.{cases_Bool}
use Rattle.cb_base.specs.declared.fault.Fault.TheVariants.{Remade}
use Rattle.cb_block.specs.TxRules.{value_sum}
use Rattle.cb_base.specs.declared.fault.TxRule.TheVariants.{RepeatedInput}
use Rattle.cb_ledger.specs.Undo.{changed, changes_of}
use Rattle.cb_ledger.proofs.Lengths.{few_outputs}
use Rattle.cb_pool.specs.Leaving.{after_tx, without_inputs}
use Rattle.cb_ledger.specs.Spend.{make_outputs, spend_tx}
use Rattle.cb_ledger.specs.Unspent.{Unspent}
use Rattle.cb_base.specs.declared.fault.Fault.{Fault}
use Rattle.cb_pool.proofs.Spent.{lacks_input, left_is, makes, overspends}
use Rattle.cb_pool.proofs.checking.fault_over.Goals as goal

pub worth-requires : goal.worth-requires
worth-requires c = λ twice. c.requires.alone.rules RepeatedInput (rw (sym c.as_slice-inputs.ensures) twice)

pub returns-in_default-clause-exact : goal.returns-in_default-clause-exact
returns-in_default-clause-exact c =
    let u = changed c.args.ledger.now.unspent (changes_of c.args.coins.now.entries) in
    lacks_input u c.args.tx.now c.as_slice-inputs.result.now c.requires.alone c.as_slice-inputs.ensures c.in_default.ensures

pub returns-then-sum-sum_of-clause-exact : goal.returns-then-sum-sum_of-clause-exact
returns-then-sum-sum_of-clause-exact c =
    let u = changed c.args.ledger.now.unspent (changes_of c.args.coins.now.entries) in
    let fits : SFits w128 c.in-Some.sum = search rules in
    let fits_sum : SFits w128 c.sum_of.result = search rules in
    let less : c.in-Some.sum <ℤ c.sum_of.result = grind (arith, ints, to_z-of_z w128 c.in-Some.sum fits, to_z-of_z w128 c.sum_of.result fits_sum) in
    overspends u c.args.tx.now c.as_slice-inputs.result.now c.in-Some.sum c.sum_of.result _ c.requires.alone c.as_slice-inputs.ensures c.in-Some.ensures (c.sum_of.ensures ∙ ap value_sum c.as_slice-outputs.ensures) less

pub is_remade-requires : goal.is_remade-requires
is_remade-requires c = rw c.as_slice-outputs.ensures (few_outputs c.args.tx.now c.requires.alone.rules)

pub returns-clause-exact : goal.returns-clause-exact
returns-clause-exact c =
    let u = changed c.args.ledger.now.unspent (changes_of c.args.coins.now.entries) in
    let fits : SFits w128 c.in-Some.sum = search rules in
    let fits_sum : SFits w128 c.sum_of.result = search rules in
    let enough : c.sum_of.result ≤ℤ c.in-Some.sum = grind (arith, ints, to_z-of_z w128 c.in-Some.sum fits, to_z-of_z w128 c.sum_of.result fits_sum) in
    let whole : (r : Result Unspent Fault) → make_outputs (without_inputs u c.as_slice-inputs.result.now) c.args.txid 0 c.as_slice-outputs.result.now ≡ r → spend_tx u c.args.tx.now ≡ r = λ r h. makes u c.args.tx.now c.args.txid c.as_slice-inputs.result.now c.as_slice-outputs.result.now c.in-Some.sum c.sum_of.result r c.requires.alone c.requires.name c.as_slice-inputs.ensures c.as_slice-outputs.ensures c.in-Some.ensures (c.sum_of.ensures ∙ ap value_sum c.as_slice-outputs.ensures) enough h in
    elim (cases_Bool c.is_remade.result) [
      | inl again ↦ rw (c.then_some.ensures, again) (whole (Err Remade) (c.is_remade.ensures ∙ rw again refl))
      | inr new ↦ rw (c.then_some.ensures, new) (whole (Ok (after_tx u c.args.tx.now)) (c.is_remade.ensures ∙ rw new (ap Ok (left_is u c.args.tx.now c.args.txid c.as_slice-inputs.result.now c.as_slice-outputs.result.now c.requires.name c.as_slice-inputs.ensures c.as_slice-outputs.ensures))))
    ]
