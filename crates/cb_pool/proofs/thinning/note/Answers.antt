use Rattle.std.proofs.Common.{◌≡◌, ◌∙◌, ap, arith, length, None, Option, refl}
use Rattle.cb_ledger.specs.Undo.{changed, changes_of}
use Rattle.cb_ledger.proofs.Changes.{changed_same}
use Rattle.cb_ledger.proofs.Lengths.{few_outputs}
use Rattle.cb_block.specs.declared.tx.Tx.{Tx}
use Rattle.cb_pool.specs.declared.marks.OutputMark.{OutputMark}
use Rattle.cb_pool.specs.Leaving.{after_tx, with_outputs}
use Rattle.cb_pool.proofs.Marking.{at_touched}
use Rattle.cb_pool.proofs.Spent.{left_is}
use Rattle.cb_pool.proofs.Thinned.{covers_more, covers_passed}
use Rattle.cb_pool.proofs.thinning.note.Goals as goal

pub returns-then-pass-clause-covers : goal.returns-then-pass-clause-covers
returns-then-pass-clause-covers c = λ kept so_far.
    let tx = c.args.tx.now in
    let ins : c.as_slice-inputs.result.now ≡ tx.inputs = c.as_slice-inputs.ensures ∙ ap (λ t. t.inputs) (c.deref.ensures ∙ c.tx.ensures.same) in
    covers_passed c.args.marks.now c.args.coins.now.entries kept tx
    (at_touched (λ (m : Option OutputMark). m ≡ None) c.args.marks.now tx c.txid-txid.result c.as_slice-inputs.result.now refl ins c.txid-txid.ensures (c.pass.ensures.inputs c.if-pass.true) (c.pass.ensures.outputs c.if-pass.true)) so_far

pub make_outputs-requires-clause-few : goal.make_outputs-requires-clause-few
make_outputs-requires-clause-few c =
    rw (c.as_slice.ensures, c.deref-2.ensures, c.tx-2.ensures.same) (few_outputs c.args.tx.now c.tx-2.ensures.alone.rules)

pub returns-clause-covers : goal.returns-clause-covers
returns-clause-covers c = λ kept so_far.
    let tx = c.args.tx.now in
    let txid = c.txid-txid.result in
    let inputs = c.as_slice-inputs.result.now in
    let outputs = c.as_slice.result.now in
    let coins = c.args.coins.now.entries in
    let ins : inputs ≡ tx.inputs = c.as_slice-inputs.ensures ∙ ap (λ t. t.inputs) (c.deref.ensures ∙ c.tx.ensures.same) in
    let outs : outputs ≡ tx.outputs = c.as_slice.ensures ∙ ap (λ t. t.outputs) (c.deref-2.ensures ∙ c.tx-2.ensures.same) in
    covers_more c.args.marks.now coins c.make_outputs.new.coins.entries kept tx
    (λ u. c.make_outputs.ensures.after u
    ∙ ap (λ m. with_outputs m txid 0 outputs) (c.spend_outputs.ensures.after u)
    ∙ left_is (changed u (changes_of c.reserve.new.self.entries)) tx txid inputs outputs c.txid-txid.ensures ins outs
    ∙ ap (λ m. after_tx m tx) (changed_same coins c.reserve.new.self.entries c.reserve.ensures.entries.2 u)) so_far
