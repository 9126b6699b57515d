use Rattle.std.proofs.Common.{◌≡◌, ◌∙◌, ap}
use Rattle.cb_ledger.proofs.Lengths.{few_outputs}
use Rattle.cb_pool.proofs.Marking.{moves_from}
use Rattle.cb_pool.proofs.Spent.{not_coinbase}
use Rattle.cb_pool.proofs.thinning.leave.Goals as goal

pub miss-requires : goal.miss-requires
miss-requires c = record { few = rw (c.as_slice-2.ensures, c.deref-2.ensures, c.tx-2.ensures.same) (few_outputs c.args.tx.now c.tx-2.ensures.alone.rules) }

pub returns-clause-moves : goal.returns-clause-moves
returns-clause-moves c =
    let tx = c.args.tx.now in
    let ins : c.as_slice.result.now ≡ tx.inputs = c.as_slice.ensures ∙ ap (λ t. t.inputs) (c.deref.ensures ∙ c.tx.ensures.same) in
    let outs : c.as_slice-2.result.now ≡ tx.outputs = c.as_slice-2.ensures ∙ ap (λ t. t.outputs) (c.deref-2.ensures ∙ c.tx-2.ensures.same) in
    moves_from tx c.txid.result c.as_slice.result.now c.as_slice-2.result.now c.args.marks.now c.put_inputs.new.self c.miss.new.self (not_coinbase tx c.tx.ensures.alone) c.txid.ensures ins outs c.in_ok-put_inputs.ensures.marked c.in_ok-miss.ensures.tells c.in_ok-miss.ensures.marked
