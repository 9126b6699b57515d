use Rattle.std.proofs.Common.{◌≡◌, ◌<◌, ◌≤◌, ◌^◌, List, inr, length, subst, sym}
use Rattle.cb_block.specs.declared.tx.TxOut.{TxOut}
use Rattle.cb_pool.proofs.apart.keeps.Goals as goal

pub returns-then-keep_inputs-clause-seen : goal.returns-then-keep_inputs-clause-seen
returns-then-keep_inputs-clause-seen c = λ few no.
    let outputs : c.as_slice-then-keep_inputs.result.now ≡ c.args.tx.now.outputs = c.as_slice-then-keep_inputs.ensures in
    let seen = c.keep_outputs.ensures.seen (subst (λ (l : List TxOut). length l ≤ 2 ^ 32) (sym outputs) few) no in
    (record { txid = c.args.txid; index = seen.0 }, inr (c.requires.name, subst (λ (l : List TxOut). seen.0 < length l) outputs seen.1), seen.2)
