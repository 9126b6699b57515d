use Rattle.std.proofs.Common.{◌≡◌, ◌∙◌, ap, length, rules}
use Rattle.cb_block.specs.declared.tx.Tx.{Tx}
use Rattle.cb_block.specs.TxText.{tx_text}
use Rattle.cb_state.specs.Mining.{coinbase_of}
use Rattle.cb_state.proofs.Fits.{coinbase_long}
use Rattle.cb_state.proofs.mining.coinbase_at.Goals as goal

pub returns-clause-size : goal.returns-clause-size
returns-clause-size c =
    let same : c.in_ok-new.field-0 ≡ coinbase_of c.args.height c.args.mark = search rules in
    ap (λ (tx : Tx). length (tx_text tx)) same ∙ coinbase_long c.args.height c.args.mark
