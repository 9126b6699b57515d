use Rattle.std.proofs.Common.{◌≡◌, ◌∙◌, None, Option, ap, subst, sym}
use Rattle.cb_chain.specs.Entries.{Tree}
use Rattle.cb_pool.specs.Listing.{Listing, txs_of}
use Rattle.cb_pool.specs.Rules.{named_in}
use Rattle.cb_block.specs.declared.tx.Tx.{Tx}
use Rattle.cb_state.specs.State.{IsUnspent}
use Rattle.cb_state.specs.Outputs.{ValueBelow}
use Rattle.cb_state.proofs.outputs.value_below.Goals as goal

pub returns-in-None : goal.returns-in-None
returns-in-None c =
    let u = c.ledger.result.now.unspent in
    let point = c.args.point.now in
    let unspent : IsUnspent c.args.state.now.tree u = subst (λ (t : Tree). IsUnspent t u) c.chain.ensures c.ledger.ensures in
    let none : named_in (txs_of c.args.state.now.pool.list) point.txid ≡ None = ap (λ (p : Listing). named_in (txs_of p.list) point.txid) (sym c.pool.ensures.pool) ∙ c.in-None.ensures in
    subst (λ (tx : Option Tx). ValueBelow c.args.state.now point tx c.value.result) (sym none) (u, unspent, c.value.ensures)
