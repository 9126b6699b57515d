use Rattle.std.proofs.Common.{◌≡◌, ◌∷◌, ◌∙◌, ◌⊎◌, take, ap, subst}
use Rattle.std.specs.Prelude.{IfErr, IfOk}
use Rattle.std.proofs.lemmas.Result.{err_from_is_err_and}
use Rattle.cb_base.specs.declared.fault.Fault.TheVariants.{Memory}
use Rattle.cb_block.specs.Blocks.{texts}
use Rattle.cb_block.specs.Soundness.{names}
use Rattle.cb_block.specs.declared.tx.Tx.{Tx}
use Rattle.cb_pool.specs.Listing.{txs_of}
use Rattle.cb_state.specs.Mining.{CannotMine, IsMined}
use Rattle.cb_state.specs.State.{RelayState}
use Rattle.cb_state.proofs.Mined.{are_mined, header_over, is_mined, is_mutated, no_nonce, over_worked}
use Rattle.cb_state.proofs.state.Relay.mine.Goals as goal

pub returns-in_err-header-clause-err : goal.returns-in_err-header-clause-err
returns-in_err-header-clause-err c =
    let state : RelayState = record { tree = c.self.inside.chain; pool = c.self.inside.pool; announcers = c.self.inside.announcers } in
    let coinbase = c.in_ok-coinbase.coinbase in
    let txs = coinbase ∷ take c.fitting-count.result (txs_of state.pool.list) in
    let named : c.in_ok-txids.txids.items ≡ names (texts txs) = c.in_ok-txids.ensures.names ∙ ap (λ (tx : Tx). names (texts (tx ∷ take c.fitting-count.result (txs_of state.pool.list)))) c.deref-2.ensures in
    let are = are_mined state c.args.mark c.height_on-height.result c.fitting-count.result coinbase c.deref.result.now c.in_ok-coinbase.ensures.same c.height_on-height.ensures.height c.deref.ensures c.fitting-count.ensures.fitting in
    let over = header_over state.tree txs c.tip.result c.in_ok-root.field-0 c.height_on-height.result c.as_slice.result.now c.tip.ensures c.height_on-height.ensures.height (c.as_slice.ensures.value ∙ named) c.in_ok-root.ensures.root in
    let p = err_from_is_err_and c.from_residual-in_err-header.result c.from_residual-in_err-header.ensures.1 in
    subst (λ (s : RelayState). IfErr c.from_residual-in_err-header.result (λ fault. (fault ≡ Memory) ⊎ CannotMine s c.args.mark fault)) c.self.view_is
    (no_nonce state c.args.mark txs _ c.from_residual-in_err-header.result p.0 p.1 (p.2 ∙ c.in_err-header.ensures.err.0) are over c.in_err-header.ensures.err.1)

pub returns-clause-mined : goal.returns-clause-mined
returns-clause-mined c =
    let state : RelayState = record { tree = c.self.inside.chain; pool = c.self.inside.pool; announcers = c.self.inside.announcers } in
    let coinbase = c.in_ok-coinbase.coinbase in
    let txs = coinbase ∷ take c.fitting-count.result (txs_of state.pool.list) in
    let named : c.in_ok-txids.txids.items ≡ names (texts txs) = c.in_ok-txids.ensures.names ∙ ap (λ (tx : Tx). names (texts (tx ∷ take c.fitting-count.result (txs_of state.pool.list)))) c.deref-2.ensures in
    let are = are_mined state c.args.mark c.height_on-height.result c.fitting-count.result coinbase c.deref.result.now c.in_ok-coinbase.ensures.same c.height_on-height.ensures.height c.deref.ensures c.fitting-count.ensures.fitting in
    let over = header_over state.tree txs c.tip.result c.in_ok-root.field-0 c.height_on-height.result c.as_slice.result.now c.tip.ensures c.height_on-height.ensures.height (c.as_slice.ensures.value ∙ named) c.in_ok-root.ensures.root in
    let worked = over_worked state.tree txs _ c.in_ok-header.header c.in_ok-header.header.nonce c.in_ok-header.ensures.ok.0 over in
    let is = is_mined state c.args.mark txs c.in_ok-txs.txs.items c.in_ok-header.header c.sealed.result c.in_ok-txs.ensures.txs are worked c.in_ok-header.ensures.ok.1 c.sealed.ensures.ok in
    subst (λ (s : RelayState). IfOk c.sealed.result (λ block. IsMined s c.args.mark block)) c.self.view_is is

pub returns-clause-err : goal.returns-clause-err
returns-clause-err c =
    let state : RelayState = record { tree = c.self.inside.chain; pool = c.self.inside.pool; announcers = c.self.inside.announcers } in
    let coinbase = c.in_ok-coinbase.coinbase in
    let are = are_mined state c.args.mark c.height_on-height.result c.fitting-count.result coinbase c.deref.result.now c.in_ok-coinbase.ensures.same c.height_on-height.ensures.height c.deref.ensures c.fitting-count.ensures.fitting in
    let is = is_mutated state c.args.mark (coinbase ∷ take c.fitting-count.result (txs_of state.pool.list)) c.in_ok-txs.txs.items c.sealed.result c.in_ok-txs.ensures.txs are c.sealed.ensures.err in
    subst (λ (s : RelayState). IfErr c.sealed.result (λ fault. (fault ≡ Memory) ⊎ CannotMine s c.args.mark fault)) c.self.view_is is
