use Rattle.std.proofs.Common.{◌≡◌, ◌∙◌, None, Some, SFits, ap, refl, rules, subst, sym, to_z, of_z}
use Rattle.std.specs.Int.{w64}
use Rattle.std.proofs.lemmas.Int.{to_z-of_z}
use Rattle.cb_chain.specs.Entries.{Tree}
use Rattle.cb_state.specs.State.{IsUnspent}
use Rattle.cb_state.specs.Outputs.{IsOutputLook}
use Rattle.cb_state.proofs.outputs.in_ledger.Goals as goal

pub returns-in_err-value : goal.returns-in_err-value
returns-in_err-value c =
    let u = c.ledger.result.now.unspent in
    let unspent : IsUnspent c.args.state.now.tree u = subst (λ (t : Tree). IsUnspent t u) c.chain.ensures c.ledger.ensures in
    rw (c.from_residual.ensures) (u, unspent, sym c.in_err-value.was ∙ c.value.ensures)

pub returns : goal.returns
returns c =
    let u = c.ledger.result.now.unspent in
    let unspent : IsUnspent c.args.state.now.tree u = subst (λ (t : Tree). IsUnspent t u) c.chain.ensures c.ledger.ensures in
    let fits : SFits w64 c.in_ok-value.value = search rules in
    ((u, unspent, ap Some (to_z-of_z w64 c.in_ok-value.value fits) ∙ sym c.in_ok-value.was ∙ c.value.ensures), refl)
