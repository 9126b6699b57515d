use Rattle.std.proofs.Common.{◌≡◌, ◌∙◌, ℤ, Option, Some, SFits, ap, rules, subst, sym}
use Rattle.std.specs.Int.{w64}
use Rattle.std.proofs.lemmas.Int.{to_z-of_z}
use Rattle.cb_pool.specs.Listing.{Listing, txs_of}
use Rattle.cb_pool.specs.Rules.{named_in}
use Rattle.cb_state.specs.Accepting.{IsPooledValue}
use Rattle.cb_state.proofs.outputs.after_pool.Goals as goal

pub returns-clause-exact : goal.returns-clause-exact
returns-clause-exact c =
    let point = c.args.point.now in
    let fits : SFits w64 c.in-Some.value = search rules in (
      subst (λ (value : Option ℤ). IsPooledValue c.args.state.now point value) (c.in-Some.is ∙ ap Some (sym (to_z-of_z w64 c.in-Some.value fits))) c.value.ensures,
      c.in_ok-tx.ensures.exact ∙ ap (λ (p : Listing). named_in (txs_of p.list) point.txid) c.pool.ensures.pool,
    )
