use Rattle.std.proofs.Common.{◌∙◌, ap, sym}
use Rattle.std.specs.FinMap.{get}
use Rattle.cb_ledger.proofs.Changes.{over, value_is}
use Rattle.cb_pool.proofs.coins.value_of.Goals as goal

pub returns-in-Some : goal.returns-in-Some
returns-in-Some c =
    let u = c.args.ledger.now.unspent in
    sym (value_is u c.args.coins.now.entries c.args.point.now ∙ ap (λ o. over o (get u c.args.point.now)) (sym (c.copied.ensures ∙ c.get.ensures.value) ∙ c.in-Some.is))

pub returns-in-None : goal.returns-in-None
returns-in-None c =
    let u = c.args.ledger.now.unspent in
    c.value.ensures ∙ sym (value_is u c.args.coins.now.entries c.args.point.now ∙ ap (λ o. over o (get u c.args.point.now)) (sym (c.copied.ensures ∙ c.get.ensures.value) ∙ c.in-None.is))
