use Rattle.std.proofs.Common.{◌∙◌, ap}
use Rattle.std.specs.Prelude.{nat_eq}
use Rattle.std.specs.HashSet.{contains}
use Rattle.std.proofs.lemmas.Result.{IfOk-weaker}
use Rattle.cb_compact.specs.Matching.{pairs_of}
use Rattle.cb_compact.proofs.Matching.{found_in}
use Rattle.cb_compact.proofs.pairs.Pairs.list.Goals as goal

pub returns-clause-exact : goal.returns-clause-exact
returns-clause-exact c =
    let key = c.self.inside.key in
    let ids = c.as_slice.ensures.same ∙ c.deref.ensures in
    let txs = c.as_slice-2.ensures.value ∙ ap (λ v. v.items) c.deref-2.ensures in
    IfOk-weaker c.paired.result _ _ (λ list is.
    found_in key c.as_slice.result.now c.as_slice-2.result.now (contains nat_eq c.in_ok-wanted.wanted) list.items c.in_ok-wanted.ensures.ids is
    ∙ ap (λ ids. pairs_of key ids c.as_slice-2.result.now) ids ∙ ap (pairs_of key c.self.inside.ids) txs ∙ c.self.view_is)
    c.paired.ensures.pairs
