use Rattle.std.proofs.Common.{◌≡◌, ◌∙◌, ap, rules, tests}
use Rattle.std.specs.List.{list_any}
use Rattle.std.proofs.lemmas.Iterator.{YieldsList-from_slice}
use Rattle.std.proofs.lemmas.Iterator.Search.{any_from_yields_List}
use Rattle.cb_state.specs.Announcers.{is_among, same_connection}
use Rattle.cb_state.proofs.AskedFor.{among}
use Rattle.cb_state.proofs.announcers.Announcers.contains.Goals as goal

pub returns : goal.returns
returns c =
    let found : c.any.result ≡ list_any (λ other. same_connection other c.args.connection) c.deref.result.now =
    any_from_yields_List (λ other. same_connection other c.args.connection) _ _ c.any.result c.any.ensures.ran (YieldsList-from_slice c.deref.result.now cc) (λ x b q k. search (rules, tests)) in
    found ∙ among c.deref.result.now c.args.connection ∙ ap (λ l. is_among l c.args.connection) (c.deref.ensures.value ∙ c.self.view_is)
