use Rattle.std.proofs.Common.{◌≡◌, ◌∙◌, ap, rules}
use Rattle.std.specs.Prelude.{filter}
use Rattle.std.proofs.lemmas.Fn.{filter_same}
use Rattle.cb_chain.specs.Entries.{is_lacking}
use Rattle.cb_state.proofs.accepting.lacking.Goals as goal

pub returns : goal.returns
returns c =
    let kept : c.retain.new.self.items ≡ filter (is_lacking c.args.chain.now) c.into_vec-list.result.items =
    filter_same _ (is_lacking c.args.chain.now) _ (λ x b f' k. search rules) _ _ c.retain.ensures.filtered in
    c.new.ensures ∙ kept ∙ ap (filter (is_lacking c.args.chain.now)) c.into_vec-list.ensures
