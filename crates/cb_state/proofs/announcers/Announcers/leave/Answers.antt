use Rattle.std.proofs.Common.{◌≡◌, ◌∙◌, ap, not, nat_eq, rules}
use Rattle.std.proofs.lemmas.Fn.{filter_same}
use Rattle.cb_state.specs.Announcers.{without_peer}
use Rattle.cb_state.proofs.announcers.Announcers.leave.Goals as goal

pub returns : goal.returns
returns c =
    let kept : c.retain.new.self.items ≡ without_peer c.self.inside.list.items c.args.peer =
    filter_same _ (λ other. not (nat_eq other.peer c.args.peer)) _ (λ x b f' k. search rules) _ _ c.retain.ensures.filtered in
    kept ∙ ap (λ l. without_peer l c.args.peer) c.self.view_is
