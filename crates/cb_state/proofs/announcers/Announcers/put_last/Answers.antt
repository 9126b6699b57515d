use Rattle.std.proofs.Common.{◌≡◌, ◌∙◌, ◌∷◌, ◌++◌, [], List, ap, not, rules, arith}
use Rattle.std.proofs.lemmas.Fn.{filter_same}
use Rattle.cb_state.specs.declared.connection.Connection.{Connection}
use Rattle.cb_state.specs.Announcers.{last_three, same_connection, without}
use Rattle.cb_state.proofs.AskedFor.{all_stay, first_leaves}
use Rattle.cb_state.proofs.announcers.Announcers.put_last.Goals as goal

pub returns-then-len-gt-MOST_ANNOUNCERS : goal.returns-then-len-gt-MOST_ANNOUNCERS
returns-then-len-gt-MOST_ANNOUNCERS c =
    let kept : c.retain.new.self.items ≡ without c.self.inside.list.items c.args.connection =
    filter_same _ (λ other. not (same_connection other c.args.connection)) _ (λ x b f' k. search rules) _ _ c.retain.ensures.filtered in
    let put : c.push_reserved.new.self.items ≡ without c.args.self.now c.args.connection ++ c.args.connection ∷ [] =
    c.push_reserved.ensures.items ∙ ap (λ (l : List Connection). l ++ c.args.connection ∷ []) (kept ∙ ap (λ (l : List Connection). without l c.args.connection) c.self.view_is) in
    c.remove.ensures.items
    ∙ first_leaves c.push_reserved.new.self.items (omega (arith, c.push_reserved.ensures.len, c.retain.ensures.bound, c.self.invariant.0, c.self.inside.list.ok.0, c.push_reserved.new.self.ok.0, c.len.ensures, c.if-len-gt-MOST_ANNOUNCERS.true))
    ∙ ap last_three put

pub returns-else-len-gt-MOST_ANNOUNCERS : goal.returns-else-len-gt-MOST_ANNOUNCERS
returns-else-len-gt-MOST_ANNOUNCERS c =
    let kept : c.retain.new.self.items ≡ without c.self.inside.list.items c.args.connection =
    filter_same _ (λ other. not (same_connection other c.args.connection)) _ (λ x b f' k. search rules) _ _ c.retain.ensures.filtered in
    let put : c.push_reserved.new.self.items ≡ without c.args.self.now c.args.connection ++ c.args.connection ∷ [] =
    c.push_reserved.ensures.items ∙ ap (λ (l : List Connection). l ++ c.args.connection ∷ []) (kept ∙ ap (λ (l : List Connection). without l c.args.connection) c.self.view_is) in
    all_stay c.push_reserved.new.self.items (omega (arith, c.push_reserved.new.self.ok.0, c.len.ensures, c.if-len-gt-MOST_ANNOUNCERS.false))
    ∙ ap last_three put
