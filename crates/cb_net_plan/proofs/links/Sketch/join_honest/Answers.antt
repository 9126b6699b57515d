use Rattle.std.proofs.Common.{◌≡◌, ◌∙◌, ◌++◌, ◌∷◌, [], ap, ℕ, List}
use Rattle.cb_net_plan.specs.Links.{Outline, drawn, drawn_honest, linked_to}
use Rattle.cb_net_plan.specs.Sketching.{outline_of}
use Rattle.cb_net_plan.proofs.Outlines.{joined_honest, linked_to_honest}
use Rattle.cb_net_plan.proofs.links.Sketch.join_honest.Goals as goal

pub returns-clause-outline : goal.returns-clause-outline
returns-clause-outline c =
    let outline = outline_of c.args.self.now in
    let node = c.args.node in
    let linked : outline_of c.link_to.new.self ≡ linked_to node (drawn_honest outline) (drawn outline) =
    c.in_ok-link_to.ensures.outline ∙ (λ i. linked_to node (c.draw_honest-lower.ensures.node i) (outline_of (c.draw_honest-lower.ensures.after i))) in
    let pushed : c.push.new.self.items ≡ outline.honest ++ node ∷ [] =
    c.in_ok-push.ensures.items
    ∙ ap (λ (honest : List ℕ). honest ++ node ∷ []) (ap (λ (o : Outline). o.honest) linked ∙ linked_to_honest node (drawn_honest outline) (drawn outline)) in
    (λ i. record (linked i) { honest = pushed i })
    ∙ joined_honest node outline
