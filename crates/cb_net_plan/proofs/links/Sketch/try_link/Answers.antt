use Rattle.std.proofs.Common.{◌≤◌, ◌<◌, ◌∙◌, ap, length, subst, ℕ}
use Rattle.cb_net_plan.specs.Draws.{after, below}
use Rattle.cb_net_plan.specs.Links.{linked}
use Rattle.cb_net_plan.specs.Sketching.{outline_of}
use Rattle.cb_net_plan.proofs.Outlines.{on_ok, tried_enough, tried_more}
use Rattle.cb_net_plan.proofs.links.Sketch.try_link.Goals as goal

pub returns-then-len-wanted-clause-outline : goal.returns-then-len-wanted-clause-outline
returns-then-len-wanted-clause-outline c =
    tried_enough c.args.nodes c.args.wanted (outline_of c.args.self.now)
    (subst (λ (len : ℕ). c.args.wanted ≤ len) (c.len.ensures ∙ c.args.self.now.links.ok.0) c.if-len-wanted.true)

pub returns-clause-outline : goal.returns-clause-outline
returns-clause-outline c =
    let outline = outline_of c.args.self.now in
    let few : length outline.links < c.args.wanted = subst (λ (len : ℕ). len < c.args.wanted) (c.len.ensures ∙ c.args.self.now.links.ok.0) c.if-len-wanted.false in
    on_ok c.link.result _ _ (λ linked_is. linked_is
    ∙ (λ i. linked (c.below_u32-first.ensures.number i) ((c.below_u32-second.ensures.number ∙ ap (below c.args.nodes) c.below_u32-first.ensures.after) i) (record outline { draws = (c.below_u32-second.ensures.after ∙ ap after c.below_u32-first.ensures.after) i }))
    ∙ tried_more c.args.nodes c.args.wanted outline few) c.link.ensures.outline
