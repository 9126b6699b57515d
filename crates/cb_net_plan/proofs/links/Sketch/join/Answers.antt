use Rattle.std.proofs.Common.{◌∙◌}
use Rattle.cb_net_plan.specs.Links.{linked}
use Rattle.cb_net_plan.specs.Sketching.{outline_of}
use Rattle.cb_net_plan.proofs.Outlines.{joined_other, on_ok}
use Rattle.cb_net_plan.proofs.links.Sketch.join.Goals as goal

pub returns-in-Stalls-clause-outline : goal.returns-in-Stalls-clause-outline
returns-in-Stalls-clause-outline c =
    let outline = outline_of c.args.self.now in
    on_ok c.link.result _ _ (λ linked_is. linked_is
    ∙ (λ i. linked c.args.node (c.below_u32-lower.ensures.number i) (record outline { draws = c.below_u32-lower.ensures.after i }))
    ∙ joined_other c.args.node c.args.role outline c.in-Stalls.is) c.link.ensures.outline
