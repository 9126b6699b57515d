use Rattle.std.proofs.Common.{◌≡◌, ◌∙◌, ap, ◌++◌, ◌∷◌, [], subst, sym, ℕ}
use Rattle.cb_net_plan.specs.declared.draws.Draws.{Draws}
use Rattle.cb_net_plan.specs.Sketching.{outline_of}
use Rattle.cb_net_plan.proofs.Outlines.{Tells, linked_already, linked_itself, linked_newly, new_link, tells_more, told_new, told_old}
use Rattle.cb_net_plan.proofs.links.Sketch.link.Goals as goal

pub returns-then-first-second-clause-outline : goal.returns-then-first-second-clause-outline
returns-then-first-second-clause-outline c =
    let outline = outline_of c.args.self.now in
    ap (λ (draws : Draws). record outline { draws = draws }) c.between-latency.ensures.after
    ∙ linked_itself c.args.first c.args.second outline c.if-first-second.true

pub returns-then-not-is_new-clause-outline : goal.returns-then-not-is_new-clause-outline
returns-then-not-is_new-clause-outline c =
    let outline = outline_of c.args.self.now in
    ap (λ (draws : Draws). record outline { draws = draws }) c.between-latency.ensures.after
    ∙ linked_already c.args.first c.args.second outline
    (told_old c.args.self.now.pairs outline.links c.args.first c.args.second c.min.result c.max.result _ c.requires c.min.ensures c.max.ensures c.in_ok-is_new.ensures.added c.if-not-is_new.true)

pub returns-clause-told : goal.returns-clause-told
returns-clause-told c =
    subst (Tells c.insert.new.self) (sym c.in_ok-push.ensures.items)
    (tells_more c.args.self.now.pairs c.insert.new.self c.args.self.now.links.items c.args.first c.args.second c.between-latency.result c.min.result c.max.result c.requires c.min.ensures c.max.ensures c.in_ok-is_new.ensures.updates.0)

pub returns-clause-outline : goal.returns-clause-outline
returns-clause-outline c =
    let outline = outline_of c.args.self.now in
    let absent = told_new c.args.self.now.pairs outline.links c.args.first c.args.second c.min.result c.max.result _ c.requires c.min.ensures c.max.ensures c.in_ok-is_new.ensures.added c.if-not-is_new.false in
    let pushed : c.push.new.self.items ≡ outline.links ++ new_link c.args.first c.args.second outline ∷ [] =
    c.in_ok-push.ensures.items ∙ ap (λ (latency : ℕ). outline.links ++ (record { first = c.args.first; second = c.args.second; latency = latency }) ∷ []) c.between-latency.ensures.number in
    (λ i. record outline { draws = c.between-latency.ensures.after i; links = pushed i })
    ∙ linked_newly c.args.first c.args.second outline c.if-first-second.false absent
