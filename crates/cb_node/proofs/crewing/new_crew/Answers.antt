use Rattle.std.proofs.Common.{length, All, ap, refl, sym, subst, ◌∙◌, arith}
use Rattle.std.proofs.lemmas.List.{length_push}
use Rattle.std.proofs.lemmas.List.Elements.{All-push}
use Rattle.cb_crew.specs.Work.{IsFresh}
use Rattle.cb_node.specs.Linking.{link_label}
use Rattle.cb_node.proofs.Linking.{moved, peer_of}
use Rattle.cb_node.proofs.crewing.new_crew.Goals as goal

pub loop-first-preserved : goal.loop-first-preserved
loop-first-preserved g c =
    let fresh = IsFresh g.W.Work.given g.W.Work.ticked g.W.Work.is_closed g.W.Work.is_whole in
    let works = ap length c.in_ok-push.ensures.items ∙ length_push c.loop-first.works.items c.into_work.result in
    let links = ap length c.in_ok-push-2.ensures.items ∙ length_push c.loop-first.links.items c.in-Some.first.link in
    record {
      as_many = omega (arith, works, links, c.loop-first.invariant.as_many);
      count = omega (arith, works, ap length c.in-Some.ensures.steps.0, c.loop-first.invariant.count);
      links = moved peer_of (λ next. next.link.peer) c.loop-first.links.items _ c.in-Some.first.link c.in-Some.first _ _ _ c.loop-first.invariant.links c.in-Some.ensures.steps.0 c.in_ok-push-2.ensures.items refl;
      labels = moved g.W.Work.label (λ next. link_label next.link) c.loop-first.works.items _ c.into_work.result c.in-Some.first _ _ _ c.loop-first.invariant.labels c.in-Some.ensures.steps.0 c.in_ok-push.ensures.items
          (ap g.W.Work.label c.into_work.ensures.work ∙ c.in-Some.first.of_one);
      fresh = subst (All fresh) (sym c.in_ok-push.ensures.items) (All-push fresh c.loop-first.works.items c.into_work.result c.loop-first.invariant.fresh c.into_work.ensures.fresh);
    }
