use Rattle.std.proofs.Common.{All, ◌++◌, length, map, ap, subst, sym, ◌∙◌, arith}
use Rattle.std.proofs.lemmas.List.{length_push}
use Rattle.std.proofs.lemmas.List.Elements.{All-tail}
use Rattle.cb_node.specs.Linking.{link_label}
use Rattle.cb_node.specs.Slot.{IsNew}
use Rattle.cb_node.proofs.Linking.{label_is, moved}
use Rattle.cb_node.proofs.Slots.{badge_label, badge_peer}
use Rattle.cb_node.proofs.serving.Service.firsts.Goals as goal

pub loop-badge-init : goal.loop-badge-init
loop-badge-init g c =
    let gives = c.into_iter-badge-iterator.ensures.into_iter_gives.0 in
    record {
      count = omega (arith, ap length c.in_ok-firsts.ensures.items, ap length gives);
      links = ap (λ fs. map (λ next. next.link.peer) fs ++ map badge_peer c.into_iter-badge-iterator.result.rest.items) c.in_ok-firsts.ensures.items ∙ ap (map badge_peer) gives;
      labels = ap (λ fs. map (λ next. link_label next.link) fs ++ map badge_label c.into_iter-badge-iterator.result.rest.items) c.in_ok-firsts.ensures.items ∙ ap (map badge_label) gives;
      new = subst (All IsNew) (sym gives) c.requires;
      room = omega (arith, c.in_ok-firsts.ensures.capacity, c.len.ensures, c.args.badges.ok.0);
    }

pub loop-badge-preserved : goal.loop-badge-preserved
loop-badge-preserved g c = record {
  count = omega (arith, ap length c.push_reserved.ensures.items, length_push c.loop-badge.firsts.items c.in-Ok.first, ap length c.in-Some.ensures.steps.0, c.loop-badge.invariant.count);
  links = moved (λ next. next.link.peer) badge_peer c.loop-badge.firsts.items _ c.in-Ok.first c.in-Some.badge _ _ _ c.loop-badge.invariant.links c.in-Some.ensures.steps.0 c.push_reserved.ensures.items c.in-Ok.ensures.link.0.0;
  labels = moved (λ next. link_label next.link) badge_label c.loop-badge.firsts.items _ c.in-Ok.first c.in-Some.badge _ _ _ c.loop-badge.invariant.labels c.in-Some.ensures.steps.0 c.push_reserved.ensures.items
      (sym (label_is c.in-Some.badge.connection c.in-Ok.first.link c.in-Ok.ensures.link.0));
  new = All-tail IsNew c.in-Some.badge _ (subst (All IsNew) c.in-Some.ensures.steps.0 c.loop-badge.invariant.new);
  room = omega (arith, c.push_reserved.ensures.capacity, c.loop-badge.invariant.room);
}
