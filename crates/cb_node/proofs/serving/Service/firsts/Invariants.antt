use Rattle.std.proofs.Common.{◌≡◌, ◌+◌, ◌++◌, ◌≤◌, length, map, vec_capacity, All}
use Rattle.cb_node.specs.Linking.{link_label}
use Rattle.cb_node.specs.Slot.{IsNew}
use Rattle.cb_node.proofs.Slots.{badge_label, badge_peer}
use Rattle.cb_node.proofs.serving.Service.firsts.Given as goal

abbrev pub invariant-loop-badge : goal.invariant-loop-badge
invariant-loop-badge g l = record {
  count : length l.firsts.items + length l.badge-iterator.rest.items ≡ length l.fn.badges.items;
  links : map (λ next. next.link.peer) l.firsts.items ++ map badge_peer l.badge-iterator.rest.items ≡ map badge_peer l.fn.badges.items;
  labels : map (λ next. link_label next.link) l.firsts.items ++ map badge_label l.badge-iterator.rest.items ≡ map badge_label l.fn.badges.items;
  new : All IsNew l.badge-iterator.rest.items;
  room : length l.fn.badges.items ≤ vec_capacity l.firsts;
}
