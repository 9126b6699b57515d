use Rattle.std.proofs.Common.{◌≡◌, ◌+◌, ◌++◌, length, map, All}
use Rattle.cb_crew.specs.Work.{IsFresh}
use Rattle.cb_node.specs.Linking.{link_label}
use Rattle.cb_node.proofs.Linking.{peer_of}
use Rattle.cb_node.proofs.crewing.new_crew.Given as goal

abbrev pub invariant-loop-first : goal.invariant-loop-first
invariant-loop-first g l = record {
  count : length l.works.items + length l.first-iterator.rest.items ≡ length l.fn.firsts.items;
  as_many : length l.links.items ≡ length l.works.items;
  links : map peer_of l.links.items ++ map (λ next. next.link.peer) l.first-iterator.rest.items ≡ map (λ next. next.link.peer) l.fn.firsts.items;
  labels : map g.W.Work.label l.works.items ++ map (λ next. link_label next.link) l.first-iterator.rest.items ≡ map (λ next. link_label next.link) l.fn.firsts.items;
  fresh : All (IsFresh g.W.Work.given g.W.Work.ticked g.W.Work.is_closed g.W.Work.is_whole) l.works.items;
}
