use Rattle.std.proofs.Common.{◌≡◌, ◌≤◌, ◌+◌, vec_capacity, vec_len}
use Rattle.std.specs.Vec.Iter.{into_iter_items, into_iter_len}
use Rattle.cb_node.specs.Node.{HasFinished, NodeState}
use Rattle.cb_driver.proofs.Walks.{Walked}
use Rattle.cb_driver.proofs.nodes.finish_all.Given as goal

-- what is left of each node that was ended, and room for the others
abbrev pub invariant-loop : goal.invariant-loop
invariant-loop g l = record {
  room : vec_len l.all + into_iter_len l.left ≤ vec_capacity l.all;
  rest : into_iter_len l.left + l.counter ≡ l.count;
  count : vec_len l.all ≡ l.counter;
  walked : Walked (λ (node : NodeState) end. HasFinished node.crew end.read end.desks.items) l.fn.list.items (into_iter_items l.left) l.all.items;
}
