use Rattle.std.proofs.Common.{◌≡◌, ◌+◌, length}
use Rattle.std.specs.List.{All}
use Rattle.cb_crew.specs.Crew.{IsFreeHandOf, IsHandlerOf}
use Rattle.cb_crew.proofs.crew.Crew.gather.Given as goal

abbrev pub invariant-loop-handler : goal.invariant-loop-handler
invariant-loop-handler g l = record {
  can : (goal.iterator-loop-handler g).can_next l.handler-iterator;
  finite : (goal.iterator-loop-handler g).is_finite l.handler-iterator;
  free : IsFreeHandOf l.fn.self l.hand;
  others : All (IsHandlerOf l.fn.self) l.handler-iterator.rest.items;
  count : l.hand.hands + length l.handler-iterator.rest.items ≡ l.fn.self.handlers;
}
