use Rattle.std.proofs.Common.{◌+◌, ℕ, ap, ◌∙◌, arith}
use Rattle.std.proofs.lemmas.List.{nil_from_length}
use Rattle.std.specs.Vec.Iter.{into_iter_items}
use Rattle.cb_driver.proofs.Walks.{walked_all, walked_more, walked_none}
use Rattle.cb_driver.proofs.nodes.finish_all.Goals as goal

pub loop-init : goal.loop-init
loop-init g c = record {
  room = omega (arith, c.requires.none, c.requires.room, c.into_iter-left.ensures.len);
  rest = omega (arith, c.into_iter-left.ensures.len, c.len-count.ensures);
  count = c.requires.none;
  walked = walked_none _ _ _ _ c.into_iter-left.ensures.rest (nil_from_length c.args.ends.items (omega (arith, c.requires.none, c.args.ends.ok.0)));
}

pub loop-preserved : goal.loop-preserved
loop-preserved g c = record {
  room = omega (arith, c.push_reserved.ensures.len, c.push_reserved.ensures.capacity, c.in-Some.ensures.cases.1, c.loop.invariant.room);
  rest = omega (arith, c.in-Some.ensures.cases.1, c.loop.invariant.rest);
  count = c.push_reserved.ensures.len ∙ ap (λ (n : ℕ). n + 1) c.loop.invariant.count;
  walked = walked_more _ _ _ _ _ _ c.in-Some.node c.finish.result c.loop.invariant.walked c.in-Some.ensures.cases.0 c.push_reserved.ensures.items c.finish.ensures;
}

pub returns-clause-each : goal.returns-clause-each
returns-clause-each g c = walked_all _ _ _ _ c.loop.invariant.walked (nil_from_length (into_iter_items c.loop.left) (omega (arith, c.loop.invariant.rest, c.loop-test.false, c.loop.left.rest.ok.0)))
