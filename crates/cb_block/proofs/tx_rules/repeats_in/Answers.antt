use Rattle.std.proofs.Common.{refl}
use Rattle.std.specs.HashSet.{contains}
use Rattle.cb_block.proofs.Repeats.{same, seen_next, seen_repeat}
use Rattle.cb_block.proofs.tx_rules.repeats_in.Goals as goal

pub returns-then-not-branch-clause-ok : goal.returns-then-not-branch-clause-ok
returns-then-not-branch-clause-ok c = (
  λ _. seen_repeat (contains same c.loop-input.spent) c.args.inputs.now c.loop-input.input-index c.input-item.result c.in_ok-insert.field-0 c.loop-input-test.true c.input-item.is c.loop-input.invariant c.in_ok-insert.ensures.added c.if-not-branch.true,
  λ _. refl,
)

pub loop-input-preserved : goal.loop-input-preserved
loop-input-preserved c =
    seen_next (contains same c.loop-input.spent) (contains same c.insert.new.self) c.args.inputs.now c.loop-input.input-index c.input-item.result c.in_ok-insert.field-0 c.loop-input-test.true c.input-item.is c.loop-input.invariant c.in_ok-insert.ensures.added c.if-not-branch.false c.in_ok-insert.ensures.updates.0
