use Rattle.std.proofs.Common.{◌+◌, ◌-◌, ◌/◌, ◌<◌, ◌≤◌, arith}
use Rattle.cb_audit.proofs.Orders.{between_none, found_read, left_read, right_read}
use Rattle.cb_audit.proofs.audited.find.Goals as goal

pub loop-low-preserved-then-is_before : goal.loop-low-preserved-then-is_before
loop-low-preserved-then-is_before c =
    let small : c.loop-low.low + (c.loop-low.high - c.loop-low.low) / 2 < c.loop-low.high = omega arith in
    right_read c.args.audited.now c.args.connection c.loop-low.low c.loop-low.high (c.loop-low.low + (c.loop-low.high - c.loop-low.low) / 2) c.index-audited-middle.result c.connection-other.result c.requires.order c.loop-low.invariant
    small c.index-audited-middle.is c.connection-other.ensures (c.is_before.ensures.0 c.if-is_before.true)

pub loop-low-preserved : goal.loop-low-preserved
loop-low-preserved c =
    let large : c.loop-low.low ≤ c.loop-low.low + (c.loop-low.high - c.loop-low.low) / 2 = omega arith in
    let small : c.loop-low.low + (c.loop-low.high - c.loop-low.low) / 2 < c.loop-low.high = omega arith in
    left_read c.args.audited.now c.args.connection c.loop-low.low c.loop-low.high (c.loop-low.low + (c.loop-low.high - c.loop-low.low) / 2) c.index-audited-middle.result c.connection-other.result c.requires.order c.loop-low.invariant
    large small c.index-audited-middle.is c.connection-other.ensures (c.is_before-else-is_before.ensures.0 c.if-is_before-2.true)

pub returns-else-is_before-2-clause-found : goal.returns-else-is_before-2-clause-found
returns-else-is_before-2-clause-found c =
    let small : c.loop-low.low + (c.loop-low.high - c.loop-low.low) / 2 < c.loop-low.high = omega arith in
    found_read c.args.audited.now c.args.connection c.loop-low.low c.loop-low.high (c.loop-low.low + (c.loop-low.high - c.loop-low.low) / 2) c.index-audited-middle.result c.connection-other.result c.is_before.result
    c.is_before-else-is_before.result c.loop-low.invariant small c.index-audited-middle.is c.connection-other.ensures c.is_before.ensures.1 c.if-is_before.false c.is_before-else-is_before.ensures.1 c.if-is_before-2.false

pub returns-clause-none : goal.returns-clause-none
returns-clause-none c = λ _. between_none c.args.audited.now c.args.connection c.loop-low.low c.loop-low.high c.loop-low.invariant c.loop-low-test.false
