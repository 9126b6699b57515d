use Rattle.std.proofs.Common.{◌≡◌, false, refl, true}
use Rattle.cb_audit.proofs.Orders.{order_all, order_denied, order_read}
use Rattle.cb_audit.proofs.audited.are_in_order.Goals as goal

pub loop-next-preserved : goal.loop-next-preserved
loop-next-preserved c =
    order_read c.args.audited.now c.loop-next.next c.index-audited-next.result c.index-audited-next-in-loop-next.result c.connection.result c.connection-in-loop-next.result c.loop-next.invariant c.loop-next.auto.next
    c.loop-next-test.true c.index-audited-next.is c.index-audited-next-in-loop-next.is c.connection.ensures c.connection-in-loop-next.ensures (c.is_before.ensures.0 c.if-not-is_before.false)

pub returns : goal.returns
returns c = (λ _. order_all c.args.audited.now c.loop-next.next c.loop-next.invariant c.loop-next-test.false, λ _. refl)

pub returns-then-not-is_before : goal.returns-then-not-is_before
returns-then-not-is_before c = (
  λ told. (let never : false ≡ true = told in absurd (cc)),
  λ order. absurd
      (order_denied c.args.audited.now c.loop-next.next c.index-audited-next.result c.index-audited-next-in-loop-next.result c.connection.result c.connection-in-loop-next.result c.is_before.result c.loop-next.auto.next
      c.loop-next-test.true c.index-audited-next.is c.index-audited-next-in-loop-next.is c.connection.ensures c.connection-in-loop-next.ensures c.is_before.ensures.1 c.if-not-is_before.true order),
)
