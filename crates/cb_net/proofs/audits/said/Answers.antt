use Rattle.std.proofs.Common.{inl}
use Rattle.cb_net.proofs.audits.said.Goals as goal

pub returns-in-Ok : goal.returns-in-Ok
returns-in-Ok c = (c.are_in_order.ensures.0 c.if-not-are_in_order.false, c.in-Ok.field-0, c.in-Ok.ensures)

pub returns-in-Err : goal.returns-in-Err
returns-in-Err c = inl (c.are_in_order.ensures.0 c.if-not-are_in_order.false, c.in-Err.ensures)
