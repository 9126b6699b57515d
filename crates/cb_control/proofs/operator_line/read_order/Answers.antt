use Rattle.std.proofs.Common.{rules}
use Rattle.cb_control.proofs.OrderRead.{order_is_read}
use Rattle.cb_control.proofs.operator_line.read_order.Goals as goal

pub returns-in-Ok-clause-exact : goal.returns-in-Ok-clause-exact
returns-in-Ok-clause-exact c = order_is_read c.args.text.now c.in-Ok.text.now c.order_of.result (search rules) (search rules) c.order_of.ensures.exact
