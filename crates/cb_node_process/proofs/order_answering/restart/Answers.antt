use Rattle.std.proofs.Common.{refl, inl, inr}
use Rattle.cb_node_process.proofs.order_answering.restart.Goals as goal

pub returns-then-well-clause-audited : goal.returns-then-well-clause-audited
returns-then-well-clause-audited g c = (c.in_ok-end.end, c.in_ok-end.verdict, c.tip_of.result, c.in_ok-end.ensures.audited, inl refl)

pub returns-else-well-clause-audited : goal.returns-else-well-clause-audited
returns-else-well-clause-audited g c = (c.in_ok-end.end, c.in_ok-end.verdict, c.tip_of.result, c.in_ok-end.ensures.audited, inr refl)
