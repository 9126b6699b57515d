use Rattle.std.proofs.Common.{◌∙◌, ap, ◌%◌}
use Rattle.cb_net_plan.specs.Draws.{below, first_number}
use Rattle.cb_net_plan.proofs.Drawing.{below_le, below_none, below_some}
use Rattle.cb_net_plan.proofs.draws.Draws.below.Goals as goal

pub returns-then-bound-eq0-clause-number : goal.returns-then-bound-eq0-clause-number
unfolding below
returns-then-bound-eq0-clause-number c =
    below_none c.args.bound (first_number c.args.self.now) c.if-bound-eq0.true

pub returns-clause-number : goal.returns-clause-number
unfolding below
returns-clause-number c =
    ap (λ n. n % c.args.bound) c.next-drawn.ensures.number
    ∙ below_some c.args.bound (first_number c.args.self.now) c.if-bound-eq0.false

pub returns-clause-within : goal.returns-clause-within
returns-clause-within c = below_le c.next-drawn.result c.args.bound c.if-bound-eq0.false
