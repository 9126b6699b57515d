use Rattle.std.proofs.Common.{◌∙◌, ap, sym, ◌+◌, ◌-◌, ◌%◌}
use Rattle.cb_net_plan.specs.Draws.{between, first_number}
use Rattle.cb_net_plan.proofs.Drawing.{between_all}
use Rattle.cb_net_plan.proofs.draws.Draws.between.Goals as goal

pub returns-then-width-clause-number : goal.returns-then-width-clause-number
unfolding between
returns-then-width-clause-number c =
    between_all c.args.low c.args.high c.next-drawn.result (sym c.saturating_sub-width.ensures ∙ c.if-width.true) c.ranges.high.fits c.next-drawn.type_inv
    ∙ ap (λ number. c.args.low + number % (c.args.high - c.args.low + 1)) c.next-drawn.ensures.number

pub returns-clause-number : goal.returns-clause-number
unfolding between
returns-clause-number c =
    ap (λ number. c.args.low + number % (c.saturating_sub-width.result + 1)) c.next-drawn.ensures.number
    ∙ ap (λ width. c.args.low + first_number c.args.self.now % (width + 1)) c.saturating_sub-width.ensures
