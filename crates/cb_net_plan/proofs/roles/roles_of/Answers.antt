use Rattle.std.proofs.Common.{◌<◌, ◌∙◌, ◌-◌, ◌+◌, ap, sym, rules}
use Rattle.cb_net_plan.specs.Draws.{below}
use Rattle.cb_net_plan.specs.Roles.{after_many}
use Rattle.cb_net_plan.proofs.Rolling.{after_one, one_less, one_role}
use Rattle.cb_net_plan.proofs.roles.roles_of.Goals as goal

pub loop-node-preserved : goal.loop-node-preserved
loop-node-preserved c =
    let l = c.loop-node in
    let left = c.args.nodes - l.node in
    let rest = c.args.nodes - (l.node + 1) in
    let lt : l.node < c.args.nodes = search rules in
    let one = one_less c.args.nodes l.node lt in (
      one_role left rest c.below.result l.stall l.lie c.still_to_stall-stall.result c.still_to_lie-lie.result l.draws c.below.new.self c.role_at-role.result l.roles.items c.push-in-loop-node.new.self.items _
          one (c.below.ensures.number ∙ ap (λ bound. below bound l.draws) c.from.ensures) c.role_at-role.ensures
          c.still_to_stall-stall.ensures c.still_to_lie-lie.ensures c.below.ensures.after c.in_ok-push-2.ensures.items l.invariant.0,
      ap (after_many rest) c.below.ensures.after ∙ sym (after_one left rest l.draws one) ∙ l.invariant.1,
    )
