use Rattle.std.proofs.Common.{◌≡◌, ◌-◌, ◌++◌}
use Rattle.cb_net_plan.specs.Roles.{after_many, roles_from, roles_of}
use Rattle.cb_net_plan.proofs.roles.roles_of.Given as goal

-- the roles so far, and those that are drawn from here on, are all of them
abbrev pub invariant-loop-node : goal.invariant-loop-node
invariant-loop-node l =
    (l.roles.items ++ roles_from (l.nodes - l.node) l.stall l.lie l.draws ≡ roles_of l.nodes l.fn.stall l.fn.lie l.fn.draws)
    × (after_many (l.nodes - l.node) l.draws ≡ after_many (l.nodes - 1) l.fn.draws)
