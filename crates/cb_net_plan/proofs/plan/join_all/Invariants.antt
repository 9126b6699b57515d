use Rattle.std.proofs.Common.{◌≡◌, drop}
use Rattle.cb_net_plan.specs.Links.{all_joined}
use Rattle.cb_net_plan.specs.Sketching.{AreTold, outline_of}
use Rattle.cb_net_plan.proofs.plan.join_all.Given as goal

-- the nodes from here on lead to what all nodes lead to
abbrev pub invariant-loop-node : goal.invariant-loop-node
invariant-loop-node l =
    AreTold l.sketch
    × (all_joined l.node (drop l.node l.roles) (outline_of l.sketch) ≡ all_joined 0 l.roles (outline_of l.fn.sketch))
