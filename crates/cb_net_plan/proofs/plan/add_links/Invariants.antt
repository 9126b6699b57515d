use Rattle.std.proofs.Common.{◌≡◌, ◌-◌, ◌/◌}
use Rattle.cb_net_plan.specs.Links.{all_tried}
use Rattle.cb_net_plan.specs.Sketching.{AreTold, outline_of}
use Rattle.cb_net_plan.proofs.plan.add_links.Given as goal

-- the tries from here on lead to what all tries lead to
abbrev pub invariant-loop-turn : goal.invariant-loop-turn
invariant-loop-turn l =
    AreTold l.sketch
    × (all_tried (l.tries - l._turn) l.nodes (l.tries / 2) (outline_of l.sketch) ≡ all_tried l.tries l.nodes (l.tries / 2) (outline_of l.fn.sketch))
