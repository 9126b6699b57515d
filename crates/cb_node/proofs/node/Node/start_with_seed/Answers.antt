use Rattle.std.proofs.Common.{ap, sym, ◌∙◌, arith}
use Rattle.std.specs.List.{range_with_len}
use Rattle.cb_node.proofs.Slots.{badges_count, badges_labels, badges_peers}
use Rattle.cb_node.proofs.node.Node.start_with_seed.Goals as goal

pub crew_slots-requires-clause-firsts : goal.crew_slots-requires-clause-firsts
crew_slots-requires-clause-firsts g c =
    let all = c.in_ok-firsts.ensures.count ∙ badges_count _ _ c.in_ok-hall.ensures.badges in (omega (arith, all, c.requires.slots.0), omega (arith, all, c.requires.slots.1))

pub man-requires-clause-count : goal.man-requires-clause-count
man-requires-clause-count g c κs within = c.in-Ok.ensures.count ∙ c.in_ok-firsts.ensures.count ∙ badges_count _ _ c.in_ok-hall.ensures.badges

pub man-requires-clause-works : goal.man-requires-clause-works
man-requires-clause-works g c κs within = c.in-Ok.ensures.labels ∙ c.in_ok-firsts.ensures.labels ∙ badges_labels _ _ c.in_ok-hall.ensures.badges

pub crew_slots-requires-clause-in_order : goal.crew_slots-requires-clause-in_order
crew_slots-requires-clause-in_order g c =
    c.in_ok-firsts.ensures.links ∙ badges_peers _ _ c.in_ok-hall.ensures.badges ∙ ap (range_with_len 0) (sym (c.in_ok-firsts.ensures.count ∙ badges_count _ _ c.in_ok-hall.ensures.badges))
