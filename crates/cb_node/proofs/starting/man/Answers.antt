use Rattle.std.proofs.Common.{◌≡◌, ◌+◌, ◌≤◌, length, vec_capacity, ◌∙◌, arith}
use Rattle.cb_hall.specs.Connections.{most_peers}
use Rattle.cb_node.proofs.Slots.{count_of}
use Rattle.cb_node.proofs.starting.man.Goals as goal

pub invariant_of-result : goal.invariant_of-result
invariant_of-result g c =
    let made = c.args.crewed in
    let settings = c.args.service.settings in
    let count : length made.slots.items ≡ settings.inbound + settings.outbound = count_of made.common.crew made.slots.items made.are_slots ∙ c.requires.count in
    let inbound : settings.inbound ≤ length made.slots.items = omega (arith, count) in
    let most : length made.slots.items ≤ most_peers = omega (arith, count, c.requires.most) in
    let room : length c.in-Ok.handling.items ≤ vec_capacity made.back = omega (arith, c.in-Ok.ensures.1, made.has_back.1) in
    (made.are_slots, inbound, most, c.in-Ok.ensures.0, made.has_back.0, room, made.has_sides.0, made.has_sides.1)
