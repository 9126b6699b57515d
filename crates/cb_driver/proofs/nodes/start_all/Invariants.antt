use Rattle.std.proofs.Common.{◌≡◌, All, vec_capacity, vec_len}
use Rattle.cb_driver.specs.Playing.{HasSlots}
use Rattle.cb_driver.proofs.nodes.start_all.Given as goal

-- as many nodes run as were started, and there is room for the others
abbrev pub invariant-loop-number : goal.invariant-loop-number
invariant-loop-number g l = (vec_len l.list ≡ l.number) × (vec_capacity l.list ≡ vec_capacity l.fn.list) × All HasSlots l.list.items
