-- The two sides of a link.
use Rattle.cb_net_node.specs.declared.side.Side.{Side}
use Rattle.cb_net_node.specs.declared.side.Side.TheVariants.{First, Second}

-- the neighbour
abbrev pub other_side : Side → Side
other_side First = Second
other_side Second = First
