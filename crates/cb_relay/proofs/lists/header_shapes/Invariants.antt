use Rattle.std.proofs.Common.{◌≡◌, map, take}
use Rattle.cb_relay.specs.Shapes.{header_of}
use Rattle.cb_relay.proofs.lists.header_shapes.Given as goal

abbrev pub invariant-loop-header : goal.invariant-loop-header
invariant-loop-header l = map header_of l.list.items ≡ take l.header-index l.headers
