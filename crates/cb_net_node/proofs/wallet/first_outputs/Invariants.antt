use Rattle.std.proofs.Common.{◌≡◌, ◌++◌, ◌-◌, map}
use Rattle.std.specs.List.{range_with_len}
use Rattle.cb_net_node.specs.Waves.{first_outputs, output_of}
use Rattle.cb_net_node.proofs.wallet.first_outputs.Given as goal

-- the outputs so far, and those of the indexes that are left, are all
abbrev pub invariant-loop-index : goal.invariant-loop-index
invariant-loop-index l =
    l.points.items ++ map (output_of l.fn.tx) (range_with_len l.index (l.count - l.index)) ≡ first_outputs l.fn.tx l.count
