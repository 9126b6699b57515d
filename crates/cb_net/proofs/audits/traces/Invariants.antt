use Rattle.std.proofs.Common.{◌≡◌, take}
use Rattle.std.specs.List.{flat_map}
use Rattle.cb_net.specs.Audits.{traces_at}
use Rattle.cb_net.proofs.audits.traces.Given as goal

abbrev pub invariant-loop-end : goal.invariant-loop-end
invariant-loop-end l = l.all.items ≡ flat_map (traces_at l.links) (take l.end-index l.node.ends.items)
