use Rattle.std.proofs.Common.{◌≡◌, take}
use Rattle.cb_net.specs.Moments.{roles_in}
use Rattle.cb_net.proofs.beginning.nodes_of.Given as goal

abbrev pub invariant-loop-role : goal.invariant-loop-role
invariant-loop-role l = roles_in l.nodes.items ≡ take l.role-index l.roles
