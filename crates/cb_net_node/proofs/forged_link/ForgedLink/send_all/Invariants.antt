use Rattle.std.proofs.Common.{◌≡◌}
use Rattle.cb_net_node.specs.Forged.{Puts}
use Rattle.cb_net_node.proofs.forged_link.ForgedLink.send_all.Given as goal

-- the messages so far are on their way
abbrev pub invariant-loop-message : goal.invariant-loop-message
invariant-loop-message l = record {
  puts : Puts l.fn.self.link l.self.link;
  others : l.self ≡ record l.fn.self { link = l.self.link };
}
