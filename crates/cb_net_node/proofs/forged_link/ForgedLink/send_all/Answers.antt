use Rattle.std.proofs.Common.{refl, ap}
use Rattle.cb_net_node.specs.declared.forged_link.ForgedLink.{ForgedLink}
use Rattle.cb_net_node.proofs.ForgingLemmas.{puts_more, puts_none}
use Rattle.cb_net_node.proofs.forged_link.ForgedLink.send_all.Goals as goal

pub loop-message-init : goal.loop-message-init
loop-message-init c = record { puts = puts_none c.args.self.now.link; others = refl }

pub loop-message-preserved : goal.loop-message-preserved
loop-message-preserved c =
    record {
      puts = puts_more c.args.self.now.link c.loop-message.self.link c.put.new.self _ c.loop-message.invariant.puts c.in_ok-put.ensures.ok;
      others = ap (λ (forged : ForgedLink). record forged { link = c.put.new.self }) c.loop-message.invariant.others;
    }
