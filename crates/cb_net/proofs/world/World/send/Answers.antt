use Rattle.std.proofs.Common.{arith}
use Rattle.cb_net.proofs.Counted.{counted_here, no_sender, no_such_sender, none_counted}
use Rattle.cb_net.proofs.world.World.send.Goals as goal

pub returns-in_err-message-clause-counts : goal.returns-in_err-message-clause-counts
returns-in_err-message-clause-counts c =
    none_counted c.args.self.now.links.items c.args.self.now.nodes.items c.args.place c.args.to c.args.turn c.args.self.now.traffic c.as_slice.result.now c.as_slice.ensures.value c.in_err-message.ensures

pub returns-in_err-sender-clause-counts : goal.returns-in_err-sender-clause-counts
returns-in_err-sender-clause-counts c =
    no_sender c.args.self.now.links.items c.args.self.now.nodes.items c.args.place c.args.to c.args.turn c.args.self.now.traffic c.as_slice-2.result.now c.as_slice-2.ensures.value c.in_err-sender.ensures

pub returns-then-sender-len-clause-counts : goal.returns-then-sender-len-clause-counts
returns-then-sender-len-clause-counts c =
    no_such_sender c.args.self.now.links.items c.args.self.now.nodes.items c.args.place c.args.to c.args.turn c.args.self.now.traffic c.as_slice-2.result.now c.in_ok-sender.field-0 c.as_slice-2.ensures.value
    c.in_ok-sender.ensures (omega (arith, c.if-sender-len.true, c.len.ensures))

pub returns-clause-counts : goal.returns-clause-counts
returns-clause-counts c =
    counted_here c.args.self.now.links.items c.args.self.now.nodes.items c.args.place c.args.to c.args.turn c.args.self.now.traffic c.count_sent.new.traffic c.as_slice.result.now c.as_slice-2.result.now c.in_ok-sender.field-0
    c.index_mut-node.result.now c.in_ok-message.message.now c.as_slice.ensures.value c.as_slice-2.ensures.value c.in_ok-message.ensures c.in_ok-sender.ensures (omega (arith, c.if-sender-len.false, c.len.ensures))
    c.index_mut-node.ensures.value c.count_sent.ensures.counts
