use Rattle.cb_crew.proofs.NewCrews.{lines_more}
use Rattle.cb_crew.proofs.new_crew.Lines.new.Goals as goal

pub loop-peer-preserved : goal.loop-peer-preserved
loop-peer-preserved g c =
    lines_more c.loop-peer.peer c.args.capacity _ _ _ _ _ _ c.in_ok-inbox.inbox c.in_ok-inbox-2.inbox _ c.in_ok-inbox.reader c.loop-peer.invariant c.in_ok-inbox.ensures.inbox c.in_ok-inbox.ensures.seats.0 c.in_ok-inbox-2.ensures.same c.in_ok-clone.ensures c.in_ok-push-2.ensures.items c.in_ok-push-3.ensures.items c.in_ok-push.ensures.items
