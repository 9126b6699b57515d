use Rattle.std.proofs.Common.{◌≡◌, true, [], refl}
use Rattle.cb_peer_state.specs.declared.event.Event.TheVariants as events
use Rattle.cb_net_node.specs.Ends.{with_hall}
use Rattle.cb_net_node.specs.LooseLink.{IsLooseLink, is_loose_open}
use Rattle.cb_net_node.proofs.Handing.{fails_went}
use Rattle.cb_net_node.proofs.Loosely.{loose, loose_ended, loose_law, loose_sends}
use Rattle.cb_net_node.proofs.loose_link.LooseLink.tick.Goals as goal

pub invariant_of-self : goal.invariant_of-self
invariant_of-self g c =
    let going : is_loose_open c.args.self.now ≡ true = cc in
    let law : IsLooseLink (loose true c.self.inside.end c.self.inside.sent) = loose_law c.self.inside.lasts c.self.inside.end c.self.inside.sent c.args.self.now c.self.view_is going c.self.invariant in
    loose_ended true c.self.inside.end c.give.new.self c.self.inside.sent c.give.new.out []
    (fails_went g.H.Oracle.told events.Tick [] (with_hall c.self.inside.end c.args.hall.now) (with_hall c.give.new.self c.give.new.hall) refl c.in_err-give.ensures.err) law

pub invariant_of-self-2 : goal.invariant_of-self-2
invariant_of-self-2 g c =
    let going : is_loose_open c.args.self.now ≡ true = cc in
    let law : IsLooseLink (loose true c.self.inside.end c.self.inside.sent) = loose_law c.self.inside.lasts c.self.inside.end c.self.inside.sent c.args.self.now c.self.view_is going c.self.invariant in
    loose_sends g.H.Oracle.told c.self.inside.end c.give.new.self c.args.hall.now c.give.new.hall _ _ c.self.inside.sent c.give.new.out c.in_ok-give.ensures.ok.sends c.in_ok-give.ensures.ok.answered law
