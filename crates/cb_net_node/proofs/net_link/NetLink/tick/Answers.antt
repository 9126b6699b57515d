use Rattle.std.proofs.Common.{◌≡◌, true, refl}
use Rattle.cb_peer_state.specs.declared.event.Event.TheVariants as events
use Rattle.cb_net_node.specs.Link.{IsLink, is_open_at}
use Rattle.cb_net_node.proofs.Handing.{law_at, link, link_fails, link_gives}
use Rattle.cb_net_node.proofs.net_link.NetLink.tick.Goals as goal

pub invariant_of-self : goal.invariant_of-self
invariant_of-self g c =
    let going : is_open_at c.args.self.now c.args.side ≡ true = cc in
    let law : IsLink (link true c.self.inside.ends) = law_at c.self.inside.lasts c.self.inside.ends c.args.self.now c.args.side c.self.view_is going c.self.invariant in
    link_fails g.H.Oracle.told c.args.side events.Tick c.self.inside.ends c.give.new.self c.args.hall.now c.give.new.hall refl c.in_err-give.ensures.err law

pub invariant_of-self-2 : goal.invariant_of-self-2
invariant_of-self-2 g c =
    let going : is_open_at c.args.self.now c.args.side ≡ true = cc in
    let law : IsLink (link true c.self.inside.ends) = law_at c.self.inside.lasts c.self.inside.ends c.args.self.now c.args.side c.self.view_is going c.self.invariant in
    link_gives g.H.Oracle.told c.args.side events.Tick c.self.inside.ends c.give.new.self c.args.hall.now c.give.new.hall refl c.in_ok-give.ensures.ok law
