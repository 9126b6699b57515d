use Rattle.std.proofs.Common.{◌≡◌, true}
use Rattle.cb_net_node.specs.Link.{IsLink, is_open_at}
use Rattle.cb_net_node.proofs.Handing.{law_at, link, link_misses, link_hears}
use Rattle.cb_net_node.proofs.net_link.NetLink.hear.Goals as goal

pub invariant_of-self : goal.invariant_of-self
invariant_of-self g c =
    let going : is_open_at c.args.self.now c.args.side ≡ true = cc in
    let law : IsLink (link true c.self.inside.ends) = law_at c.self.inside.lasts c.self.inside.ends c.args.self.now c.args.side c.self.view_is going c.self.invariant in
    link_misses g.H.Oracle.told c.args.side c.self.inside.ends c.hear.new.self c.args.hall.now c.hear.new.hall c.in_err-hear.ensures.err law

pub invariant_of-self-2 : goal.invariant_of-self-2
invariant_of-self-2 g c =
    let going : is_open_at c.args.self.now c.args.side ≡ true = cc in
    let law : IsLink (link true c.self.inside.ends) = law_at c.self.inside.lasts c.self.inside.ends c.args.self.now c.args.side c.self.view_is going c.self.invariant in
    link_hears g.H.Oracle.told c.args.side c.self.inside.ends c.hear.new.self c.args.hall.now c.hear.new.hall c.in_ok-hear.ensures.ok law
