use Rattle.std.proofs.Common.{◌≡◌, true}
use Rattle.cb_net_node.specs.LooseLink.{IsLooseLink, is_loose_open}
use Rattle.cb_net_node.proofs.Handing.{misses_went}
use Rattle.cb_net_node.proofs.Loosely.{loose, loose_ended, loose_law, loose_sends}
use Rattle.cb_net_node.proofs.loose_link.LooseLink.hear.Goals as goal

pub invariant_of-self : goal.invariant_of-self
invariant_of-self g c =
    let going : is_loose_open c.args.self.now ≡ true = cc in
    let law : IsLooseLink (loose true c.self.inside.end c.self.inside.sent) = loose_law c.self.inside.lasts c.self.inside.end c.self.inside.sent c.args.self.now c.self.view_is going c.self.invariant in
    loose_ended true c.self.inside.end c.hear.new.self c.self.inside.sent c.hear.new.out c.self.inside.end.inbox
    (misses_went g.H.Oracle.told c.self.inside.end c.hear.new.self c.args.hall.now c.hear.new.hall c.in_err-hear.ensures.err) law

pub invariant_of-self-2 : goal.invariant_of-self-2
invariant_of-self-2 g c =
    let going : is_loose_open c.args.self.now ≡ true = cc in
    let law : IsLooseLink (loose true c.self.inside.end c.self.inside.sent) = loose_law c.self.inside.lasts c.self.inside.end c.self.inside.sent c.args.self.now c.self.view_is going c.self.invariant in
    loose_sends g.H.Oracle.told c.self.inside.end c.hear.new.self c.args.hall.now c.hear.new.hall _ _ c.self.inside.sent c.hear.new.out c.in_ok-hear.ensures.ok.sends c.in_ok-hear.ensures.ok.answered law
