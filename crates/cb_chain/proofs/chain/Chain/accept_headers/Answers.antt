use Rattle.cb_chain.proofs.Headings.{headers_chain, headers_leave}
use Rattle.cb_chain.proofs.chain.Chain.accept_headers.Goals as goal

pub invariant_of-self-2 : goal.invariant_of-self-2
invariant_of-self-2 c =
    headers_chain c.self.inside.tree c.reserve.new.self c.meet_headers-refused.new.tree c.args.headers.now c.meet_headers-refused.result c.meet_headers-refused.new.met.items c.self.inside.active.items
    c.self.inside.ledger.unspent c.self.inside.side_branch c.in_ok-reserve.ensures.same c.in_ok-reserve.ensures.undos c.meet_headers-refused.ensures.takes c.meet_headers-refused.ensures.chains c.self.invariant

pub returns-clause-stays : goal.returns-clause-stays
returns-clause-stays c =
    headers_leave c.self.inside.tree c.reserve.new.self c.meet_headers-refused.new.tree c.args.self.now c.args.headers.now c.meet_headers-refused.result c.meet_headers-refused.new.met.items
    c.in_ok-reserve.ensures.same c.self.view_is c.self.invariant.1 c.meet_headers-refused.ensures.takes
