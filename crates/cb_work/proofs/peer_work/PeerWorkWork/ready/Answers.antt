use Rattle.cb_work.proofs.Ticking.{ticked_on}
use Rattle.cb_work.proofs.peer_work.PeerWorkWork.ready.Goals as goal

pub returns-clause-given : goal.returns-clause-given
returns-clause-given g c = λ items given. (given.0, c.prepare.ensures.serves items given.0 given.1)

pub returns-clause-ticked : goal.returns-clause-ticked
returns-clause-ticked g c =
    λ at t.
    ticked_on g.H.Oracle.told g.H.Oracle.refused g.S.Sink.contents g.S.Sink.has_failed g.F.Flags.looks c.args.self.now c.prepare.new.self at (λ items. items) c.requires c.prepare.ensures.same.looked c.prepare.ensures.serves t
