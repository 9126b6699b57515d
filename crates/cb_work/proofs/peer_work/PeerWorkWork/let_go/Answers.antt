use Rattle.cb_work.proofs.Ticking.{ticked_over}
use Rattle.cb_work.proofs.peer_work.PeerWorkWork.let_go.Goals as goal

pub returns-clause-given : goal.returns-clause-given
returns-clause-given g c = λ items given. (given.0, c.shed.ensures.serves items given.0 given.1)

pub returns-clause-ticked : goal.returns-clause-ticked
returns-clause-ticked g c =
    λ at t.
    ticked_over g.H.Oracle.told g.H.Oracle.refused g.S.Sink.contents g.S.Sink.has_failed g.F.Flags.looks c.args.self.now c.shed.new.self at c.requires c.shed.ensures.over c.shed.ensures.same.looked c.shed.ensures.serves t
