use Rattle.cb_work.proofs.Serving.{serves_flags}
use Rattle.cb_work.proofs.peer_work.PeerWork.count.Goals as goal

pub returns-clause-serves : goal.returns-clause-serves
returns-clause-serves g c =
    rw (← c.self.view_is) (λ items beats s. serves_flags g.H.Oracle.told g.H.Oracle.refused g.S.Sink.contents g.S.Sink.has_failed _ c.count_traffic.new.self items beats s)
