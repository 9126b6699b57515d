use Rattle.cb_peers.proofs.Served.{is_headline}
use Rattle.cb_peers.proofs.finishing.finish_peers.Goals as goal

pub returns : goal.returns
returns g c = is_headline g.H.Oracle.told g.H.Oracle.refused g.S.Sink.contents g.S.Sink.has_failed g.met.H.Oracle.counts c.args.crew.now c.args.sides.items c.finish.result.items c.finish.ensures
