use Rattle.std.proofs.Common.{[], inr, refl}
use Rattle.cb_base.proofs.Known.{Appends-nothing, Keeps-same}
use Rattle.cb_net.proofs.Relaying.{told_made}
use Rattle.cb_net.proofs.playing.play.Goals as goal

pub returns-in-Err-clause-plays : goal.returns-in-Err-clause-plays
returns-in-Err-clause-plays g c =
    ([], inr (c.in-Err.fault, refl, refl), Appends-nothing (g.W.Sink.contents c.args.writer.now) (g.W.Sink.contents c.args.writer.now) (Keeps-same (g.W.Sink.contents c.args.writer.now)))

pub returns-clause-plays : goal.returns-clause-plays
returns-clause-plays g c =
    told_made c.args.settings.now c.in-Ok.net (g.W.Sink.contents c.args.writer.now) (g.W.Sink.contents c.relay_all-end.new.writer) c.relay_all-end.result (c.in-Ok.ensures.settings, c.in-Ok.ensures.roles, c.in-Ok.ensures.relayed) c.relay_all-end.ensures.plays
