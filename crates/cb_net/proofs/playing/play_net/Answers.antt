use Rattle.cb_net.proofs.Relaying.{told_whole}
use Rattle.cb_net.proofs.playing.play_net.Goals as goal

pub returns-clause-plays : goal.returns-clause-plays
returns-clause-plays g c =
    told_whole c.args.settings.now (g.W.Sink.contents c.args.writer.now) (g.W.Sink.contents c.tell_head.new.writer) (g.W.Sink.contents c.play.new.writer) (g.W.Sink.contents c.tell_end.new.writer) c.in_ok-end.end c.tell_end.result c.in_ok-tell_head.ensures.text c.in_ok-end.ensures.plays c.tell_end.ensures.text c.tell_end.ensures.status
