use Rattle.std.proofs.Common.{◌≡◌}
use Rattle.cb_net.proofs.Relaying.{Relaying}
use Rattle.cb_net.proofs.playing.relay_all.Given as goal

-- the blocks so far were relayed and told, one a turn
abbrev pub invariant-loop-turn : goal.invariant-loop-turn
invariant-loop-turn g l = record {
  relaying : Relaying l.settings.csv l.fn.net l.net (g.W.Sink.contents l.fn.writer) (g.W.Sink.contents l.writer);
  settings : l.net.settings ≡ l.settings;
  relayed : l.net.relayed ≡ l.turn;
}
