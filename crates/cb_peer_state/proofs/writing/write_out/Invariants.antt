use Rattle.std.proofs.Common.{◌≡◌, false, length}
use Rattle.std.specs.Vec.Iter.{into_iter_items}
use Rattle.cb_peer_state.proofs.Writes.{Written}
use Rattle.cb_peer_state.proofs.writing.write_out.Given as goal

-- what isn't left went out whole, and no write failed
abbrev pub invariant-loop-message : goal.invariant-loop-message
invariant-loop-message g l = record {
  out : Written (g.W.Sink.contents l.fn.writer) (g.W.Sink.contents l.writer) l.fn.messages.items (into_iter_items l.message-iterator) l.written;
  same : g.W.Sink.failure l.writer ≡ g.W.Sink.failure l.fn.writer;
  unmarked : g.W.Sink.has_failed l.writer ≡ g.W.Sink.has_failed l.fn.writer;
  heeds : g.W.Sink.has_failed l.fn.writer ≡ false → g.W.Sink.heeds_failure l.fn.writer l.writer;
  untouched : length (into_iter_items l.message-iterator) ≡ length l.fn.messages.items → l.writer ≡ l.fn.writer;
}
