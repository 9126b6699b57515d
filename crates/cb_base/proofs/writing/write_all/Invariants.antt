use Rattle.std.proofs.Common.{◌≡◌, ◌≤◌, false, length}
use Rattle.cb_base.proofs.Writes.{Taken}
use Rattle.cb_base.proofs.writing.write_all.Given as goal

-- what isn't left has been taken, and no write failed
abbrev pub invariant-loop-rest : goal.invariant-loop-rest
invariant-loop-rest g l = record {
  shorter : length l.rest ≤ length l.piece;
  taken : Taken (g.W.Sink.contents l.fn.writer) (g.W.Sink.contents l.writer) l.piece l.rest;
  same : g.W.Sink.failure l.writer ≡ g.W.Sink.failure l.fn.writer;
  unmarked : g.W.Sink.has_failed l.writer ≡ g.W.Sink.has_failed l.fn.writer;
  heeds : g.W.Sink.has_failed l.fn.writer ≡ false → g.W.Sink.heeds_failure l.fn.writer l.writer;
  untouched : length l.rest ≡ length l.piece → l.writer ≡ l.fn.writer;
}

abbrev pub decreases-loop-rest : goal.decreases-loop-rest
decreases-loop-rest g l = length l.rest
