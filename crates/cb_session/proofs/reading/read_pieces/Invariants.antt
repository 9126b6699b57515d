use Rattle.std.proofs.Common.{◌≡◌, ◌≤◌, length}
use Rattle.std.specs.Io.KnownBytes.{Consumes}
use Rattle.cb_session.proofs.reading.read_pieces.Given as goal

-- all that was read was taken
abbrev pub invariant-loop : goal.invariant-loop
invariant-loop g l = record {
  room : length l.buffer ≡ 65536;
  failed : g.S.Source.has_failed l.reader ≡ g.S.Source.has_failed l.fn.reader;
  consumed : Consumes (g.S.Source.remaining l.fn.reader) (g.S.Source.remaining l.reader) l.bytes;
  enough : l.counter ≤ length l.bytes;
  ready : g.T.TakesPieces.is_ready l.taker;
  took : g.T.TakesPieces.took l.fn.taker l.bytes l.taker;
}
