use Rattle.std.proofs.Common.{◌≡◌, ◌≤◌, List, [], vec_capacity}
use Rattle.std.specs.Io.KnownBytes.{Appends}
use Rattle.cb_wire.specs.Stream.{texts}
use Rattle.cb_wire.specs.declared.message.Message.{Message}
use Rattle.cb_peers.proofs.outbox.Outbox.write_to.Given as goal

-- the messages that were taken so far are written whole
abbrev pub invariant-loop : goal.invariant-loop
invariant-loop g l = record {
  empty : l.batch.items ≡ [];
  room : 64 ≤ vec_capacity l.batch;
  wrote : (done : List Message) × Appends (g.W.Write.contents l.fn.writer) (g.W.Write.contents l.writer) (texts done);
}
