use Rattle.cb_peer_state.proofs.Writes.{part_none}
use Rattle.cb_peers.proofs.Writing.{wrote_untold}
use Rattle.cb_peers.proofs.link.OutboxSinkMessageSink.put.Goals as goal

pub returns-then-is_some-clause-err : goal.returns-then-is_some-clause-err
returns-then-is_some-clause-err g c = part_none _ _

pub returns-in-Ok-clause-ok : goal.returns-in-Ok-clause-ok
returns-in-Ok-clause-ok g c = wrote_untold _ _

pub returns-in-Err-Memory-clause-err : goal.returns-in-Err-Memory-clause-err
returns-in-Err-Memory-clause-err g c = part_none _ _

pub returns-in-Err-clause-err : goal.returns-in-Err-clause-err
returns-in-Err-clause-err g c = part_none _ _
