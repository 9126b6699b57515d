use Rattle.std.proofs.Common.{sym}
use Rattle.cb_session.proofs.Pieces.{reads_nothing}
use Rattle.cb_session.proofs.inbox_reader.read_loop.Goals as goal

pub returns-in-Ok-clause-reads : goal.returns-in-Ok-clause-reads
returns-in-Ok-clause-reads g c =
    let names = c.read_all-why.ensures.ends in
    rw (c.seat-1.given.1 (sym names.0), c.stop-1.given.1 (sym names.1)) c.read_all-why.ensures.reads

pub returns-in-Err-clause-reads : goal.returns-in-Err-clause-reads
returns-in-Err-clause-reads g c = reads_nothing _ _ _ _ _ _ c.nothing-bytes.ensures c.put_last-why.ensures.closed
