use Rattle.std.proofs.Common.{rules, ◌≡◌, refl}
use Rattle.cb_base.specs.declared.read_end.ReadEnd.TheVariants as ends
use Rattle.cb_session.proofs.Pieces.{never_stopped, put_none, reads_ended, reads_eof, reads_fault, reads_halted, reads_long}
use Rattle.cb_session.proofs.inbox_reader.InboxReader.read_all.Goals as goal

pub returns-in-Err-clause-reads : goal.returns-in-Err-clause-reads
returns-in-Err-clause-reads g c = reads_halted _ _ _ _ _ _ c.requires.first refl c.requires.live c.in-Err.ensures.halted

pub read_pieces-requires-clause-start : goal.read_pieces-requires-clause-start
read_pieces-requires-clause-start g c = (refl, refl, g.met.T.Seat.same_none _, put_none _ _ c.requires.new c.requires.live)

pub returns-in-Ok-Eof-clause-reads : goal.returns-in-Ok-Eof-clause-reads
returns-in-Ok-Eof-clause-reads g c =
    let is : c.in-Ok-Eof.field-0 ≡ ends.Eof = search rules in
    let ready = c.in-Ok-Eof.ensures.ready in
    let took = c.in-Ok-Eof.ensures.took in
    reads_eof _ _ _ _ _ _ _ _ c.read_pieces.new.taker.assembler.now c.in-Ok-Eof.field-0 _ _ refl c.read_pieces.ensures.consumed took.3 ready.2 is c.in-Ok-Eof.ensures.source c.end.ensures.closed

pub returns-in-Ok-Fault-clause-reads : goal.returns-in-Ok-Fault-clause-reads
returns-in-Ok-Fault-clause-reads g c =
    let is : c.in-Ok-Fault.field-0 ≡ ends.Fault = search rules in
    let ready = c.in-Ok-Fault.ensures.ready in
    let took = c.in-Ok-Fault.ensures.took in
    reads_fault _ _ _ _ _ _ _ _ c.read_pieces.new.taker.assembler.now c.in-Ok-Fault.field-0 _ _ refl c.read_pieces.ensures.consumed took.3 ready.2 is c.in-Ok-Fault.ensures.source c.end-in-Ok-Fault.ensures.closed

pub returns-in-Ok-Turns-clause-reads : goal.returns-in-Ok-Turns-clause-reads
returns-in-Ok-Turns-clause-reads g c =
    let is : c.in-Ok-Turns.field-0 ≡ ends.Turns = search rules in
    let ready = c.in-Ok-Turns.ensures.ready in
    let took = c.in-Ok-Turns.ensures.took in
    reads_long _ _ _ _ _ _ _ c.read_pieces.new.taker.assembler.now c.in-Ok-Turns.field-0 _ refl c.read_pieces.ensures.consumed took.3 ready.2 ready.1 is c.in-Ok-Turns.ensures.source

pub returns-in-Ok-Stopped-clause-reads : goal.returns-in-Ok-Stopped-clause-reads
returns-in-Ok-Stopped-clause-reads g c =
    let is : c.in-Ok-Stopped.field-0 ≡ ends.Stopped = search rules in
    absurd (never_stopped c.in-Ok-Stopped.field-0 _ _ _ _ is c.in-Ok-Stopped.ensures.source)

pub returns-in-Err-read_pieces-clause-reads : goal.returns-in-Err-read_pieces-clause-reads
returns-in-Err-read_pieces-clause-reads g c =
    reads_ended _ _ _ _ _ _ _ _ _ refl c.read_pieces.ensures.consumed c.in-Err-read_pieces.ensures.unfailed c.in-Err-read_pieces.ensures.ended.3
