use Rattle.std.proofs.Common.{[], refl, sym, ap, subst, ◌∙◌}
use Rattle.std.proofs.lemmas.List.{append-nil}
use Rattle.cb_crew.specs.Queued.{has_ended}
use Rattle.cb_service.specs.Service.{HasEnded, queued_by}
use Rattle.cb_peers.specs.Seat.{is_ended, marks_of}
use Rattle.cb_peers.proofs.Leaving.{left_by, left_live}
use Rattle.cb_peers.proofs.reading.read_connection.Goals as goal

pub returns-in-Ended-clause-reads : goal.returns-in-Ended-clause-reads
returns-in-Ended-clause-reads g c =
    left_by c.args.seat.queued c.new-seat.result c.read_loop-why.new.seat (queued_by c.ended.result) []
    c.new-seat.ensures.nothing c.new-seat.ensures.before (ap is_ended c.new-seat.ensures.side) (ap marks_of c.new-seat.ensures.side)
    c.read_loop-why.ensures.seat c.read_loop-why.ensures.reads (ap queued_by c.ended.ensures ∙ ap marks_of c.in-Ended.ensures.side ∙ sym (append-nil _)) refl refl
    (λ _. ap (λ s. has_ended (queued_by s)) c.ended.ensures ∙ c.reached.ensures.ended)

pub returns-in-Live-clause-reads : goal.returns-in-Live-clause-reads
returns-in-Live-clause-reads g c =
    left_live c.args.seat.queued c.new-seat.result c.read_loop-why.new.seat c.in-Live.seat c.end.result
    c.new-seat.ensures.nothing c.new-seat.ensures.before (ap is_ended c.new-seat.ensures.side) (ap marks_of c.new-seat.ensures.side)
    c.read_loop-why.ensures.seat c.read_loop-why.ensures.reads c.in-Live.ensures.side (subst (λ s. HasEnded s c.end.result) c.live.ensures c.end.ensures.end)
