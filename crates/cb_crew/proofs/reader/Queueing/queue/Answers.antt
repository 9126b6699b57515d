use Rattle.std.proofs.Common.{◌∙◌, ap, sym, subst}
use mir.Val.{bool_byte}
use Rattle.cb_crew.specs.declared.queued.Queued.{Queued}
use Rattle.cb_crew.specs.Seat.{SeatState, MayQueue}
use Rattle.cb_crew.proofs.Moves.{pushes, untaken}
use Rattle.cb_crew.proofs.Seats.{counts_queued}
use Rattle.cb_crew.proofs.reader.Queueing.queue.Goals as goal

pub push_as-requires-clause-rule : goal.push_as-requires-clause-rule
push_as-requires-clause-rule g c =
    let reads = c.self.invariant.is_reader.reads_is in
    (pushes _ _ _ _ _ reads (subst (λ (s : SeatState (Queued g.row.M.Denot g.row.O.Denot)). MayQueue s.queued c.args.mark) (sym c.self.view_is) c.requires.follows) c.requires.fresh, untaken _ _ _ reads)

pub invariant_of-self-2 : goal.invariant_of-self-2
invariant_of-self-2 g c =
    counts_queued _ _ _ _ _ _ c.self.invariant c.in_ok-push_as.ensures.queue c.in_ok-push_as.ensures.rule
    (subst (λ (s : SeatState (Queued g.row.M.Denot g.row.O.Denot)). MayQueue s.queued c.args.mark) (sym c.self.view_is) c.requires.follows) (c.from.ensures ∙ ap bool_byte c.is_open-opens.ensures)
