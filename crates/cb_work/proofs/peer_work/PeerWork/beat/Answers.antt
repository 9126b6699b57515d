use Rattle.std.proofs.Common.{sym, ◌∙◌}
use Rattle.cb_work.proofs.Ticking.{beat_begins, gave_none, gave_one, gave_over, gave_refused}
use Rattle.cb_work.proofs.peer_work.PeerWork.beat.Goals as goal

pub begin-requires-clause-begins : goal.begin-requires-clause-begins
begin-requires-clause-begins g c = beat_begins c.args.event c.requires.beat

pub returns-then-not-due-clause-gave : goal.returns-then-not-due-clause-gave
returns-then-not-due-clause-gave g c = gave_none g.H.Oracle.told g.H.Oracle.refused g.S.Sink.contents g.S.Sink.has_failed _ c.args.due c.args.event c.if-not-due.true

pub returns-then-closed-clause-gave : goal.returns-then-closed-clause-gave
returns-then-closed-clause-gave g c = gave_over g.H.Oracle.told g.H.Oracle.refused g.S.Sink.contents g.S.Sink.has_failed _ _ (sym c.closed.ensures ∙ c.if-closed.true)

pub returns-then-not-prepare-clause-gave : goal.returns-then-not-prepare-clause-gave
returns-then-not-prepare-clause-gave g c =
    gave_refused g.H.Oracle.told g.H.Oracle.refused g.S.Sink.contents g.S.Sink.has_failed _ _ _ (sym c.closed.ensures ∙ c.if-closed.false) (c.prepare.ensures.closed c.if-not-prepare.true) c.prepare.ensures.serves

pub returns-clause-gave : goal.returns-clause-gave
returns-clause-gave g c =
    gave_one g.H.Oracle.told g.H.Oracle.refused g.S.Sink.contents g.S.Sink.has_failed _ _ c.args.due c.args.event c.if-not-due.false c.requires.beat (sym c.closed.ensures ∙ c.if-closed.false)
    (λ items beats s. c.count.ensures.serves _ _ (c.begin.ensures.serves items beats (c.prepare.ensures.serves items beats s)))
