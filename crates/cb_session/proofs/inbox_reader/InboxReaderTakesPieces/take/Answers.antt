use Rattle.std.proofs.Common.{refl, sym, ◌∙◌}
use Rattle.std.proofs.lemmas.Result.{err_from_is_err_and}
use Rattle.cb_session.proofs.Pieces.{ended_broken, ended_full, ended_halted, ended_refused, err_then, ok_then, put_more}
use Rattle.cb_session.proofs.inbox_reader.InboxReaderTakesPieces.take.Goals as goal

pub returns-in_default-clause-ended : goal.returns-in_default-clause-ended
returns-in_default-clause-ended g c =
    λ from bytes t.
    (t.0, t.1, g.met.T.Seat.same_then _ _ _ t.2 c.put_last.ensures.seat, ended_refused bytes c.args.piece.now _ _ _ _ _ t.3 c.requires.ready.2 c.requires.some c.requires.limit c.put_last.ensures.closed)

pub returns-in_err-put_items-clause-ended : goal.returns-in_err-put_items-clause-ended
returns-in_err-put_items-clause-ended g c =
    let p = err_from_is_err_and c.from_residual.result c.from_residual.ensures.1 in
    rw (p.1, p.2)
    (λ from bytes t.
    (t.0, t.1, g.met.T.Seat.same_then _ _ _ t.2 c.put_items.ensures.seat, ended_halted bytes c.args.piece.now c.in-Ok.heard.items.items _ _ _ _ c.hear.new.assembler _ t.3 (c.in-Ok.ensures.stream bytes t.3.items t.3.stream) c.in_err-put_items.ensures.halted))

pub returns-in-None-clause-ready : goal.returns-in-None-clause-ready
returns-in-None-clause-ready g c =
    ok_then c.may_put.result c.may_put.ensures.going (λ going. (c.in_ok-put_items.ensures.put.live, going, sym c.in-Ok.ensures.fault ∙ c.in-None.is))

pub returns-in-None-clause-took : goal.returns-in-None-clause-took
returns-in-None-clause-took g c =
    ok_then c.may_put.result c.may_put.ensures.going
    (λ going from bytes t.
    (t.0, t.1, g.met.T.Seat.same_then _ _ _ t.2 c.put_items.ensures.seat, put_more bytes c.args.piece.now c.in-Ok.heard.items.items _ _ _ _ _ c.hear.new.assembler t.3 (c.in-Ok.ensures.stream bytes t.3.items t.3.stream) c.in_ok-put_items.ensures.put refl refl going))

pub returns-in-None-clause-ended : goal.returns-in-None-clause-ended
returns-in-None-clause-ended g c =
    err_then c.may_put.result c.may_put.ensures.halted
    (λ end halt from bytes t.
    (t.0, t.1, g.met.T.Seat.same_then _ _ _ t.2 c.put_items.ensures.seat, ended_full bytes c.args.piece.now c.in-Ok.heard.items.items _ _ _ _ _ c.hear.new.assembler end t.3 (c.in-Ok.ensures.stream bytes t.3.items t.3.stream) c.in_ok-put_items.ensures.put refl refl halt))

pub returns-in-Some-clause-ended : goal.returns-in-Some-clause-ended
returns-in-Some-clause-ended g c =
    λ from bytes t.
    (t.0, t.1, g.met.T.Seat.same_then _ _ _ t.2 (g.met.T.Seat.same_then _ _ _ c.put_items.ensures.seat c.put_last-in-Some.ensures.seat), ended_broken bytes c.args.piece.now c.in-Ok.heard.items.items c.in-Some.why _ _ _ _ _ c.hear.new.assembler _ t.3 (c.in-Ok.ensures.stream bytes t.3.items t.3.stream) (sym c.in-Ok.ensures.fault ∙ c.in-Some.is) c.in_ok-put_items.ensures.put c.put_last-in-Some.ensures.closed)
