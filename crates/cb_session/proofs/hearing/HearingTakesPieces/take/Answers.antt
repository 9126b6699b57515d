use Rattle.std.proofs.Common.{refl, sym, ap, ◌∙◌}
use Rattle.cb_peer_state.specs.State.{is_closed}
use Rattle.cb_session.proofs.Inputs.{heard_more}
use Rattle.cb_session.proofs.hearing.HearingTakesPieces.take.Goals as goal

pub returns-then-is_closed-clause-ended : goal.returns-then-is_closed-clause-ended
returns-then-is_closed-clause-ended g c =
    let closed = ap is_closed (sym c.state.ensures) ∙ sym c.is_closed.ensures ∙ c.if-is_closed.true in
    λ from bytes t.
    (refl, closed, heard_more g.W.Sink.contents g.W.Sink.has_failed g.W.Sink.heeds_failure g.met.W.Sink.heeds_then g.H.Oracle.told g.H.Oracle.refused _ _ _ bytes c.args.piece.now _ _ c.requires.ready t c.hear_piece.ensures.ends c.hear_piece.ensures.heeds (λ origin bytes items s settled. c.hear_piece.ensures.pieced origin bytes items s settled))

pub returns-clause-took : goal.returns-clause-took
returns-clause-took g c =
    λ from bytes t.
    heard_more g.W.Sink.contents g.W.Sink.has_failed g.W.Sink.heeds_failure g.met.W.Sink.heeds_then g.H.Oracle.told g.H.Oracle.refused _ _ _ bytes c.args.piece.now _ _ c.requires.ready t c.hear_piece.ensures.ends c.hear_piece.ensures.heeds (λ origin bytes items s settled. c.hear_piece.ensures.pieced origin bytes items s settled)
