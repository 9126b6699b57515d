use Rattle.std.proofs.Common.{Option, inr, refl, subst, sym, ap, ◌∙◌}
use Rattle.cb_base.specs.declared.fault.Fault.{Fault}
use Rattle.cb_wire.specs.Stream.{Stream}
use Rattle.cb_peer_state.specs.State.{is_closed}
use Rattle.cb_session.specs.Serving.{said}
use Rattle.cb_session.proofs.Accounts.{open_kept}
use Rattle.cb_session.proofs.Inputs.{lacked_some, no_fault, pieced_broken, pieced_refused, pieced_took, settled_lost}
use Rattle.cb_session.proofs.hearing.hear_piece.Goals as goal

pub returns-then-is_closed-clause-pieced : goal.returns-then-is_closed-clause-pieced
returns-then-is_closed-clause-pieced g c =
    λ from bytes items s settled.
    let closed = ap is_closed (sym c.state.ensures) ∙ sym c.is_closed.ensures ∙ c.if-is_closed.true in
    pieced_took g.H.Oracle.told g.H.Oracle.refused from _ _ c.feed.new.self items _ c.in-Ok.field-0.fault c.in-Ok.ensures.fault (c.in-Ok.ensures.stream bytes items s) (c.give_all.ensures.took from (said items) settled)
    (λ h. absurd (let clash = sym h ∙ closed in cc))

pub returns-in-None-clause-pieced : goal.returns-in-None-clause-pieced
returns-in-None-clause-pieced g c =
    λ from bytes items s settled.
    pieced_took g.H.Oracle.told g.H.Oracle.refused from _ _ c.feed.new.self items _ c.in-Ok.field-0.fault c.in-Ok.ensures.fault (c.in-Ok.ensures.stream bytes items s) (c.give_all.ensures.took from (said items) settled)
    (λ h. c.in-None.is)

pub returns-else-is_closed-clause-pieced : goal.returns-else-is_closed-clause-pieced
returns-else-is_closed-clause-pieced g c =
    λ from bytes items s settled.
    let going = ap is_closed (sym c.state.ensures) ∙ sym c.is_closed.ensures ∙ c.if-is_closed.false in
    let t = c.give_all.ensures.took from (said items) settled in
    pieced_broken g.H.Oracle.told g.H.Oracle.refused from _ _ _ c.feed.new.self items _ c.in-Some.why (sym c.in-Some.is ∙ c.in-Ok.ensures.fault) (c.in-Ok.ensures.stream bytes items s) t going (c.give.ensures.ended refl) (c.give.ensures.gave from _ (open_kept g.H.Oracle.told g.H.Oracle.refused from _ _ t.unkept going t.settled))

pub returns-in-Err-clause-pieced : goal.returns-in-Err-clause-pieced
returns-in-Err-clause-pieced g c =
    λ from bytes items s settled.
    rw (c.lose.ensures.hall, c.lose.ensures.badge, c.lose.ensures.sink, c.lose.ensures.written)
    (pieced_refused g.H.Oracle.told g.H.Oracle.refused from _ bytes c.args.piece.now c.args.assembler.now.rest c.feed.new.self items
    (subst (λ (f : Option Fault). Stream bytes items c.args.assembler.now.rest f) (no_fault c.args.assembler.now.fault _ _ c.feed.ensures.broken c.in-Err.is) s) (lacked_some _ _ c.args.piece.now c.in-Err.is c.feed.ensures.memory c.feed.ensures.paid) c.lose.ensures.closed
    (settled_lost g.H.Oracle.told g.H.Oracle.refused from _ _ settled.sent.missing _ (c.lose.ensures.accounts from (said items) settled.sent.missing settled.sent.lost _ _ _ _ _ _ (λ h. absurd cc) (λ h. inr refl) settled.sent.accounts) c.lose.ensures.closed))
