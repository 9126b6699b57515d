use Rattle.std.proofs.Common.{[], refl, sym, ap, ◌∙◌}
use Rattle.cb_base.proofs.Known.{Consumes-nothing, Keeps-same}
use Rattle.cb_base.specs.declared.read_end.ReadEnd.TheVariants as ends
use Rattle.cb_peer_state.specs.State.{is_closed}
use Rattle.cb_session.proofs.Ending.{serves_ended, serves_stopped}
use Rattle.cb_session.proofs.Inputs.{heard_none, pieced_none}
use Rattle.cb_session.proofs.hearing.Hearing.hear_all.Goals as goal

pub returns-then-is_closed-clause-serves : goal.returns-then-is_closed-clause-serves
returns-then-is_closed-clause-serves g c =
    let closed = ap is_closed (sym c.state.ensures) ∙ sym c.is_closed.ensures ∙ c.if-is_closed.true in
    λ from s.
    serves_stopped g.H.Oracle.told g.H.Oracle.refused from _ _ _ _ ends.Stopped [] c.args.self.now.assembler.now refl closed (Consumes-nothing _ _ (Keeps-same _)) (pieced_none g.H.Oracle.told g.H.Oracle.refused from _ _ c.requires.new s)

pub read_pieces-requires-clause-start : goal.read_pieces-requires-clause-start
read_pieces-requires-clause-start g c =
    heard_none g.W.Sink.contents g.W.Sink.has_failed g.W.Sink.heeds_failure g.met.W.Sink.heeds_none g.H.Oracle.told g.H.Oracle.refused c.args.self.now.conversation c.args.self.now.assembler.now c.requires.new

pub returns-in-Ok-clause-ends : goal.returns-in-Ok-clause-ends
returns-in-Ok-clause-ends g c =
    let before = c.in-Ok.ensures.took.ends in
    let after = c.give.ensures.ends in
    (after.0 ∙ before.0, after.1 ∙ before.1, after.2 ∙ before.2, after.3 ∙ before.3)

pub returns-in-Ok-clause-heeds : goal.returns-in-Ok-clause-heeds
returns-in-Ok-clause-heeds g c =
    λ w.
    let before = c.in-Ok.ensures.took.heeds w in
    let after = c.give.ensures.heeds before.1 in
    (g.met.W.Sink.heeds_then _ _ _ before.0 after.0, after.1)

pub returns-in-Ok-clause-serves : goal.returns-in-Ok-clause-serves
returns-in-Ok-clause-serves g c =
    λ from s.
    serves_ended g.H.Oracle.told g.H.Oracle.refused from _ _ _ _ _ _ c.in-Ok.why _ _ c.in-Ok.ensures.source c.in-Ok.ensures.ready c.read_pieces.ensures.consumed (c.in-Ok.ensures.took.pieced from s) (λ inputs t. c.give.ensures.gave from inputs t) (c.give.ensures.ended refl)

pub returns-in-Err-clause-ends : goal.returns-in-Err-clause-ends
returns-in-Err-clause-ends g c = c.in-Err.ensures.ended.2.ends

pub returns-in-Err-clause-heeds : goal.returns-in-Err-clause-heeds
returns-in-Err-clause-heeds g c = c.in-Err.ensures.ended.2.heeds

pub returns-in-Err-clause-serves : goal.returns-in-Err-clause-serves
returns-in-Err-clause-serves g c =
    λ from s.
    let e = c.in-Err.ensures.ended in
    serves_stopped g.H.Oracle.told g.H.Oracle.refused from _ _ _ _ c.in-Err.end _ _ e.0 e.1 c.read_pieces.ensures.consumed (e.2.pieced from s)
