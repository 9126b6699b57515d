use Rattle.std.proofs.Common.{◌++◌, ap, refl, sym, ◌∙◌}
use Rattle.cb_wire.specs.Stream.{texts}
use Rattle.cb_peer_state.specs.State.{is_closed}
use Rattle.cb_trace.proofs.Keeping.{grown_keeps}
use Rattle.cb_session.specs.Conversation.{input_in}
use Rattle.cb_session.proofs.Accounts.{asks_first, ended_more, may_ask, not_both}
use Rattle.cb_session.proofs.Standing.{stands_ended, stands_on}
use Rattle.cb_session.proofs.conversation.Conversation.begin.Goals as goal

pub returns-then-is_closed-clause-stands : goal.returns-then-is_closed-clause-stands
returns-then-is_closed-clause-stands g c =
    let closed = ap is_closed (sym c.state.ensures) ∙ sym c.is_closed.ensures ∙ c.if-is_closed.true in
    λ from inputs s.
    stands_ended g.H.Oracle.told g.H.Oracle.refused (record { none = g.met.H.Oracle.told_none; next = g.met.H.Oracle.told_then; stays = g.met.H.Oracle.full_stays }) from c.args.self.now.trace.now c.step-sent.new.self c.args.self.now.hall.now c.args.self.now.badge.now _ _ _ inputs _ c.args.event _ _ c.requires.going c.requires.begins c.step-sent.ensures closed s

pub returns-then-is_closed-clause-none : goal.returns-then-is_closed-clause-none
returns-then-is_closed-clause-none g c =
    let closed = ap is_closed (sym c.state.ensures) ∙ sym c.is_closed.ensures ∙ c.if-is_closed.true in
    λ going. not_both _ going closed

pub follow_up-requires-clause-stands : goal.follow_up-requires-clause-stands
follow_up-requires-clause-stands g c =
    may_ask c.args.self.now.trace.now.session c.step-sent.new.self.session c.step-sent.new.self _ c.step-sent.ensures.stands (λ going. refl)

pub returns-clause-heeds : goal.returns-clause-heeds
returns-clause-heeds g c = λ h. c.follow_up.ensures.heeds (λ _. h c.requires.going)

pub returns-clause-ended : goal.returns-clause-ended
returns-clause-ended g c =
    let going = ap is_closed (sym c.state.ensures) ∙ sym c.is_closed.ensures ∙ c.if-is_closed.false in
    λ ends. not_both _ going (ended_more c.args.self.now.trace.now c.step-sent.new.self _ c.requires.going c.step-sent.ensures.grows ends)

pub returns-clause-stands : goal.returns-clause-stands
returns-clause-stands g c =
    λ from inputs s.
    stands_on g.H.Oracle.told g.H.Oracle.refused (record { none = g.met.H.Oracle.told_none; next = g.met.H.Oracle.told_then; stays = g.met.H.Oracle.full_stays }) from c.args.self.now.trace.now c.step-sent.new.self c.args.self.now.hall.now c.args.self.now.badge.now _ _ _ _ inputs _ _ c.args.event _ _ c.requires.going c.requires.begins c.step-sent.ensures (ap texts c.new.ensures.items)
    (λ o before u.
    c.follow_up.ensures.settled o (inputs ++ input_in c.args.event) (asks_first c.args.self.now.trace.now c.step-sent.new.self _ (s.answered c.requires.going) c.step-sent.ensures.stands) before u) s

pub returns-then-is_closed-clause-keeps : goal.returns-then-is_closed-clause-keeps
returns-then-is_closed-clause-keeps g c = grown_keeps c.args.self.now.trace.now c.step-sent.new.self _ c.step-sent.ensures.grows

pub returns-clause-keeps : goal.returns-clause-keeps
returns-clause-keeps g c = λ keeps. c.follow_up.ensures.keeps (grown_keeps c.args.self.now.trace.now c.step-sent.new.self _ c.step-sent.ensures.grows keeps)
