use Rattle.std.proofs.Common.{refl, inl, inr}
use Rattle.cb_session.proofs.Inputs.{settled_lost}
use Rattle.cb_session.proofs.conversation.Conversation.give_item.Goals as goal

pub returns-in_default-clause-gave : goal.returns-in_default-clause-gave
returns-in_default-clause-gave g c =
    λ from inputs s.
    rw (c.lose.ensures.hall, c.lose.ensures.badge, c.lose.ensures.sink, c.lose.ensures.written)
    (inr record {
      settled = settled_lost g.H.Oracle.told g.H.Oracle.refused from _ inputs s.sent.missing _ (c.lose.ensures.accounts from inputs s.sent.missing s.sent.lost _ _ _ _ _ _ (λ e. absurd cc) (λ e. inr refl) s.sent.accounts) c.lose.ensures.closed;
      closed = c.lose.ensures.closed;
    })

pub returns-clause-gave : goal.returns-clause-gave
returns-clause-gave g c = λ from inputs s. inl (rw (← c.in-Some.ensures) (c.give.ensures.gave from inputs s))
