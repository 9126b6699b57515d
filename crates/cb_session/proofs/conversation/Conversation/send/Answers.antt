use Rattle.std.proofs.Common.{[], ◌++◌, ap, false, inl, refl, sym, ◌∙◌}
use Rattle.cb_wire.specs.Stream.{texts}
use Rattle.cb_session.proofs.Accounts.{accounts_wrote, front_some, sent_lost, sent_ok, whole_missing}
use Rattle.cb_session.proofs.conversation.Conversation.send.Goals as goal

pub returns-in-Ok-clause-accounts : goal.returns-in-Ok-clause-accounts
returns-in-Ok-clause-accounts g c =
    λ from inputs following later hall badge u same before.
    sent_ok g.H.Oracle.told g.H.Oracle.refused from _ inputs following later u.lost
    (accounts_wrote g.H.Oracle.told g.H.Oracle.refused from c.args.self.now.trace.now hall badge _ _ _ _ c.args.self.now.written _ c.in-Ok.taken inputs _ [] following u.lost (λ closed. ap texts (c.requires.silent closed)) c.in-Ok.ensures.ok c.saturating_add-self.ensures c.write_out.ensures.stays u.accounts)
    (sym (same refl)) (λ h. before (sym c.in-Ok.ensures.unmarked ∙ h))

pub returns-in-Err-clause-accounts : goal.returns-in-Err-clause-accounts
returns-in-Err-clause-accounts g c =
    λ from inputs following later hall badge u same before.
    let part = c.in-Err.ensures.err in
    rw (c.lose.ensures.sink, c.lose.ensures.written) (sent_lost g.H.Oracle.told g.H.Oracle.refused from _ inputs (part.missing ++ following) later false
    (c.lose.ensures.accounts from inputs (part.missing ++ following) u.lost false hall badge _ _ _ (λ h. c.in-Err.ensures.failed (c.lost_by.ensures.sink h))
    (λ h. inl (front_some part.missing following (whole_missing c.args.messages.items part.missing (part.whole (c.lost_by.ensures.lack h)))))
    (accounts_wrote g.H.Oracle.told g.H.Oracle.refused from c.args.self.now.trace.now hall badge _ _ _ _ c.args.self.now.written _ c.in-Err.end.written inputs _ part.missing following u.lost (λ closed. ap texts (c.requires.silent closed)) part.wrote c.saturating_add-self-in-Err.ensures c.write_out.ensures.stays u.accounts)))
