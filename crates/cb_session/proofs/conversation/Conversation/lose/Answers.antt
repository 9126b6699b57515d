use Rattle.std.proofs.Common.{inl, inr, true}
use Rattle.cb_trace.proofs.Keeping.{grown_keeps}
use Rattle.cb_session.proofs.Accounts.{accounts_lost, accounts_ran, ended_more, rest_open}
use Rattle.cb_session.proofs.Standing.{stands_lost, stands_starved}
use Rattle.cb_session.proofs.conversation.Conversation.lose.Goals as goal

pub returns-then-not-ready-clause-accounts : goal.returns-then-not-ready-clause-accounts
returns-then-not-ready-clause-accounts g c =
    λ from inputs missing lost unkept hall badge held failed written write lacked a.
    (accounts_ran g.H.Oracle.told g.H.Oracle.refused (record { none = g.met.H.Oracle.told_none; next = g.met.H.Oracle.told_then; stays = g.met.H.Oracle.full_stays }) from c.args.self.now.trace.now c.ready.new.self hall badge held failed written inputs missing lost unkept c.requires.going c.if-not-ready.ensures.readied a).accounts

pub returns-clause-accounts : goal.returns-clause-accounts
returns-clause-accounts g c =
    λ from inputs missing lost unkept hall badge held failed written write lacked a.
    (accounts_lost g.H.Oracle.told g.H.Oracle.refused (record { none = g.met.H.Oracle.told_none; next = g.met.H.Oracle.told_then; stays = g.met.H.Oracle.full_stays }) from c.args.self.now.trace.now c.ready.new.self c.step-silent.new.self hall badge held failed written inputs missing lost unkept _ c.requires.going c.if-not-ready.ensures.readied.rests.same c.step-silent.ensures.grows c.requires.loss write
    (λ e. elim (lacked e) [ inl some ↦ inl (inr (inr some)) | inr came ↦ inr came ]) a).accounts

pub returns-then-not-ready-clause-stands : goal.returns-then-not-ready-clause-stands
returns-then-not-ready-clause-stands g c =
    λ from inputs held_back plain s.
    stands_starved g.H.Oracle.told g.H.Oracle.refused (record { none = g.met.H.Oracle.told_none; next = g.met.H.Oracle.told_then; stays = g.met.H.Oracle.full_stays }) from c.args.self.now.trace.now c.ready.new.self c.args.self.now.hall.now c.args.self.now.badge.now _ _ _ inputs held_back true c.requires.going c.if-not-ready.ensures.readied s

pub returns-clause-stands : goal.returns-clause-stands
returns-clause-stands g c =
    λ from inputs held_back plain s.
    stands_lost g.H.Oracle.told g.H.Oracle.refused (record { none = g.met.H.Oracle.told_none; next = g.met.H.Oracle.told_then; stays = g.met.H.Oracle.full_stays }) from c.args.self.now.trace.now c.ready.new.self c.step-silent.new.self c.args.self.now.hall.now c.args.self.now.badge.now _ _ _ inputs held_back c.args.event _ _ c.requires.going c.if-not-ready.ensures.readied.rests.same c.step-silent.ensures c.requires.loss plain s

pub returns-clause-closed : goal.returns-clause-closed
returns-clause-closed g c =
    ended_more c.ready.new.self c.step-silent.new.self _ (rest_open c.args.self.now.trace.now c.ready.new.self c.if-not-ready.ensures.readied.rests.same c.requires.going) c.step-silent.ensures.grows c.requires.loss.ends

pub returns-clause-keeps : goal.returns-clause-keeps
returns-clause-keeps g c = λ keeps. grown_keeps c.ready.new.self c.step-silent.new.self _ c.step-silent.ensures.grows (c.ready.ensures.keeps keeps)
