use Rattle.std.proofs.Common.{refl, sym, ap, ◌∙◌}
use Rattle.cb_peer_state.specs.Session.{openings}
use Rattle.cb_work.proofs.Starting.{fresh_first, keeps_first}
use Rattle.cb_work.proofs.peer_work.PeerWork.new.Goals as goal

pub invariant_of-result : goal.invariant_of-result
invariant_of-result g c =
    keeps_first g.H.Oracle.told g.H.Oracle.refused g.S.Sink.contents g.S.Sink.has_failed g.F.Flags.looks g.F.Flags.is_stopped
    (record { none = g.met.H.Oracle.told_none; next = g.met.H.Oracle.told_then; stays = g.met.H.Oracle.full_stays }) _ c.requires.slot
    (record {
      stands = c.in-Ok.ensures.history;
      unsent = c.in-Ok.ensures.messages ∙ ap openings (sym c.in-Ok.ensures.settings);
      none = c.requires.badge.0;
      unmarked = c.requires.badge.1;
      unwritten = refl;
      empty = c.requires.empty;
      unfailed = c.requires.unfailed;
      unlooked = c.requires.looks;
    })

pub returns-in-Ok-clause-fresh : goal.returns-in-Ok-clause-fresh
returns-in-Ok-clause-fresh g c =
    fresh_first g.H.Oracle.told g.H.Oracle.refused g.S.Sink.contents g.S.Sink.has_failed g.F.Flags.looks
    (record { none = g.met.H.Oracle.told_none; next = g.met.H.Oracle.told_then; stays = g.met.H.Oracle.full_stays }) _
    (record {
      stands = c.in-Ok.ensures.history;
      unsent = c.in-Ok.ensures.messages ∙ ap openings (sym c.in-Ok.ensures.settings);
      none = c.requires.badge.0;
      unmarked = c.requires.badge.1;
      unwritten = refl;
      empty = c.requires.empty;
      unfailed = c.requires.unfailed;
      unlooked = c.requires.looks;
    })
