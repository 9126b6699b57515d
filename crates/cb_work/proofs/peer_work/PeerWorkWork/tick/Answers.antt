use Rattle.std.proofs.Common.{◌++◌, length, ap, ◌∙◌}
use Rattle.cb_work.specs.PeerWork.{label_of}
use Rattle.cb_work.proofs.Ticking.{gave_due, ticked_more}
use Rattle.cb_work.proofs.peer_work.PeerWorkWork.tick.Goals as goal

pub returns-clause-label : goal.returns-clause-label
returns-clause-label g c = ap label_of (c.beat-2.ensures.same.connection ∙ c.beat.ensures.same.connection ∙ c.look-due.ensures.connection)

pub returns-clause-given : goal.returns-clause-given
returns-clause-given g c = λ items given.
    let gave =
    gave_due g.H.Oracle.told g.H.Oracle.refused g.S.Sink.contents g.S.Sink.has_failed c.args.self.now c.look-due.new.self c.beat.new.self c.beat-2.new.self c.look-due.result c.look-due.ensures.over c.look-due.ensures.serves c.beat.ensures.gave c.beat-2.ensures.gave in
    (given.0 ++ gave.given, gave.serves items given.0 given.1)

pub returns-clause-ticked : goal.returns-clause-ticked
returns-clause-ticked g c = λ items at given t.
    ticked_more g.H.Oracle.told g.H.Oracle.refused g.S.Sink.contents g.S.Sink.has_failed g.F.Flags.looks c.args.self.now c.beat-2.new.self at (length items) c.look-due.result c.requires
    (λ answers looked. c.beat-2.ensures.same.looked _ (c.beat.ensures.same.looked _ (c.look-due.ensures.looked answers looked)))
    (gave_due g.H.Oracle.told g.H.Oracle.refused g.S.Sink.contents g.S.Sink.has_failed c.args.self.now c.look-due.new.self c.beat.new.self c.beat-2.new.self c.look-due.result c.look-due.ensures.over c.look-due.ensures.serves c.beat.ensures.gave c.beat-2.ensures.gave) t

pub returns-clause-whole : goal.returns-clause-whole
returns-clause-whole g c = λ keeps. c.beat-2.ensures.keeps (c.beat.ensures.keeps (c.look-due.ensures.keeps keeps))
