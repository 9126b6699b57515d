use Rattle.std.proofs.Common.{◌++◌, ◌∷◌, [], ap, ◌∙◌}
use Rattle.cb_work.specs.PeerWork.{label_of}
use Rattle.cb_work.proofs.Ticking.{ticked_on}
use Rattle.cb_work.proofs.peer_work.PeerWorkWork.step.Goals as goal

pub returns-clause-given : goal.returns-clause-given
returns-clause-given g c = λ items given. (given.0, c.count.ensures.serves _ _ (c.give.ensures.serves items given.0 (c.note.ensures.serves items given.0 given.1)))

pub returns-clause-label : goal.returns-clause-label
returns-clause-label g c = ap label_of (c.count.ensures.same.connection ∙ c.give.ensures.same.connection ∙ c.note.ensures.same.connection)

pub returns-clause-whole : goal.returns-clause-whole
returns-clause-whole g c = λ keeps. c.count.ensures.keeps (c.give.ensures.keeps (c.note.ensures.keeps keeps))

pub returns-clause-ticked : goal.returns-clause-ticked
returns-clause-ticked g c =
    λ at t.
    ticked_on g.H.Oracle.told g.H.Oracle.refused g.S.Sink.contents g.S.Sink.has_failed g.F.Flags.looks c.args.self.now c.count.new.self at (λ items. items ++ c.args.item ∷ []) c.requires.open
    (λ answers looked. c.count.ensures.same.looked answers (c.give.ensures.same.looked answers (c.note.ensures.same.looked answers looked)))
    (λ items beats s. c.count.ensures.serves _ _ (c.give.ensures.serves items beats (c.note.ensures.serves items beats s))) t
