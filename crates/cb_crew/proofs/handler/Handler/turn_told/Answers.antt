use Rattle.cb_crew.proofs.Turns.{claimed_is, heard_counts, heard_is, heard_ticked, note_is, turn_ticks}
use Rattle.cb_crew.proofs.handler.Handler.turn_told.Goals as goal

pub complete-requires-clause-desk : goal.complete-requires-clause-desk
complete-requires-clause-desk g c = heard_is g.W.Work.label g.W.Work.given g.W.Work.is_closed c.begin.new.self.hand c.in-Ok.desk c.hear-back.new.desk _ _ _ c.hear-back.ensures (claimed_is g.W.Work.label g.W.Work.given g.W.Work.is_closed c.args.self.now.hand c.begin.new.self.hand c.in-Ok.desk c.in-Ok.ensures.begins.0)

pub returns-in-Ok-clause-ticks : goal.returns-in-Ok-clause-ticks
returns-in-Ok-clause-ticks g c =
    turn_ticks g.W.Work.label g.W.Work.given g.W.Work.ticked g.W.Work.is_closed c.args.self.now.hand c.begin.new.self.hand c.complete.new.self.hand c.in-Ok.desk c.complete.result c.in-Ok.ensures.begins.0
    (heard_ticked g.W.Work.label g.W.Work.given g.W.Work.ticked g.W.Work.is_closed c.begin.new.self.hand c.complete.new.self.hand c.in-Ok.desk c.hear-back.new.desk _ _ _ c.hear-back.ensures c.complete.ensures.ticks)

pub hear-back-requires : goal.hear-back-requires
hear-back-requires g c = note_is c.args.self.now.hand.names _ c.args.peer c.args.note c.in-Ok.ensures.begins.1 c.requires.note

pub returns-in-Ok-clause-counts : goal.returns-in-Ok-clause-counts
returns-in-Ok-clause-counts g c = heard_counts g.W.Work.label g.W.Work.given g.W.Work.is_closed c.args.self.now.hand c.begin.new.self.hand c.complete.new.self.hand c.in-Ok.desk c.hear-back.new.desk _ c.args.budget _ _ c.complete.result c.hear-back.ensures c.in-Ok.ensures.begins.0 c.complete.ensures.serves
