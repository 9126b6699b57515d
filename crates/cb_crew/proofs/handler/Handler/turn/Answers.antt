use Rattle.cb_crew.proofs.Turns.{claimed_is, turn_counts, turn_ticks}
use Rattle.cb_crew.proofs.handler.Handler.turn.Goals as goal

pub complete-requires-clause-desk : goal.complete-requires-clause-desk
complete-requires-clause-desk g c = claimed_is g.W.Work.label g.W.Work.given g.W.Work.is_closed c.args.self.now.hand c.begin.new.self.hand c.in-Ok.desk c.in-Ok.ensures.begins.0

pub returns-in-Ok-clause-ticks : goal.returns-in-Ok-clause-ticks
returns-in-Ok-clause-ticks g c = turn_ticks g.W.Work.label g.W.Work.given g.W.Work.ticked g.W.Work.is_closed c.args.self.now.hand c.begin.new.self.hand c.complete.new.self.hand c.in-Ok.desk c.complete.result c.in-Ok.ensures.begins.0 c.complete.ensures.ticks

pub returns-in-Ok-clause-counts : goal.returns-in-Ok-clause-counts
returns-in-Ok-clause-counts g c = turn_counts g.W.Work.label g.W.Work.given g.W.Work.is_closed c.args.self.now.hand c.begin.new.self.hand c.complete.new.self.hand c.in-Ok.desk c.args.budget c.complete.result c.in-Ok.ensures.begins.0 c.complete.ensures.serves
