use Rattle.cb_crew.proofs.Settling.{settled_by}
use Rattle.cb_crew.proofs.Ticks.{unticked_told}
use Rattle.cb_crew.proofs.finish.settle_ended.Goals as goal

pub returns-clause-settled : goal.returns-clause-settled
returns-clause-settled g c = settled_by _ _ _ _ _ _ _ _ _ _ _ _ c.note.ensures c.learn.ensures c.serve_all.ensures.served c.note-2.ensures c.learn-2.ensures c.reached.ensures.line c.reached.ensures.ended c.served.ensures.given

pub returns-clause-ticks : goal.returns-clause-ticks
returns-clause-ticks g c = unticked_told g.W.Work.ticked _ _ _ _ c.note.result c.learn.ensures c.serve_all.ensures.ticks c.note-2.ensures.1
