use Rattle.cb_crew.proofs.Settling.{not_full}
use Rattle.cb_crew.proofs.Ticks.{unticked_step, unticked_told}
use Rattle.cb_crew.proofs.finish.settle.Goals as goal

pub unreachable-requires : goal.unreachable-requires
unreachable-requires g c = not_full _ _ _ _ _ _ _ _ _ _ c.note.ensures c.learn.ensures c.serve_all.ensures.served c.note-in-Live.ensures c.learn-in-Live.ensures c.capacity-some.ensures.some c.in-Err.ensures.full.1

pub returns-in-Ok-clause-ticks : goal.returns-in-Ok-clause-ticks
returns-in-Ok-clause-ticks g c = unticked_step g.W.Work.ticked _ _ _ (unticked_told g.W.Work.ticked _ _ _ _ c.note.result c.learn.ensures c.serve_all.ensures.ticks c.note-in-Live.ensures.1) c.settle_ended.ensures.ticks
