use Rattle.cb_crew.specs.Unmanned.{AreLines}
use Rattle.cb_crew.proofs.new_crew.Lines.new.Given as goal

abbrev pub invariant-loop-peer : goal.invariant-loop-peer
invariant-loop-peer g l = AreLines l.peer l.capacity l.lines.inboxes.items l.lines.readers.items l.lines.vacancies.items
