use Rattle.std.proofs.Common.{drop}
use Rattle.cb_hall.proofs.Leading.{IsAgain}
use Rattle.cb_hall.proofs.journal.Journal.replayed.Given as goal

abbrev pub invariant-loop-entry : goal.invariant-loop-entry
invariant-loop-entry l = IsAgain l.self.base l.self.entries (drop l.entry-index l.entry-items) l.answers.items l.replica l.self.latest
