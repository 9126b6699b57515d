use Rattle.std.proofs.Common.{drop}
use Rattle.cb_audit.specs.Turns.{answers_in, paired}
use Rattle.cb_audit.proofs.Pairing.{IsPaired}
use Rattle.cb_audit.proofs.turns.paired.Given as goal

-- what was paired, and what is still to be, are all
abbrev pub invariant-loop-entry : goal.invariant-loop-entry
invariant-loop-entry l = IsPaired l.turns.items l.questions.rest.items (drop l.entry-index l.entries) (paired l.fn.asked.items (answers_in l.entries))
