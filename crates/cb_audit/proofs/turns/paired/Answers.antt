use Rattle.cb_audit.specs.Turns.{answers_in, paired}
use Rattle.cb_audit.proofs.Pairing.{paired_end}
use Rattle.cb_audit.proofs.turns.paired.Goals as goal

pub returns-clause-exact : goal.returns-clause-exact
returns-clause-exact c =
    paired_end c.loop-entry.turns.items (paired c.args.asked.items (answers_in c.args.entries.now)) c.loop-entry.questions.rest.items c.args.entries.now c.loop-entry.entry-index c.loop-entry.invariant c.loop-entry-test.false
