use Rattle.cb_hall.proofs.Leading.{journal_new}
use Rattle.cb_hall.proofs.journal.Journal.with_seed.Goals as goal

pub invariant_of-result : goal.invariant_of-result
invariant_of-result c = journal_new c.in_ok-with_seed.field-0 c.in_ok-with_seed-2.field-0 c.new.result.items c.in_ok-with_seed.ensures.opening c.new.ensures.items c.in_ok-with_seed-2.ensures.opening
