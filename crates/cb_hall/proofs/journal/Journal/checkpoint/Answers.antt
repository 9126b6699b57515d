use Rattle.cb_hall.proofs.Leading.{journal_fresh}
use Rattle.cb_hall.proofs.journal.Journal.checkpoint.Goals as goal

pub invariant_of-self : goal.invariant_of-self
invariant_of-self c =
    journal_fresh c.self.inside.base c.self.inside.latest c.in_ok-self-inside.field-0 c.self.inside.entries.items c.new.result.items c.self.inside.weight c.self.invariant
    c.in_ok-self-inside.ensures.same c.new.ensures.items
