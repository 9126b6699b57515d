use Rattle.std.proofs.Common.{rules}
use Rattle.cb_hall.proofs.Leading.{journal_more}
use Rattle.cb_hall.proofs.journal.Journal.note.Goals as goal

pub invariant_of-self-2 : goal.invariant_of-self-2
invariant_of-self-2 c =
    journal_more c.self.inside.base c.self.inside.latest c.apply.new.self c.self.inside.entries.items c.push_reserved.new.self.items c.args.entry c.in_ok-told.told c.self.inside.weight
    c.saturating_add-weight.result c.weight.result c.self.invariant c.in_ok-told.ensures.ok (search rules) (search rules) c.weight.ensures c.saturating_add-weight.ensures c.if-weight-gt-JOURNAL_WEIGHT.false
    (search rules)
