use Rattle.std.proofs.Common.{rules}
use Rattle.cb_hall.proofs.Leading.{journal_anew}
use Rattle.cb_hall.proofs.journal.Journal.begin_with.Goals as goal

pub invariant_of-self-2 : goal.invariant_of-self-2
invariant_of-self-2 c =
    journal_anew c.self.inside.base c.self.inside.latest c.apply_to_one.new.replica c.in_ok-base.base c.self.inside.entries.items c.push_reserved.new.self.items c.args.entry c.in_ok-base.told
    c.self.inside.weight c.weight-weight.result c.self.invariant c.in_ok-base.ensures.ok (search rules) c.in_ok-base.ensures.before (search rules) c.weight-weight.ensures
