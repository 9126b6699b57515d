use Rattle.cb_ledger.proofs.Changes.{changed_same}
use Rattle.cb_pool.proofs.Named.{members_kept}
use Rattle.cb_pool.proofs.members.Members.reserve.Goals as goal

pub invariant_of-self-2 : goal.invariant_of-self-2
invariant_of-self-2 c =
    members_kept c.self.inside.entries.entries c.reserve.new.self.entries c.self.inside.coins.entries c.reserve-2.new.self.entries c.self.invariant c.reserve.ensures.entries
    (changed_same c.self.inside.coins.entries c.reserve-2.new.self.entries c.reserve-2.ensures.entries.2)
