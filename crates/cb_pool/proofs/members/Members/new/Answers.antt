use Rattle.cb_pool.proofs.Named.{members_none}
use Rattle.cb_pool.proofs.members.Members.new.Goals as goal

pub invariant_of-result : goal.invariant_of-result
invariant_of-result c = members_none c.with_hasher.result.entries c.with_hasher-2.result.entries c.with_hasher.ensures.empty c.with_hasher-2.ensures.empty
