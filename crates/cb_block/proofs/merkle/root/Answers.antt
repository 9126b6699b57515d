use Rattle.std.proofs.Common.{arith}
use Rattle.cb_block.proofs.Climbing.{one_is_root}
use Rattle.cb_block.proofs.merkle.root.Goals as goal

pub returns-in-len1-clause-root : goal.returns-in-len1-clause-root
returns-in-len1-clause-root c = one_is_root c.args.hashes.now _ (omega (arith, c.in-len1.len_at_least)) (omega (arith, c.in-len1.len_below))
