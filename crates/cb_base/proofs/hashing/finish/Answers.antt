use Rattle.std.proofs.Common.{refl, arith}
use Rattle.cb_base.specs.Lanes.{lane}
use Rattle.cb_base.proofs.Padded.{twice}
use Rattle.cb_base.proofs.hashing.finish.Goals as goal

pub returns : goal.returns
returns c m0 m1 m2 m3 e0 e1 e2 e3 =
    rw (
      twice m0 (lane 0 c.hash_again-again.result) c.digest-first.result (c.hash_again-again.ensures 0 (omega arith) m0 e0) c.digest-first.ensures,
      twice m1 (lane 1 c.hash_again-again.result) c.digest-second.result (c.hash_again-again.ensures 1 (omega arith) m1 e1) c.digest-second.ensures,
      twice m2 (lane 2 c.hash_again-again.result) c.digest-third.result (c.hash_again-again.ensures 2 (omega arith) m2 e2) c.digest-third.ensures,
      twice m3 (lane 3 c.hash_again-again.result) c.digest-fourth.result (c.hash_again-again.ensures 3 (omega arith) m3 e3) c.digest-fourth.ensures,
    ) refl
