use Rattle.std.proofs.Common.{◌≡◌, ◌*◌, length, take}
use Rattle.sha2.specs.Sha256.{digest_bytes}
use Rattle.cb_base.specs.Lanes.{lane}
use Rattle.cb_base.proofs.hashing.digest.Given as goal

abbrev pub invariant-loop-i : goal.invariant-loop-i
invariant-loop-i l = (length l.out ≡ 32) × (take (4 * l.i) l.out ≡ digest_bytes (lane l.k l.state) l.i)
