use Rattle.std.proofs.Common.{◌≡◌, ◌↔◌, take}
use Rattle.cb_rpc_serve.proofs.password.differing_bits.Given as goal

-- the bits are none as long as both texts go alike
abbrev pub invariant-loop-place : goal.invariant-loop-place
invariant-loop-place l = (l.bits ≡ 0) ↔ (take l.place l.first ≡ take l.place l.second)
