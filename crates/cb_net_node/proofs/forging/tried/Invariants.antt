use Rattle.std.proofs.Common.{◌≡◌, ◌<◌, ℕ}
use Rattle.cb_net_node.specs.Lies.{Works}
use Rattle.cb_net_node.proofs.forging.tried.Given as goal

-- no nonce so far is what is wanted
abbrev pub invariant-loop-nonce : goal.invariant-loop-nonce
invariant-loop-nonce l = record {
  others : l.made ≡ record l.fn.header { nonce = l.made.nonce };
  none : (nonce : ℕ) → nonce < l.nonce → ¬ Works l.fn.work (record l.fn.header { nonce = nonce });
}
