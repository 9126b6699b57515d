use Rattle.std.proofs.Common.{List, ap, length, refl, subst}
use Rattle.cb_base.specs.declared.hash.Hash256.{Hash256}
use Rattle.cb_net_node.specs.Arrivals.{AreArrivals}
use Rattle.cb_net_node.specs.declared.node.SimulatedNode.{SimulatedNode}
use Rattle.cb_net.proofs.world.World.result.Goals as goal

pub returns-clause-told : goal.returns-clause-told
returns-clause-told c = record {
  number_is = refl;
  miner_is = refl;
  transactions = ap (λ (list : List Hash256). length list) c.txids.ensures;
  arrivals = c.in_ok-arrivals.arrivals;
  are = subst (λ (nodes : List SimulatedNode). AreArrivals c.args.mined nodes c.in_ok-arrivals.arrivals) c.as_slice.ensures.value c.in_ok-arrivals.ensures.exact;
  half = c.by.ensures;
  most = c.by-2.ensures;
  all = c.by-3.ensures;
  reached = c.reached.ensures;
  once = refl;
  asked = refl;
  whole = refl;
  traffic = refl;
}
