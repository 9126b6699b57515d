use Rattle.std.proofs.Common.{[], ◌∷◌, ◌++◌, ap, ◌∙◌, arith}
use Rattle.cb_crew.proofs.SystemLemmas.{numbers_more}
use Rattle.cb_crew.proofs.system.full_ring.Goals as goal

pub loop-peer-preserved : goal.loop-peer-preserved
loop-peer-preserved c = record {
  items = c.in_ok-push_back.ensures.items ∙ (ap (λ ps. ps ++ c.loop-peer.peer ∷ []) c.loop-peer.invariant.items ∙ numbers_more c.loop-peer.peer);
  room = omega arith;
}
