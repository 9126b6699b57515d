use Rattle.std.proofs.Common.{refl}
use Rattle.std.proofs.lemmas.Result.{on_ok_weaker}
use Rattle.cb_net_node.proofs.joined.Joined.misbehave.Goals as goal

pub returns-in-Forged-clause-ok : goal.returns-in-Forged-clause-ok
returns-in-Forged-clause-ok c =
    rw c.in-Forged.is (on_ok_weaker c.misbehave.result (λ misbehaves. (c.misbehave.new.self, refl, misbehaves)) c.misbehave.ensures.ok)
