use Rattle.std.proofs.Common.{◌∷◌, ◌++◌, [], ap, ◌∙◌}
use Rattle.cb_base.specs.declared.hash.Hash256.{Hash256}
use Rattle.cb_net_node.specs.Waves.{first_outputs, outpoint, output_of}
use Rattle.cb_net_node.proofs.Ranges.{made_one}
use Rattle.cb_net_node.proofs.wallet.first_outputs.Goals as goal

pub loop-index-preserved : goal.loop-index-preserved
loop-index-preserved c =
    made_one (output_of c.args.tx.now) c.loop-index.points.items c.push.new.self.items (first_outputs c.args.tx.now c.args.count) c.loop-index.index c.args.count c.loop-index-test.true
    (c.in_ok-push.ensures.items ∙ ap (λ (txid : Hash256). c.loop-index.points.items ++ outpoint txid c.loop-index.index ∷ []) c.in_ok-txid.ensures.name)
    c.loop-index.invariant
