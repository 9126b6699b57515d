use Rattle.cb_node.proofs.Finished.{headline_of}
use Rattle.cb_node.proofs.headline.finish.Goals as goal

-- src/headline.rt:18:1
pub returns : goal.returns
returns g c = headline_of c.args.node.crew c.finish.result.read c.finish.result.desks.items c.finish.ensures
