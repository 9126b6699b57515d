use Rattle.std.proofs.Common.{◌∙◌, List, ap, rules}
use Rattle.cb_hall.specs.declared.connections.Connected.{Connected}
use Rattle.cb_hall.specs.Connections.{connected_at}
use Rattle.cb_hall.proofs.Slots.{at_past, at_within}
use Rattle.cb_hall.proofs.connections.PeerConnections.get.Goals as goal

pub returns-then-generation-len : goal.returns-then-generation-len
returns-then-generation-len c = at_past c.args.self.now c.args.generation (search rules)

pub returns : goal.returns
returns c =
    at_within c.self.inside.list.items c.args.generation c.index.result.now (search rules) (search rules) c.index.ensures
    ∙ ap (λ (s : List Connected). connected_at s c.args.generation) c.self.view_is
