use Rattle.std.proofs.Common.{◌∙◌, List, ap, rules}
use Rattle.cb_hall.specs.declared.connections.Connected.{Connected}
use Rattle.cb_hall.specs.Connections.{in_slot}
use Rattle.cb_hall.proofs.Slots.{slot_past, slot_put}
use Rattle.cb_hall.proofs.connections.PeerConnections.put.Goals as goal

pub returns-then-generation-len : goal.returns-then-generation-len
returns-then-generation-len c = slot_past c.args.self.now c.args.generation _ (search rules)

pub returns : goal.returns
returns c =
    slot_put c.self.inside.list.items c.args.generation c.args.connected (search rules) (search rules)
    ∙ ap (λ (s : List Connected). in_slot (λ _. c.args.connected) c.args.generation s) c.self.view_is
