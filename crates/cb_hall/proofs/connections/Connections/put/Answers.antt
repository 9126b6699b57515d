use Rattle.std.proofs.Common.{◌∙◌, ap, rules}
use Rattle.cb_hall.specs.Connections.{Slots, in_slot, put_in}
use Rattle.cb_hall.proofs.Slots.{slots_past, slots_put}
use Rattle.cb_hall.proofs.connections.Connections.put.Goals as goal

pub returns-then-peer-len : goal.returns-then-peer-len
returns-then-peer-len c =
    slots_put c.self.inside.slots.items c.args.connection.peer (in_slot (λ _. c.args.connected) c.args.connection.generation) c.index_mut.result.now c.put.new.self (search rules)
    c.index_mut.ensures.value c.put.ensures
    ∙ ap (λ (s : Slots). put_in (λ _. c.args.connected) c.args.connection s) c.self.view_is

pub returns-else-peer-len : goal.returns-else-peer-len
returns-else-peer-len c = slots_past c.args.self.now c.args.connection.peer _ (search rules)
