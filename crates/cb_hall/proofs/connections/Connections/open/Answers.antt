use Rattle.std.proofs.Common.{◌≡◌, rules, subst}
use Rattle.std.specs.Prelude.{OnOk, set}
use Rattle.cb_hall.specs.Connections.{Slots, changed_at, opened}
use Rattle.cb_hall.proofs.Slots.{slot_opened}
use Rattle.cb_hall.proofs.connections.Connections.open.Goals as goal

pub returns-clause-ok : goal.returns-clause-ok
returns-clause-ok c =
    subst (λ (s : Slots). OnOk c.open.result (set c.self.inside.slots.items c.args.peer c.open.new.self ≡ changed_at opened c.args.peer s)) c.self.view_is
    (slot_opened c.self.inside.slots.items c.args.peer c.index_mut.result.now c.open.new.self c.open.result (search rules) c.index_mut.ensures.value c.open.ensures.ok)
