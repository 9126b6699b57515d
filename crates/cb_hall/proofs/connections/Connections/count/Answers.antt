use Rattle.std.proofs.Common.{◌∙◌, sym}
use Rattle.cb_hall.specs.Connections.{counted}
use Rattle.cb_hall.proofs.Slots.{put_like, put_none}
use Rattle.cb_hall.proofs.connections.Connections.count.Goals as goal

pub returns-in-Some : goal.returns-in-Some
returns-in-Some c = c.put.ensures ∙ put_like counted c.args.self.now c.args.connection c.in-Some.connected (sym c.get.ensures ∙ c.in-Some.is)

pub returns-in_default : goal.returns-in_default
returns-in_default c = put_none counted c.args.self.now c.args.connection (sym c.get.ensures ∙ c.in_default.is)
