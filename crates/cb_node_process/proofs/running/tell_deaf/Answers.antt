use Rattle.cb_node_process.proofs.Endings.{deaf_told}
use Rattle.cb_node_process.proofs.running.tell_deaf.Goals as goal

pub returns-clause-told : goal.returns-clause-told
returns-clause-told g c = deaf_told c.args.orders.now (g.E.Sink.contents c.args.errors.now) (g.E.Sink.contents c.refuse.new.errors) c.place_of-address.result c.args.deaf.fault c.refuse.result c.place_of-address.ensures c.refuse.ensures.told
