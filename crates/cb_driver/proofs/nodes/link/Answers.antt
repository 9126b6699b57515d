use Rattle.std.proofs.Common.{true, false, List, set}
use Rattle.cb_node.specs.Node.{NodeState}
use Rattle.cb_driver.proofs.Keeping.{listens, served, within}
use Rattle.cb_driver.proofs.nodes.link.Goals as goal

pub returns-in_err-connect_to-clause-slots : goal.returns-in_err-connect_to-clause-slots
returns-in_err-connect_to-clause-slots g c =
    let listening : List NodeState = set c.args.list.now c.args.second c.listen_at.new.self in
    served false listening c.args.first c.index-list-first.result c.connect_to.new.self c.connect_to.result
    (listens c.args.list.now c.args.second c.index-list-second.result c.listen_at.new.self c.listen_at.result c.requires.slots c.requires.nodes.1 c.listen_at.ensures.ok c.listen_at.ensures.err)
    (within c.args.list.now c.args.second c.args.first c.listen_at.new.self c.requires.nodes.0) c.connect_to.ensures

pub returns-in_err-accept-clause-slots : goal.returns-in_err-accept-clause-slots
returns-in_err-accept-clause-slots g c =
    let listening : List NodeState = set c.args.list.now c.args.second c.listen_at.new.self in
    served true (set listening c.args.first c.connect_to.new.self) c.args.second c.index-list-second-2.result c.accept.new.self c.accept.result
    (served false listening c.args.first c.index-list-first.result c.connect_to.new.self c.connect_to.result
    (listens c.args.list.now c.args.second c.index-list-second.result c.listen_at.new.self c.listen_at.result c.requires.slots c.requires.nodes.1 c.listen_at.ensures.ok c.listen_at.ensures.err)
    (within c.args.list.now c.args.second c.args.first c.listen_at.new.self c.requires.nodes.0) c.connect_to.ensures)
    (within listening c.args.first c.args.second c.connect_to.new.self (within c.args.list.now c.args.second c.args.second c.listen_at.new.self c.requires.nodes.1)) c.accept.ensures.served

pub returns-clause-slots : goal.returns-clause-slots
returns-clause-slots g c =
    let listening : List NodeState = set c.args.list.now c.args.second c.listen_at.new.self in
    served true (set listening c.args.first c.connect_to.new.self) c.args.second c.index-list-second-2.result c.accept.new.self c.accept.result
    (served false listening c.args.first c.index-list-first.result c.connect_to.new.self c.connect_to.result
    (listens c.args.list.now c.args.second c.index-list-second.result c.listen_at.new.self c.listen_at.result c.requires.slots c.requires.nodes.1 c.listen_at.ensures.ok c.listen_at.ensures.err)
    (within c.args.list.now c.args.second c.args.first c.listen_at.new.self c.requires.nodes.0) c.connect_to.ensures)
    (within listening c.args.first c.args.second c.connect_to.new.self (within c.args.list.now c.args.second c.args.second c.listen_at.new.self c.requires.nodes.1)) c.accept.ensures.served
