use Rattle.std.proofs.Common.{◌≡◌, List, ap, ◌∙◌}
use Rattle.cb_wire.specs.declared.message.Message.{Message}
use Rattle.cb_peer_state.specs.Outcomes.{is_light_stage}
use Rattle.cb_peer_state.specs.Receiving.{ends}
use Rattle.cb_peer.proofs.Lights.{given_light, given_plain, given_weighs}
use Rattle.cb_peer.proofs.compact_replying.hear_given.Goals as goal

pub returns-then-is_orphan-clause-silent : goal.returns-then-is_orphan-clause-silent
returns-then-is_orphan-clause-silent c = λ weighs light.
    c.end_orphaned.ensures.silent
    (given_weighs c.args.session.now c.args.header.now c.args.taken.now.refused c.is_orphan.result c.is_orphan.ensures c.if-is_orphan.true weighs)
    (given_light c.args.session.now c.args.header.now c.args.taken.now.refused c.args.taken.now.locator c.is_orphan.result c.is_orphan.ensures c.if-is_orphan.true light)

pub returns-clause-silent : goal.returns-clause-silent
returns-clause-silent c = λ weighs light.
    c.end.ensures.silent
    (ap (λ (sent : List Message). is_light_stage (ends c.args.session.now sent).next) c.new.ensures.items
    ∙ (given_plain c.args.session.now c.args.header.now c.args.taken.now.refused c.args.taken.now.locator c.is_orphan.result c.is_orphan.ensures c.if-is_orphan.false light).1)
