use Rattle.std.proofs.Common.{◌≡◌, rules}
use Rattle.cb_base.specs.declared.fault.Fault.TheVariants.{NoParent}
use Rattle.cb_peer.proofs.Lights.{taken_asked}
use Rattle.cb_peer.proofs.replying.hear_taken.Goals as goal

pub returns-in-Some-2-clause-silent : goal.returns-in-Some-2-clause-silent
returns-in-Some-2-clause-silent c = λ weighs light.
    let parent : c.in-Some-2.fault ≡ NoParent = search rules in
    let (spares, asked) = taken_asked c.args.session.now c.args.item.now c.header_in.result c.args.taken.now.refused c.args.taken.now.locator c.in-Some-2.fault c.header_in.ensures c.in-Some-2.is parent weighs light in
    c.end_orphaned.ensures.silent spares asked
