use Rattle.std.proofs.Common.{◌≡◌, false, rules, ◌∙◌}
use Rattle.cb_base.specs.declared.fault.Fault.TheVariants.{NoParent}
use Rattle.cb_peer_state.specs.Replying.{is_workless}
use Rattle.cb_peer.proofs.Lights.{heads_asked, heads_light, noted, nothing_lacks}
use Rattle.cb_peer.proofs.replying.hear_headers.Goals as goal

pub returns-in_err-messages-in-None-clause-silent : goal.returns-in_err-messages-in-None-clause-silent
returns-in_err-messages-in-None-clause-silent c = λ weighs light.
    let is = noted c.args.session.now c.want.new.self c.args.item.now c.as_slice.result.now c.args.heads.now.lack c.before_first.result c.in_ok-want.ensures.wanted c.as_slice.ensures c.before_first.ensures in
    absurd (let ok = c.in_err-messages-in-None.ensures.silent (heads_light c.args.session.now c.want.new.self c.args.item.now c.args.heads.now is c.in-None.is light) in cc)

pub returns-in-Some-clause-silent : goal.returns-in-Some-clause-silent
returns-in-Some-clause-silent c = λ weighs light.
    let is = noted c.args.session.now c.want.new.self c.args.item.now c.as_slice.result.now c.args.heads.now.lack c.before_first.result c.in_ok-want.ensures.wanted c.as_slice.ensures c.before_first.ensures in
    let parent : c.in-Some.fault ≡ NoParent = search rules in
    c.end_seeking.ensures.silent (heads_asked c.args.session.now c.want.new.self c.args.item.now c.args.heads.now c.in-Some.fault is c.in-Some.is parent light)

pub returns-in_err-want-clause-silent : goal.returns-in_err-want-clause-silent
returns-in_err-want-clause-silent c = λ weighs light.
    let works : is_workless c.args.heads.now.refused ≡ false = search rules in
    absurd (let ok = c.in_err-want.ensures.unpaid (c.as_slice.ensures ∙ nothing_lacks (is_workless c.args.heads.now.refused) c.args.heads.now.lack works weighs) in cc)
