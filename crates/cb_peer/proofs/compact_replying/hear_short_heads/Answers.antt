use Rattle.std.proofs.Common.{◌≡◌, Bool, false, rules, ap, ◌∙◌}
use Rattle.cb_peer_state.specs.Questions.{is_nil}
use Rattle.cb_peer_state.specs.Replying.{is_workless, search as searched}
use Rattle.cb_chain.specs.Entries.{block_hash}
use Rattle.cb_peer.proofs.Lights.{short_searched, short_sent}
use Rattle.cb_peer.proofs.compact_replying.hear_short_heads.Goals as goal

pub returns-clause-ok : goal.returns-clause-ok
returns-clause-ok c = λ item brought.
    let works : is_workless c.args.heads.now.refused ≡ false = search rules in
    let lacks : is_nil c.args.heads.now.lack ≡ false = search rules in
    short_searched c.args.session.now c.search.new.self item c.args.short.now c.args.heads.now c.is_orphan.result c.in_ok-messages.messages.items c.in_ok-sought_for.field-0 c.is_orphan.ensures c.in_ok-messages.ensures.session works lacks brought
    c.in_ok-messages.ensures.messages c.in_ok-sought_for.ensures.sought

pub returns-in_err-messages-clause-silent : goal.returns-in_err-messages-clause-silent
returns-in_err-messages-clause-silent c = λ light.
    let works : is_workless c.args.heads.now.refused ≡ false = search rules in
    absurd
    (let ok = c.in_err-messages.ensures.silent
    (ap (λ (found : Bool). searched found c.args.session.now c.args.heads.now.locator) c.is_orphan.ensures ∙ short_sent c.args.session.now (block_hash c.args.short.now.header) c.args.heads.now works light) in
    cc)
