use Rattle.std.proofs.Common.{rules}
use Rattle.cb_peer_state.specs.Serving.{excerpt_told}
use Rattle.cb_peer.proofs.Lights.{excerpt_light, none_made}
use Rattle.cb_peer.proofs.compact_replying.answer_places.Goals as goal

pub returns-in_err-send_excerpt : goal.returns-in_err-send_excerpt
returns-in_err-send_excerpt c = record {
  ok = search rules;
  memory = search rules;
  silent = λ light. absurd (let ok = c.in_err-send_excerpt.ensures.unpaid (excerpt_light c.args.session.now c.args.excerpt.now light) in cc);
}

pub returns-in_err-push_some : goal.returns-in_err-push_some
returns-in_err-push_some c = record {
  ok = search rules;
  memory = search rules;
  silent = λ light.
      let none = none_made c.in_ok-send_excerpt.field-0 (excerpt_told c.args.excerpt.now) c.in_ok-send_excerpt.ensures.message (excerpt_light c.args.session.now c.args.excerpt.now light) in
      absurd (let ok = c.in_err-push_some.ensures.none none in cc);
}
