use Rattle.std.proofs.Common.{ℕ, ◌≤◌, List, ◌++◌, length, sym, ap, subst, ◌∙◌}
use Rattle.cb_wire.specs.Grammar.{payload_text}
use Rattle.cb_wire.proofs.Messages.{payload_most}
use Rattle.cb_wire.proofs.codec.encode_into.Goals as goal

pub put_envelope-requires-clause-limit : goal.put_envelope-requires-clause-limit
put_envelope-requires-clause-limit c =
    subst (λ (bytes : List ℕ). length bytes ≤ 4000000)
    (sym (c.as_slice.ensures.value ∙ c.in_ok-put_payload.ensures.ok ∙ ap (λ (x : List ℕ). x ++ payload_text c.args.message.now) c.new-payload.ensures.items))
    (payload_most c.args.message.now c.in_ok-put_payload.ensures.kept c.requires)
