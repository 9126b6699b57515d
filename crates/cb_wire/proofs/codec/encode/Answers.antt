use Rattle.std.proofs.Common.{◌++◌, ap, ◌∙◌}
use Rattle.cb_wire.specs.Envelope.{text}
use Rattle.cb_wire.proofs.Texts.{again_lem}
use Rattle.cb_wire.proofs.codec.encode.Goals as goal

pub returns-clause-again : goal.returns-clause-again
returns-clause-again c = again_lem c.args.message.now _ c.in_ok-encode_into.ensures.kept c.requires (c.in_ok-encode_into.ensures.text ∙ ap (λ x. x ++ text c.args.message.now) c.new-bytes.ensures.items)
