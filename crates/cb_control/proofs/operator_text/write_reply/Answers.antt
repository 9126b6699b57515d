use Rattle.std.proofs.Common.{rules, refl, inl, inr}
use Rattle.std.specs.Prelude.{codes}
use Rattle.cb_control.specs.declared.refusal.Refusal.TheVariants as refusals
use Rattle.cb_control.specs.declared.reply.Reply.TheVariants as replies
use Rattle.cb_control.proofs.Texts.{told_text}
use Rattle.cb_control.proofs.operator_text.write_reply.Goals as goal

pub returns-in-Ok-clause-told : goal.returns-in-Ok-clause-told
returns-in-Ok-clause-told g c =
    told_text c.write_all.result (g.W.Sink.contents c.args.writer.now) (g.W.Sink.contents c.write_all.new.writer) c.as_bytes.result.now c.args.reply.now c.args.reply.now (inl refl) (search rules) c.write_all.ensures.written

pub returns-clause-told : goal.returns-clause-told
returns-clause-told g c =
    told_text c.write_all-in-Err.result (g.W.Sink.contents c.args.writer.now) (g.W.Sink.contents c.write_all-in-Err.new.writer) (codes "error memory\n") c.args.reply.now (replies.Refused refusals.Memory) (inr refl) refl c.write_all-in-Err.ensures.written
