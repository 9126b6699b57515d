use Rattle.std.proofs.Common.{List, ℕ, ◌++◌, codes, ap, subst, ◌∙◌}
use Rattle.std.specs.Io.KnownBytes.{Appends}
use Rattle.std.specs.Net.Text.{socket_text}
use Rattle.cb_node_process.proofs.running.refuse.Goals as goal

pub returns-clause-told : goal.returns-clause-told
returns-clause-told g c =
    subst (Appends (g.E.Sink.contents c.args.errors.now) (g.E.Sink.contents c.write_all.new.writer)) (c.as_bytes.ensures.value ∙ c.in_ok-text.ensures.ok ∙ ap (λ (words : List ℕ). codes "error: can't listen at " ++ (socket_text c.args.address ++ (codes ": " ++ (words ++ codes "\n")))) c.cause-words.ensures) c.in_ok-write_all.ensures.written
