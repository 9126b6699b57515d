use Rattle.std.proofs.Common.{ap, ◌∙◌}
use Rattle.cb_crew.specs.Line.{line_taken}
use Rattle.cb_crew.proofs.InboxLemmas.{line_at_more}
use Rattle.cb_crew.proofs.inbox_model.InboxModel.take.Goals as goal

pub returns : goal.returns
returns c = line_at_more c.self.inside.marks.items c.self.inside.taken c.self.inside.ended ∙ ap line_taken c.self.view_is
