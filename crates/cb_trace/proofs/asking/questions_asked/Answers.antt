use Rattle.std.proofs.Common.{◌≡◌, List, [], ◌∷◌, ◌++◌, Option, sym, ap, ◌∙◌, arith}
use Rattle.std.proofs.lemmas.List.{append-nil}
use Rattle.cb_hall.specs.declared.question.Question.{Question}
use Rattle.cb_trace.specs.Trace.{asked_at}
use Rattle.cb_trace.proofs.Questions.{account_at, asked_not, asked_told, asked_turn, pending_is_after}
use Rattle.cb_trace.proofs.asking.questions_asked.Goals as goal
use Rattle.cb_trace.proofs.asking.questions_asked.Goals.{then-is_answer+in_ok-copy_of+in_ok-push, else-is_answer}

pub pending_after-pending-requires : goal.pending_after-pending-requires
pending_after-pending-requires c =
    pending_is_after c.loop-entry.count c.loop-entry.session c.play.new.session c.entry-item.result c.loop-entry.pending _ c.loop-entry.invariant.stands c.in_ok-question.ensures.same c.in_ok-question.ensures.asked

pub loop-entry-preserved : goal.loop-entry-preserved
loop-entry-preserved c =
    let entry = c.entry-item.result in
    let here = account_at c.loop-entry.session c.loop-entry.count in
    let so_far = c.loop-entry.asked.items in
    let more : c.if-is_answer.asked.items ≡ so_far ++ asked_at here entry =
    elim c.if-is_answer.branch [
      | then-is_answer+in_ok-copy_of+in_ok-push w ↦
          let pushed : c.if-is_answer.asked.items ≡ w.push.new.self.items = cc in
          pushed
          ∙ w.in_ok-push.ensures.items
          ∙ ap (λ (question : Option Question). so_far ++ question ∷ []) (w.in_ok-copy_of.ensures.same ∙ c.loop-entry.invariant.stands)
          ∙ ap (λ (l : List (Option Question)). so_far ++ l) (asked_told here entry (sym c.is_answer.ensures ∙ w.if-is_answer.true))
      | else-is_answer w ↦
          let same : c.if-is_answer.asked.items ≡ so_far = cc in
          same ∙ sym (append-nil so_far) ∙ ap (λ (l : List (Option Question)). so_far ++ l) (asked_not here entry (sym c.is_answer.ensures ∙ w.if-is_answer.false))
    ] in
    record {
      counted = (let counted = c.loop-entry.invariant.counted in omega (arith, counted));
      stands = c.pending_after-pending.ensures;
      parts =
          asked_turn so_far c.if-is_answer.asked.items c.loop-entry.session c.play.new.session c.loop-entry.count c.args.entries.now c.loop-entry.entry-index entry _ c.loop-entry-test.true c.entry-item.is more
          c.in_ok-question.ensures.same c.loop-entry.invariant.parts;
    }
