use Rattle.std.proofs.Common.{◌∙◌, ◌≡◌, true, false, sym}
use Rattle.cb_audit.proofs.Steps.{after_kept, after_other, after_same}
use Rattle.cb_audit.proofs.place.Place.after.Goals as goal

pub returns-then-is_some-clause-ok : goal.returns-then-is_some-clause-ok
returns-then-is_some-clause-ok c = λ start skip seen is.
    after_kept start skip c.args.self.skip c.args.self.next c.args.self.differs c.args.turns.now seen _ c.if-self-gt0.false (sym c.is_some.ensures ∙ c.if-is_some.true) is

pub returns-then-branch-clause-ok : goal.returns-then-branch-clause-ok
returns-then-branch-clause-ok c = λ start skip seen is.
    after_same start skip c.args.self.skip c.args.self.next c.args.self.differs c.args.turns.now seen _ c.if-self-gt0.false (sym c.is_some.ensures ∙ c.if-is_some.false) is
    (c.in_ok-is_turn_at.ensures.exact.0 c.if-branch.true)

pub returns-clause-ok : goal.returns-clause-ok
returns-clause-ok c = λ start skip seen is.
    after_other start skip c.args.self.skip c.args.self.next c.args.self.differs c.args.turns.now seen _ c.if-self-gt0.false (sym c.is_some.ensures ∙ c.if-is_some.false) is
    (λ same. (let never : true ≡ false = sym (c.in_ok-is_turn_at.ensures.exact.1 same) ∙ c.if-branch.false in absurd (cc)))
