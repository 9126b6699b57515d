use Rattle.std.proofs.Common.{rules, sym, ap, ◌∙◌}
use Rattle.std.specs.Prelude.{◌≢◌}
use Rattle.cb_base.specs.declared.fault.Fault.TheVariants.{Memory}
use Rattle.cb_block.specs.Decision.{is_hashed, is_sound_block}
use Rattle.cb_block.proofs.Deciding.{judged_sound, judged_not, refused_is, unhashed_is}
use Rattle.cb_block.proofs.decision.sound_of.Goals as goal

pub returns-then-is_err-clause-decided : goal.returns-then-is_err-clause-decided
returns-then-is_err-clause-decided c =
    ap is_sound_block (sym c.deref.ensures) ∙ refused_is c.deref.result.now c.check_sizes.result c.check_sizes.ensures.err (sym c.is_err.ensures.value ∙ c.if-is_err.true)

pub returns-in_err-clone-clause-unpaid : goal.returns-in_err-clone-clause-unpaid
returns-in_err-clone-clause-unpaid c = λ unhashed.
    unhashed_is c.deref.result.now c.check_sizes.result c.check_sizes.ensures.some c.check_sizes.ensures.sizes (sym c.is_err.ensures.value ∙ c.if-is_err.false) (ap is_hashed c.deref.ensures ∙ unhashed)

pub returns-then-eq-clause-unpaid : goal.returns-then-eq-clause-unpaid
returns-then-eq-clause-unpaid c = λ unhashed.
    unhashed_is c.deref.result.now c.check_sizes.result c.check_sizes.ensures.some c.check_sizes.ensures.sizes (sym c.is_err.ensures.value ∙ c.if-is_err.false) (ap is_hashed c.deref.ensures ∙ unhashed)

pub returns-in-Ok-clause-decided : goal.returns-in-Ok-clause-decided
returns-in-Ok-clause-decided c = judged_sound _ _ _ c.in-Ok.ensures.ok c.in_ok-clone.ensures

pub returns-else-eq-clause-decided : goal.returns-else-eq-clause-decided
returns-else-eq-clause-decided c =
    let other : c.in-Err.fault ≢ Memory = search rules in
    judged_not _ _ c.in-Err.fault c.in-Err.ensures.err.1 other c.in_ok-clone.ensures
