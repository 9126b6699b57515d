use Rattle.std.proofs.Common.{◌≡◌, ◌∙◌, ◌∷◌, ℤ, None, Option, Some, List, ap, is_some, subst, sym, true}
use Rattle.std.specs.Map.{lookup}
use Rattle.cb_block.specs.declared.tx.OutPoint.{OutPoint}
use Rattle.cb_pool.specs.Staying.{same_point}
use Rattle.cb_pool.proofs.Thinner.{Putting, ok_there, put_all, put_there, putting_more}
use Rattle.cb_pool.proofs.thinning.put_changes.Goals as goal

pub unwrap-requires : goal.unwrap-requires
unwrap-requires c =
    let marks = c.args.marks.now in
    let old = c.args.coins.now.entries in
    let changes = c.args.changes.now.entries in
    let now = c.loop-point.coins.entries in
    let point : OutPoint = c.in-Some.point.now in
    let rest : List OutPoint = c.next.new.self in
    let so_far : Putting marks old now changes (point ∷ rest) = subst (λ (l : List OutPoint). Putting marks old now changes l) c.in-Some.ensures.steps c.loop-point.invariant in
    let has : lookup (same_point point) changes ≡ Some c.in-Some-copied.value = sym (c.copied.ensures ∙ c.get.ensures.value) ∙ c.in-Some-copied.is in
    ok_there c.insert-had.result (lookup (same_point point) now) c.insert-had.ensures.absent (put_there marks old now changes point rest so_far c.requires.held (ap is_some has))

pub loop-point-preserved-in-Some-copied : goal.loop-point-preserved-in-Some-copied
loop-point-preserved-in-Some-copied c =
    let marks = c.args.marks.now in
    let old = c.args.coins.now.entries in
    let changes = c.args.changes.now.entries in
    let now = c.loop-point.coins.entries in
    let point : OutPoint = c.in-Some.point.now in
    let rest : List OutPoint = c.next.new.self in
    let so_far : Putting marks old now changes (point ∷ rest) = subst (λ (l : List OutPoint). Putting marks old now changes l) c.in-Some.ensures.steps c.loop-point.invariant in
    let has : lookup (same_point point) changes ≡ Some c.in-Some-copied.value = sym (c.copied.ensures ∙ c.get.ensures.value) ∙ c.in-Some-copied.is in
    let updates = rw c.unwrap.ensures at c.insert-had.ensures.updates in
    putting_more marks old now c.insert-had.new.self.entries changes point rest (Some c.in-Some-copied.value) so_far has updates.0

pub loop-point-preserved : goal.loop-point-preserved
loop-point-preserved c =
    let marks = c.args.marks.now in
    let old = c.args.coins.now.entries in
    let changes = c.args.changes.now.entries in
    let now = c.loop-point.coins.entries in
    let point : OutPoint = c.in-Some.point.now in
    let rest : List OutPoint = c.next.new.self in
    let so_far : Putting marks old now changes (point ∷ rest) = subst (λ (l : List OutPoint). Putting marks old now changes l) c.in-Some.ensures.steps c.loop-point.invariant in
    let has : lookup (same_point point) changes ≡ None = sym (c.copied.ensures ∙ c.get.ensures.value) ∙ c.in-None-copied.is in
    putting_more marks old now c.remove.new.self.entries changes point rest None so_far has c.remove.ensures.updates.0

pub returns : goal.returns
returns c =
    put_all c.args.marks.now c.args.coins.now.entries c.loop-point.coins.entries c.args.changes.now.entries
    (subst (λ (l : List OutPoint). Putting c.args.marks.now c.args.coins.now.entries c.loop-point.coins.entries c.args.changes.now.entries l) c.in-None.ensures.steps.0 c.loop-point.invariant)
