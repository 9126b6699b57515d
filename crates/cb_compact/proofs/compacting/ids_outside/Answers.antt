use Rattle.std.proofs.Common.{◌≡◌, ℕ, ◌≤◌, ◌+◌, ◌<◌, ◌++◌, ◌∷◌, [], drop, length, map, arith, ap, ◌∙◌, sym, subst, append_assoc, append-nil, length-drop}
use Rattle.cb_compact.specs.Differences.{Rise}
use Rattle.cb_compact.specs.Forms.{left_out}
use Rattle.cb_compact.specs.ShortIds.{short_id_of}
use Rattle.cb_compact.proofs.Indexes.{left_none, left_passed, left_unpassed}
use Rattle.cb_compact.proofs.compacting.ids_outside.Goals as goal

passed_one : {passed many : ℕ} → passed < many → passed + 1 ≤ many
passed_one below = omega (arith, below)

pub loop-place-preserved-then-is_next : goal.loop-place-preserved-then-is_next
loop-place-preserved-then-is_next c =
    let l = c.loop-place in
    let step = left_passed (length c.args.txids.now) l.place l.passed c.args.places.now c.args.txids.now (record { 0 = [] }) c.loop-place-test.true c.if-is_next.ensures.0 c.if-is_next.ensures.1 l.invariant.1 in
    (ap (λ left. l.ids.items ++ map (short_id_of c.args.key) left) (sym step.0) ∙ l.invariant.0, step.1, passed_one c.if-is_next.ensures.0)

pub loop-place-preserved : goal.loop-place-preserved
loop-place-preserved c =
    let l = c.loop-place in
    let rest = map (short_id_of c.args.key) (left_out (l.place + 1) (drop l.passed c.args.places.now) (drop (l.place + 1) c.args.txids.now)) in
    let step = left_unpassed (length c.args.txids.now) l.place l.passed c.args.places.now c.args.txids.now (record { 0 = [] }) c.loop-place-test.true c.if-is_next.ensures l.invariant.1 in (
      ap (λ list. list ++ rest) c.in_ok-push.ensures.items ∙ append_assoc l.ids.items (c.short_id.result ∷ []) rest
          ∙ ap (λ id. l.ids.items ++ (id ∷ rest)) c.short_id.ensures.same ∙ ap (λ left. l.ids.items ++ map (short_id_of c.args.key) left) (sym step.0) ∙ l.invariant.0,
      step.1,
      l.invariant.2,
    )

pub returns-clause-same : goal.returns-clause-same
returns-clause-same c =
    let l = c.loop-place in
    let last : l.place ≡ length c.args.txids.now = omega (arith, c.loop-place-test.false, l.auto.place-end) in
    let none : length (drop l.place c.args.txids.now) ≡ 0 = omega (arith, last, length-drop l.place c.args.txids.now) in
    let rises : Rise l.place l.place (drop l.passed c.args.places.now) = subst (λ total. Rise l.place total (drop l.passed c.args.places.now)) (sym last) l.invariant.1 in
    let left = left_none l.place (drop l.passed c.args.places.now) (drop l.place c.args.txids.now) none rises in
    sym (ap (λ list. l.ids.items ++ map (short_id_of c.args.key) list) left ∙ append-nil l.ids.items) ∙ l.invariant.0
