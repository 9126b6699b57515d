use Rattle.std.proofs.Common.{◌∙◌, ◌<◌, length, refl, sym, subst, ℕ}
use Rattle.std.proofs.lemmas.Option.{slice_get-get_or, slice_get_read}
use Rattle.cb_audit.proofs.Accounts.{agree_all, all_at, none_agrees, some_split, with_found}
use Rattle.cb_audit.proofs.heard.first_with_trace.Goals as goal

pub returns-then-is_some : goal.returns-then-is_some
returns-then-is_some c = λ kept seen few placed.
    let here = c.index-audited-at.result in
    let at = slice_get_read c.args.audited.now (length c.args.audited.now) c.loop-at.at here refl c.loop-at-test.true c.index-audited-at.is in
    let own = c.as_slice.ensures ∙ all_at c.args.audited.now c.args.turns.now c.loop-at.at here c.index-turns-at.result c.requires.turns at c.index-turns-at.is in
    some_split kept c.args.audited.now seen c.loop-at.at here c.as_slice.result.now c.compared-found.result c.requires.order (c.loop-at.invariant kept seen few placed) at own (sym c.is_some.ensures ∙ c.if-is_some.true)
    (with_found kept c.args.audited.now seen c.args.places.now c.loop-at.at here _ c.as_slice.result.now c.compared-found.result c.requires.order few placed at
    (slice_get-get_or c.args.places.now c.loop-at.at _ (subst (λ (n : ℕ). c.loop-at.at < n) (sym c.requires.long) c.loop-at-test.true)) own c.compared-found.ensures)

pub loop-at-preserved : goal.loop-at-preserved
loop-at-preserved c = λ kept seen few placed.
    let here = c.index-audited-at.result in
    let at = slice_get_read c.args.audited.now (length c.args.audited.now) c.loop-at.at here refl c.loop-at-test.true c.index-audited-at.is in
    let own = c.as_slice.ensures ∙ all_at c.args.audited.now c.args.turns.now c.loop-at.at here c.index-turns-at.result c.requires.turns at c.index-turns-at.is in
    none_agrees kept c.args.audited.now seen c.loop-at.at here c.as_slice.result.now c.compared-found.result c.requires.order (c.loop-at.invariant kept seen few placed) at own (sym c.is_some.ensures ∙ c.if-is_some.false)
    (with_found kept c.args.audited.now seen c.args.places.now c.loop-at.at here _ c.as_slice.result.now c.compared-found.result c.requires.order few placed at
    (slice_get-get_or c.args.places.now c.loop-at.at _ (subst (λ (n : ℕ). c.loop-at.at < n) (sym c.requires.long) c.loop-at-test.true)) own c.compared-found.ensures)

pub returns : goal.returns
returns c = λ kept seen few placed other has. agree_all kept c.args.audited.now seen c.loop-at.at (c.loop-at.invariant kept seen few placed) c.loop-at-test.false other has
