use Rattle.std.proofs.Common.{◌≡◌, ◌∙◌, ◌++◌, length, take, drop, ap, sym, subst}
use Rattle.std.proofs.lemmas.List.{take_at}
use Rattle.cb_ledger.specs.Undo.{StandOnce, changed, values_of}
use Rattle.cb_ledger.proofs.Changes.{once_values, length_values, changed_back}
use Rattle.cb_ledger.proofs.ledger.Ledger.exchange.Goals as goal

pub invariant_of-undo : goal.invariant_of-undo
invariant_of-undo c =
    let old = c.as_mut_slice.result.now in
    let new = c.exchange_all.new.changes in
    let u = c.args.self.now.unspent in
    let long : length new ≡ c.undo.inside.changes.len = ap length c.exchange_all.ensures.before ∙ length_values u old ∙ c.as_mut_slice.ensures.len in
    let kept : take c.undo.inside.changes.len (new ++ drop (length new) c.undo.inside.changes.items) ≡ new = take_at new (drop (length new) c.undo.inside.changes.items) c.undo.inside.changes.len long in
    subst StandOnce (sym (kept ∙ c.exchange_all.ensures.before)) (once_values u old (subst StandOnce (sym c.as_mut_slice.ensures.value) c.undo.invariant))

pub returns-clause-back : goal.returns-clause-back
returns-clause-back c =
    let old = c.as_mut_slice.result.now in
    let new = c.exchange_all.new.changes in
    let u = c.args.self.now.unspent in
    let long : length new ≡ c.undo.inside.changes.len = ap length c.exchange_all.ensures.before ∙ length_values u old ∙ c.as_mut_slice.ensures.len in
    let kept : take c.undo.inside.changes.len (new ++ drop (length new) c.undo.inside.changes.items) ≡ new = take_at new (drop (length new) c.undo.inside.changes.items) c.undo.inside.changes.len long in
    ap (changed c.exchange_all.new.ledger.unspent) (kept ∙ c.exchange_all.ensures.before) ∙ ap (λ m. changed m (values_of u old)) c.exchange_all.ensures.after ∙ changed_back u old
