use Rattle.std.proofs.Common.{◌≡◌, ◌∙◌, ap, cond, refl, subst, sym, true}
use Rattle.cb_base.specs.declared.hash.Hash256.{Hash256}
use Rattle.cb_pool.specs.Rules.{same}
use Rattle.cb_pool.specs.Staying.{IsLevel, Turned, is_gone}
use Rattle.cb_pool.proofs.Marking.{at_touched, gone_at, not_so}
use Rattle.cb_pool.proofs.thinning.turn.Goals as goal

pub returns-then-keep-clause-turned : goal.returns-then-keep-clause-turned
returns-then-keep-clause-turned c = λ known.
    let tx = c.args.tx.now in
    let ins : c.as_slice-inputs.result.now ≡ tx.inputs = c.as_slice-inputs.ensures ∙ ap (λ t. t.inputs) (c.deref.ensures ∙ c.tx.ensures.same) in
    Turned.stays refl refl (at_touched IsLevel c.args.marks.now tx c.txid.result c.as_slice-inputs.result.now tt ins c.txid.ensures (c.keep.ensures c.if-keep.true) (c.has_txid.ensures (not_so c.has_txid.result known)))

pub returns-clause-turned : goal.returns-clause-turned
returns-clause-turned c = λ known.
    let tx = c.args.tx.now in
    let ins : c.as_slice-inputs.result.now ≡ tx.inputs = c.as_slice-inputs.ensures ∙ ap (λ t. t.inputs) (c.deref.ensures ∙ c.tx.ensures.same) in
    let gone = gone_at c.args.marks.now tx.inputs (rw (sym ins) (c.lose.ensures c.if-not-lose.false)) in
    Turned.leaves gone.0 gone.1 gone.2 (subst (λ (t : Hash256). (other : Hash256) → is_gone c.insert.new.self.keys other ≡ cond (same t other) true (is_gone c.args.gone.now.keys other)) c.txid-2.ensures c.in_ok-insert.ensures.updates.0) c.in_ok-leave.ensures.moves
