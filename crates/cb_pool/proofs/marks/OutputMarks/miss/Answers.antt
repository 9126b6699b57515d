use Rattle.std.proofs.Common.{◌≡◌, ◌∙◌, ◌+◌, ℕ, ℤ, None, Some, Option, ap, sym, subst, arith, refl, take, SFits, rules}
use Rattle.std.specs.Int.{w64}
use Rattle.std.proofs.lemmas.Int.{to_z-of_z}
use Rattle.std.specs.FinMap as finite
use Rattle.std.proofs.lemmas.List.{length-take}
use Rattle.cb_block.specs.declared.tx.OutPoint.{OutPoint}
use Rattle.cb_ledger.specs.Unspent.{Unspent}
use Rattle.cb_pool.specs.Leaving.{with_outputs}
use Rattle.cb_pool.specs.Staying.{Says, Tells, mark_at}
use Rattle.cb_pool.specs.declared.marks.OutputMark.{OutputMark}
use Rattle.cb_pool.proofs.Left.{with_more, with_other}
use Rattle.cb_pool.proofs.Marking.{HaveMarks, have_more, missed_more, not_made}
use Rattle.cb_pool.proofs.marks.OutputMarks.miss.Goals as goal

pub loop-output-init : goal.loop-output-init
unfolding with_outputs
loop-output-init c = record { place = refl; tells = λ was now next e tells. tells; marked = λ q none. (none, λ both. absurd (omega (arith, both.1))) }

pub loop-output-preserved : goal.loop-output-preserved
loop-output-preserved c =
    let txid = c.args.txid in
    let outputs = c.args.outputs.now in
    let i = c.loop-output.output-index in
    let value = c.output-item.result.value in
    let at : ℕ → OutPoint = λ n. record { txid = txid; index = n } in
    let fits : SFits w64 value = search rules in
    let behind : (x : Option ℤ) → Says (mark_at c.loop-output.self (at c.loop-output.index)) None x → Says (Some c.mark_behind-mark.result) (Some value) x =
    λ x says. subst (λ (v : ℤ). Says (Some c.mark_behind-mark.result) (Some v) x) (to_z-of_z w64 value fits) (c.mark_behind-mark.ensures x (subst (λ (m : Option OutputMark). Says m None x) (sym c.mark_of.ensures) says)) in
    record {
      place = omega (arith, c.loop-output.invariant.place);
      tells = λ was now next e tells.
          let before : Unspent = with_outputs was txid 0 (take i outputs) in
          let none : finite.get before (at i) ≡ None = with_other was txid 0 (take i outputs) i (omega (arith, length-take i outputs)) ∙ not_made was next txid 0 outputs i e (omega arith) (omega (arith, c.loop-output-test.true)) in
          let none_here : finite.get before (at c.loop-output.index) ≡ None = ap (λ (n : ℕ). finite.get before (at n)) c.loop-output.invariant.place ∙ none in
          let more : Tells c.put.new.self (finite.insert before (at c.loop-output.index) value) now =
          missed_more c.loop-output.self c.put.new.self (at c.loop-output.index) value c.mark_behind-mark.result before now c.in_ok-put.ensures.put behind none_here (c.loop-output.invariant.tells was now next e tells) in
          let is : finite.insert before (at c.loop-output.index) value ≡ with_outputs was txid 0 (take (i + 1) outputs) =
          ap (λ (n : ℕ). finite.insert before (at n) value) c.loop-output.invariant.place ∙ sym (with_more was txid outputs i c.output-item.result c.loop-output-test.true c.output-item.is) in
          subst (λ (m : Unspent). Tells c.put.new.self m now) is more;
      marked = subst (λ (n : ℕ). HaveMarks txid (n + 1) c.args.self.now c.put.new.self) c.loop-output.invariant.place
          (have_more txid c.loop-output.index c.mark_behind-mark.result c.args.self.now c.loop-output.self c.put.new.self c.in_ok-put.ensures.put (subst (λ (n : ℕ). HaveMarks txid n c.args.self.now c.loop-output.self) (sym c.loop-output.invariant.place) c.loop-output.invariant.marked));
    }
