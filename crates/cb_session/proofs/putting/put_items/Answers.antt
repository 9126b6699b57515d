use Rattle.std.proofs.Common.{List, [], ◌∷◌, ◌++◌, sym, ap, ◌∙◌, append_assoc}
use Rattle.std.proofs.lemmas.Result.{err_from_is_err_and}
use Rattle.std.specs.Vec.Iter.{into_iter_items}
use Rattle.cb_wire.specs.declared.item.Item.{Item}
use Rattle.cb_session.proofs.Pieces.{not_one_more, one_more}
use Rattle.cb_session.proofs.putting.put_items.Goals as goal

pub loop-item-preserved : goal.loop-item-preserved
loop-item-preserved g c =
    let taken = c.loop-item.invariant.taken in
    record {
      taken = taken ++ c.in-Some.item ∷ [];
      parts =
          c.loop-item.invariant.parts
          ∙ ap (λ (is : List Item). taken ++ is) c.in-Some.ensures.steps.0
          ∙ sym (append_assoc taken (c.in-Some.item ∷ []) (into_iter_items c.next.new.self));
      put = one_more _ _ _ taken c.in-Some.item c.loop-item.invariant.put c.in_ok-put.ensures.put;
      seat = g.met.T.Seat.same_then _ _ _ c.loop-item.invariant.seat c.put.ensures.seat;
    }

pub returns-in_err-put-clause-halted : goal.returns-in_err-put-clause-halted
returns-in_err-put-clause-halted g c =
    let taken = c.loop-item.invariant.taken in
    let parts = c.loop-item.invariant.parts ∙ ap (λ (is : List Item). taken ++ is) c.in-Some.ensures.steps.0 in
    let p = err_from_is_err_and c.from_residual.result c.from_residual.ensures.1 in
    rw (p.1, p.2) (not_one_more _ _ _ _ taken (into_iter_items c.next.new.self) c.in-Some.item _ parts c.loop-item.invariant.put c.in_err-put.ensures.halted)
