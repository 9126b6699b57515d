use Rattle.std.proofs.Common.{List, [], ◌∷◌, ◌++◌, refl, sym, ap, ◌∙◌, append_assoc}
use Rattle.std.specs.Vec.Iter.{into_iter_items}
use Rattle.cb_wire.specs.declared.item.Item.{Item}
use Rattle.cb_peer_state.specs.State.{is_closed}
use Rattle.cb_session.proofs.Accounts.{open_kept}
use Rattle.cb_session.proofs.Inputs.{took_more, took_none, took_stopped}
use Rattle.cb_session.proofs.hearing.give_all.Goals as goal

pub loop-item-init : goal.loop-item-init
loop-item-init g c =
    record {
      ends = (refl, refl, refl, refl);
      heeds = λ h. (g.met.W.Sink.heeds_none _, h);
      taken = [];
      parts = sym c.into_iter-item-iterator.ensures.into_iter_gives.0;
      took = λ from inputs s. took_none g.H.Oracle.told g.H.Oracle.refused from _ inputs s;
    }

pub loop-item-preserved : goal.loop-item-preserved
loop-item-preserved g c =
    let going = ap is_closed (sym c.state.ensures) ∙ sym c.is_closed.ensures ∙ c.if-is_closed.false in
    record {
      ends = (
        c.give_item.ensures.ends.0 ∙ c.loop-item.invariant.ends.0,
        c.give_item.ensures.ends.1 ∙ c.loop-item.invariant.ends.1,
        c.give_item.ensures.ends.2 ∙ c.loop-item.invariant.ends.2,
        c.give_item.ensures.ends.3 ∙ c.loop-item.invariant.ends.3,
      );
      heeds =
          λ h.
          let before = c.loop-item.invariant.heeds h in
          let after = c.give_item.ensures.heeds before.1 in
          (g.met.W.Sink.heeds_then _ _ _ before.0 after.0, after.1);
      taken = c.loop-item.invariant.taken ++ c.in-Some.item ∷ [];
      parts =
          c.loop-item.invariant.parts
          ∙ ap (λ (is : List Item). c.loop-item.invariant.taken ++ is) c.in-Some.ensures.steps.0
          ∙ sym (append_assoc c.loop-item.invariant.taken (c.in-Some.item ∷ []) (into_iter_items c.next.new.self));
      took =
          λ from inputs s.
          let t = c.loop-item.invariant.took from inputs s in
          took_more g.H.Oracle.told g.H.Oracle.refused from _ _ inputs c.loop-item.invariant.taken c.in-Some.item going t (c.give_item.ensures.gave from _ (open_kept g.H.Oracle.told g.H.Oracle.refused from _ _ t.unkept going t.settled));
    }

pub returns-then-is_closed-clause-took : goal.returns-then-is_closed-clause-took
returns-then-is_closed-clause-took g c =
    let closed = ap is_closed (sym c.state.ensures) ∙ sym c.is_closed.ensures ∙ c.if-is_closed.true in
    λ from inputs s.
    took_stopped g.H.Oracle.told g.H.Oracle.refused from _ inputs c.loop-item.invariant.taken (into_iter_items c.loop-item.item-iterator) c.args.items.items c.loop-item.invariant.parts closed (c.loop-item.invariant.took from inputs s)
