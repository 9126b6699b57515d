use Rattle.std.proofs.Common.{rules, ◌+◌, refl, sym, ap, subst, ◌∙◌}
use Rattle.cb_crew.specs.Crew.{CrewState}
use Rattle.cb_crew.proofs.Finishing.{IsSettledTo, next_inboxes, next_has_place, place_is, settled_all, settled_next, settled_start}
use Rattle.cb_crew.proofs.crew.Crew.settle_all.Goals as goal

pub loop-peer-init : goal.loop-peer-init
loop-peer-init g c = record {
  can = search rules;
  finite = search rules;
  settled = settled_start g.W.Work.label g.W.Work.given g.W.Work.ticked g.W.Work.is_closed g.W.Work.is_whole g.W.Work.weight c.args.self.now c.args.sides.items _ c.args.desks.items _ c.requires.sides c.requires.desks (search rules) (search rules);
}

pub settle-requires-clause-inbox : goal.settle-requires-clause-inbox
settle-requires-clause-inbox g c =
    let at = subst (λ k. IsSettledTo g.W.Work.label g.W.Work.given g.W.Work.ticked g.W.Work.is_closed g.W.Work.is_whole g.W.Work.weight c.args.self.now c.args.sides.items c.loop-peer.peer-iterator.iter.rest.items c.loop-peer.desks.items k) (sym c.in-Some.ensures.steps.1) c.loop-peer.invariant.settled in
    next_inboxes g.W.Work.label g.W.Work.given g.W.Work.ticked g.W.Work.is_closed g.W.Work.is_whole g.W.Work.weight c.args.self.now c.args.sides.items c.loop-peer.peer-iterator.iter.rest.items c.next.new.self.iter.rest.items c.in-Some.side c.loop-peer.desks.items c.in-Some.peer c.deref.result.now c.index_mut.result.now at c.in-Some.ensures.steps.0.0
    (place_is c.self.inside.inboxes.items c.args.self.now.inboxes c.in-Some.peer c.index.result.now c.deref.result.now c.deref.ensures c.index.ensures (ap (λ (w : CrewState). w.inboxes) c.self.view_is)) c.index_mut.ensures.value

pub settle-requires-clause-place : goal.settle-requires-clause-place
settle-requires-clause-place g c = next_has_place g.W.Work.label g.W.Work.given g.W.Work.ticked g.W.Work.is_closed g.W.Work.is_whole g.W.Work.weight c.args.self.now c.args.sides.items c.loop-peer.peer-iterator.iter.rest.items c.next.new.self.iter.rest.items c.in-Some.side c.loop-peer.desks.items c.loop-peer.peer-iterator.count c.loop-peer.invariant.settled c.in-Some.ensures.steps.0.0

pub loop-peer-preserved : goal.loop-peer-preserved
loop-peer-preserved g c =
    let at = subst (λ k. IsSettledTo g.W.Work.label g.W.Work.given g.W.Work.ticked g.W.Work.is_closed g.W.Work.is_whole g.W.Work.weight c.args.self.now c.args.sides.items c.loop-peer.peer-iterator.iter.rest.items c.loop-peer.desks.items k) (sym c.in-Some.ensures.steps.1) c.loop-peer.invariant.settled in
    record {
      can = search rules;
      finite = search rules;
      settled = subst (IsSettledTo g.W.Work.label g.W.Work.given g.W.Work.ticked g.W.Work.is_closed g.W.Work.is_whole g.W.Work.weight c.args.self.now c.args.sides.items c.next.new.self.iter.rest.items _) (ap (λ k. k + 1) c.in-Some.ensures.steps.1 ∙ sym c.in-Some.ensures.steps.2)
          (settled_next g.W.Work.label g.W.Work.given g.W.Work.ticked g.W.Work.is_closed g.W.Work.is_whole g.W.Work.weight c.args.self.now c.args.sides.items c.loop-peer.peer-iterator.iter.rest.items c.next.new.self.iter.rest.items c.in-Some.side c.loop-peer.desks.items _ c.in-Some.peer c.index_mut.result.now c.settle.new.desk at c.in-Some.ensures.steps.0.0 c.index_mut.ensures.value refl c.settle.ensures.same c.settle.ensures.label c.settle.ensures.settled c.settle.ensures.kept c.settle.ensures.ticks);
    }

pub returns : goal.returns
returns g c = settled_all g.W.Work.label g.W.Work.given g.W.Work.ticked g.W.Work.is_closed g.W.Work.is_whole g.W.Work.weight c.args.self.now c.args.sides.items c.loop-peer.peer-iterator.iter.rest.items c.loop-peer.desks.items c.loop-peer.peer-iterator.count c.loop-peer.invariant.settled (search rules)
