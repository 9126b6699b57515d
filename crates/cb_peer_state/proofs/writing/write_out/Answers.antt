use Rattle.std.proofs.Common.{ℕ, ◌+◌, ◌-◌, ◌^◌, min, ap, length, ◌∙◌, arith}
use Rattle.std.proofs.lemmas.List.{length-append}
use Rattle.std.specs.Vec.Iter.{into_iter_items}
use Rattle.cb_base.proofs.Writes.{heeds_more}
use Rattle.cb_peer_state.proofs.Writes.{wrote_nothing, written_more, written_until}
use Rattle.cb_peer_state.proofs.writing.write_out.Goals as goal

pub loop-message-preserved : goal.loop-message-preserved
loop-message-preserved g c =
    let out = c.loop-message.invariant.out in
    let rest_is = c.in-Some.ensures.steps.0 in
    record {
      out = written_more _ _ _ _ _ (into_iter_items c.next.new.self) c.in-Some.message c.loop-message.written c.in-Ok.taken.written _ out rest_is c.in-Ok.ensures.ok (c.saturating_add-written.ensures ∙ ap (λ (more : ℕ). min (c.loop-message.written + more) (2 ^ 64 - 1)) c.written.ensures);
      same = c.in-Ok.ensures.unfailed ∙ c.loop-message.invariant.same;
      unmarked = c.in-Ok.ensures.unmarked ∙ c.loop-message.invariant.unmarked;
      heeds = heeds_more g.W.Sink.heeds_failure g.met.W.Sink.heeds_then _ _ _ _ _ c.loop-message.invariant.heeds c.loop-message.invariant.unmarked c.put.ensures.heeds;
      untouched = λ h. absurd (omega (arith, h, ap length out.parts, length-append out.done (into_iter_items c.loop-message.message-iterator), ap length rest_is));
    }

pub returns-in-Err-clause-err : goal.returns-in-Err-clause-err
returns-in-Err-clause-err g c =
    written_until _ _ _ _ _ (into_iter_items c.next.new.self) c.in-Some.message c.loop-message.written c.in-Err.end.written _ c.in-Err.end.fault c.loop-message.invariant.out c.in-Some.ensures.steps.0 c.in-Err.ensures.err
    (λ lacks. wrote_nothing _ _ _ _ (c.in-Err.ensures.starved lacks).0 (ap g.W.Sink.contents (c.in-Err.ensures.starved lacks).1)) c.saturating_add.ensures

pub returns-in-Err-clause-heeds : goal.returns-in-Err-clause-heeds
returns-in-Err-clause-heeds g c = heeds_more g.W.Sink.heeds_failure g.met.W.Sink.heeds_then _ _ _ _ _ c.loop-message.invariant.heeds c.loop-message.invariant.unmarked c.put.ensures.heeds
