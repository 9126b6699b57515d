use Rattle.std.proofs.Common.{ap, sym, is_some, ◌∙◌, arith}
use Rattle.cb_base.proofs.Writes.{heeds_more, taken_more, unfailed_more}
use Rattle.cb_base.proofs.writing.write_all.Goals as goal

pub loop-rest-preserved : goal.loop-rest-preserved
loop-rest-preserved g c =
    let back = c.split_at.ensures.back_len in
    let shorter = c.loop-rest.invariant.shorter in
    let same = unfailed_more _ _ c.in-Some.more c.loop-rest.rest.now c.in-Some.ensures.cause c.in-Some.more-test.1 ∙ c.loop-rest.invariant.same in
    record {
      shorter = omega arith;
      taken = taken_more _ _ _ _ _ _ c.in-Some.more c.loop-rest.invariant.taken c.in-Some.ensures.bytes c.split_at.ensures.back;
      same = same;
      unmarked = g.met.W.Sink.agrees c.write.new.self ∙ ap is_some same ∙ sym (g.met.W.Sink.agrees c.args.writer.now);
      heeds = heeds_more g.W.Sink.heeds_failure g.met.W.Sink.heeds_then _ _ _ _ _ c.loop-rest.invariant.heeds c.loop-rest.invariant.unmarked c.write.ensures.heeds;
      untouched = λ h. absurd (c.in-Some.more-test.1 (omega arith));
    }

pub returns-in-None-clause-heeds : goal.returns-in-None-clause-heeds
returns-in-None-clause-heeds g c = heeds_more g.W.Sink.heeds_failure g.met.W.Sink.heeds_then _ _ _ _ _ c.loop-rest.invariant.heeds c.loop-rest.invariant.unmarked c.write.ensures.heeds

pub returns-in-Some-eq0-clause-heeds : goal.returns-in-Some-eq0-clause-heeds
returns-in-Some-eq0-clause-heeds g c = heeds_more g.W.Sink.heeds_failure g.met.W.Sink.heeds_then _ _ _ _ _ c.loop-rest.invariant.heeds c.loop-rest.invariant.unmarked c.write.ensures.heeds
