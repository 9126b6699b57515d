use Rattle.std.proofs.Common.{◌+◌, ◌∙◌, ap, arith, inl, subst}
use Rattle.cb_net.specs.declared.net.Net.{Net}
use Rattle.cb_net.specs.Played.{EndsAs}
use Rattle.cb_net.proofs.Relaying.{none_of, relaying_more, some_of, told_end}
use Rattle.cb_net.proofs.playing.relay_all.Goals as goal

pub returns-in-Ok-None-clause-plays : goal.returns-in-Ok-None-clause-plays
returns-in-Ok-None-clause-plays g c =
    let none = none_of c.in-Ok-None.field-0 c.in-Ok-None.field-0-is c.in-Ok-None.ensures.none in
    told_end c.args.settings.now.csv c.args.net.now c.loop-turn.net c.end_of.new.net (g.W.Sink.contents c.args.writer.now) (g.W.Sink.contents c.loop-turn.writer) c.end_of.result c.loop-turn.invariant.relaying none.0
    (subst (λ (n : Net). EndsAs n c.end_of.new.net c.end_of.result) none.1 c.end_of.ensures)

pub loop-turn-preserved : goal.loop-turn-preserved
loop-turn-preserved g c =
    let some = some_of _ c.in-Ok-Some.field-0 c.in-Ok-Some.block c.in-Ok-Some.field-0-is c.in-Ok-Some.ensures.some in
    record {
      relaying =
          relaying_more c.args.settings.now.csv c.args.net.now c.loop-turn.net c.next_block.new.self (g.W.Sink.contents c.args.writer.now) (g.W.Sink.contents c.loop-turn.writer) (g.W.Sink.contents c.tell_block.new.writer) c.in-Ok-Some.block c.loop-turn.invariant.relaying
          (record {
            settings = c.next_block.ensures.lasts.settings;
            due = some.0;
            relayed = some.2;
            number = some.3;
            tells = some.4;
          }) c.in_ok-tell_block-in-Ok-Some.ensures.text;
      settings = c.next_block.ensures.lasts.settings ∙ c.loop-turn.invariant.settings;
      relayed = some.2 ∙ ap (λ n. n + 1) c.loop-turn.invariant.relayed;
    }

pub returns-clause-plays : goal.returns-clause-plays
returns-clause-plays g c =
    let wanted = ap (λ s. s.blocks) c.loop-turn.invariant.settings in
    told_end c.args.settings.now.csv c.args.net.now c.loop-turn.net c.end_of-2.new.net (g.W.Sink.contents c.args.writer.now) (g.W.Sink.contents c.loop-turn.writer) c.end_of-2.result c.loop-turn.invariant.relaying
    (inl (omega (arith, wanted, c.loop-turn.invariant.relayed, c.loop-turn-test.false, c.loop-turn.auto.turn-end))) c.end_of-2.ensures
