use Rattle.std.proofs.Common.{◌≡◌, true, refl, arith, rules}
use Rattle.std.proofs.lemmas.List.Elements.{All-set}
use Rattle.cb_crew.proofs.LettingGo.{keeps_less, one_keeps, past_less, past_same}
use Rattle.cb_crew.proofs.past.lighten_oldest.Goals as goal

pub loop-kept-init : goal.loop-kept-init
loop-kept-init g c = (c.requires.keeps, past_same g.W.Work.label g.W.Work.given g.W.Work.ticked g.W.Work.is_closed g.W.Work.weight c.args.works.now.items, c.requires.closed, refl)

pub loop-kept-preserved : goal.loop-kept-preserved
loop-kept-preserved g c =
    let works = c.loop-kept.works.items in
    let gone = c.loop-kept.gone in
    let keeps = c.loop-kept.invariant.0 in
    let old = c.index_mut-oldest.result.now in
    let new = c.let_go.new.self in
    let within = one_keeps g.W.Work.weight works gone c.loop-kept.kept keeps c.loop-kept-test.true in (
      keeps_less g.W.Work.weight works gone c.loop-kept.kept c.weighs.result new old within c.index_mut-oldest.ensures.value c.let_go.ensures.weight c.weighs.ensures (search rules) keeps,
      past_less g.W.Work.label g.W.Work.given g.W.Work.ticked g.W.Work.is_closed g.W.Work.weight c.args.works.now.items works gone new old within c.index_mut-oldest.ensures.value
          (record { nothing = c.let_go.ensures.weight; labelled = c.let_go.ensures.label; given = c.let_go.ensures.given; unticked = c.let_go.ensures.ticked; closed = c.let_go.ensures.closed })
          keeps.none (omega (arith, keeps.together, c.loop-kept-test.true)) c.loop-kept.invariant.1,
      All-set (λ work. g.W.Work.is_closed work ≡ true) works gone new c.let_go.ensures.closed c.loop-kept.invariant.2,
      c.loop-kept.invariant.3,
    )
