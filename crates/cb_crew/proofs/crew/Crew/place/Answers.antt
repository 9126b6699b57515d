use Rattle.std.proofs.Common.{rules, ap, ◌∙◌}
use Rattle.std.proofs.lemmas.List.Elements.{All-rest}
use Rattle.std.specs.Iterator.Adapters.{zip_first, zip_second}
use Rattle.std.specs.Vec.Iter.{into_iter_items}
use Rattle.cb_crew.specs.Work.{IsFresh}
use Rattle.cb_crew.specs.Desk.{first_label}
use Rattle.cb_crew.proofs.NewCrews.{making_owes, making_more, making_done, making_start, same_left, none_left}
use Rattle.cb_crew.proofs.crew.Crew.place.Goals as goal

pub make-requires-clause-next : goal.make-requires-clause-next
make-requires-clause-next g c = making_owes _ c.args.self.now c.in-Some.vacancy _ _ _ c.loop-vacancy.hand _ c.self.view_is c.self.invariant c.loop-vacancy.invariant.2 c.in-Some.ensures.steps.0.0 (ap (λ d. d.inbox.peer) c.fill.ensures)

pub loop-vacancy-init : goal.loop-vacancy-init
loop-vacancy-init g c = ((tt, tt), tt, making_start _ _ _ _ c.requires.hand (search rules) (search rules), search rules, search rules)

pub loop-vacancy-preserved : goal.loop-vacancy-preserved
loop-vacancy-preserved g c = (
  (tt, tt),
  tt,
  making_more g.W.Work.label g.W.Work.is_closed c.args.self.now c.in-Some.vacancy _ _ c.in-Some.work _ _ c.loop-vacancy.hand _ c.fill.result c.in-Some.ensures.steps.0.0 c.in-Some.ensures.steps.1.0 (ap (λ d. d.inbox) c.fill.ensures) (ap (first_label g.W.Work.label) c.fill.ensures ∙ ap g.W.Work.label c.new.ensures) c.make.ensures.hand c.loop-vacancy.invariant.2,
  same_left _ _ _ _ c.in-Some.vacancy c.in-Some.work c.in-Some.ensures.steps.0.0 c.in-Some.ensures.steps.1.0 c.loop-vacancy.invariant.3,
  All-rest (IsFresh g.W.Work.given g.W.Work.ticked g.W.Work.is_closed g.W.Work.is_whole) c.in-Some.work _ _ c.in-Some.ensures.steps.1.0 c.loop-vacancy.invariant.4,
)

pub returns : goal.returns
returns g c = making_done g.W.Work.label c.args.self.now _ (into_iter_items (zip_second c.loop-vacancy.vacancy-iterator)) c.loop-vacancy.hand _ (none_left (zip_first c.loop-vacancy.vacancy-iterator) (zip_second c.loop-vacancy.vacancy-iterator) c.in-None.ensures.steps c.loop-vacancy.invariant.3) c.loop-vacancy.invariant.3 c.start.ensures c.loop-vacancy.invariant.2
