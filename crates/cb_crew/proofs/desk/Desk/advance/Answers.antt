use Rattle.std.proofs.Common.{◌∙◌, refl, sym, ap, subst, arith}
use Rattle.std.proofs.lemmas.Bool.{false≢true}
use Rattle.cb_crew.specs.declared.queued.Queued.TheVariants as queued
use Rattle.cb_crew.specs.Seat.{taken_more}
use Rattle.cb_crew.specs.Work.{IsFresh, IsUnticked}
use Rattle.cb_crew.specs.Desk.{DeskState, NotTicked, PastAfter, Stepped, desk_state, first_label}
use Rattle.cb_crew.specs.declared.desk.Step.TheVariants as step
use Rattle.cb_crew.specs.Past.{IsPushed}
use Rattle.cb_crew.specs.declared.work.Given.TheVariants as given
use Rattle.cb_crew.proofs.Desks.{desk_given, desk_kept, desk_pushed, first_pushed, open_behind, stepped_empty, stepped_given, stepped_open}
use Rattle.cb_crew.proofs.LettingGo.{after_none, after_open, keeps_on, keeps_pushed, passed_still, unticked_open}
use Rattle.cb_crew.proofs.Ticks.{works_same}
use Rattle.cb_crew.proofs.desk.Desk.advance.Goals as goal

pub invariant_of-self : goal.invariant_of-self
invariant_of-self g c = (
  desk_kept g.W.Work.label g.W.Work.given g.W.Work.is_closed c.self.inside.inbox c.self.inside.seat c.take.new.self c.self.inside.work c.make_ready-ready.new.work c.self.inside.past.works (ap (λ s. s.taken) c.in-None.ensures.none.0) c.make_ready-ready.ensures.label c.make_ready-ready.ensures.live c.make_ready-ready.ensures.given c.self.invariant.0,
  ap (λ s. s.inbox) c.in-None.ensures.none.0 ∙ c.self.invariant.1,
  c.self.invariant.2,
  keeps_on g.W.Work.label g.W.Work.given g.W.Work.ticked g.W.Work.is_closed g.W.Work.weight g.W.Work.is_whole (desk_state c.self.inside.inbox c.self.inside.seat c.self.inside.work c.self.inside.past.works) (desk_state c.self.inside.inbox c.take.new.self c.make_ready-ready.new.work c.self.inside.past.works) refl c.make_ready-ready.ensures.whole c.self.invariant.3,
)

pub invariant_of-self-in-Some-Item : goal.invariant_of-self-in-Some-Item
invariant_of-self-in-Some-Item g c = (
  desk_given g.W.Work.label g.W.Work.given g.W.Work.is_closed c.self.inside.inbox c.self.inside.seat c.take.new.self c.make_ready-ready.new.work c.give.new.work c.self.inside.past.works (queued.Item c.in-Some-Item.item) (given.Item c.in-Some-Item.item) c.make_ready-ready.result
      (c.in-Some-Item.ensures.some.0 ∙ ap (taken_more c.self.inside.seat) c.in-Some-Item.field-0-is) refl refl (λ e. absurd (false≢true e)) c.give.ensures.label (λ r. (c.make_ready-ready.ensures.ready r).1) c.make_ready-ready.ensures.closed (λ r. (c.give.ensures.worked r).1) (λ r. (c.give.ensures.worked r).2) (λ r. (c.give.ensures.passed r).1)
      (desk_kept g.W.Work.label g.W.Work.given g.W.Work.is_closed c.self.inside.inbox c.self.inside.seat c.self.inside.seat c.self.inside.work c.make_ready-ready.new.work c.self.inside.past.works refl c.make_ready-ready.ensures.label c.make_ready-ready.ensures.live c.make_ready-ready.ensures.given c.self.invariant.0),
  ap (λ s. s.inbox) c.in-Some-Item.ensures.some.0 ∙ c.self.invariant.1,
  c.self.invariant.2,
  keeps_on g.W.Work.label g.W.Work.given g.W.Work.ticked g.W.Work.is_closed g.W.Work.weight g.W.Work.is_whole (desk_state c.self.inside.inbox c.self.inside.seat c.self.inside.work c.self.inside.past.works) (desk_state c.self.inside.inbox c.take.new.self c.give.new.work c.self.inside.past.works) refl (λ w. c.give.ensures.whole (c.make_ready-ready.ensures.whole w)) c.self.invariant.3,
)

pub invariant_of-self-in-Some-End : goal.invariant_of-self-in-Some-End
invariant_of-self-in-Some-End g c = (
  desk_given g.W.Work.label g.W.Work.given g.W.Work.is_closed c.self.inside.inbox c.self.inside.seat c.take.new.self c.make_ready-ready.new.work c.give-in-Some-End.new.work c.self.inside.past.works queued.End given.End c.make_ready-ready.result
      (c.in-Some-End.ensures.some.0 ∙ ap (taken_more c.self.inside.seat) c.in-Some-End.field-0-is) refl refl (λ e. tt) c.give-in-Some-End.ensures.label (λ r. (c.make_ready-ready.ensures.ready r).1) c.make_ready-ready.ensures.closed (λ r. (c.give-in-Some-End.ensures.worked r).1) (λ r. (c.give-in-Some-End.ensures.worked r).2) (λ r. (c.give-in-Some-End.ensures.passed r).1)
      (desk_kept g.W.Work.label g.W.Work.given g.W.Work.is_closed c.self.inside.inbox c.self.inside.seat c.self.inside.seat c.self.inside.work c.make_ready-ready.new.work c.self.inside.past.works refl c.make_ready-ready.ensures.label c.make_ready-ready.ensures.live c.make_ready-ready.ensures.given c.self.invariant.0),
  ap (λ s. s.inbox) c.in-Some-End.ensures.some.0 ∙ c.self.invariant.1,
  c.self.invariant.2,
  keeps_on g.W.Work.label g.W.Work.given g.W.Work.ticked g.W.Work.is_closed g.W.Work.weight g.W.Work.is_whole (desk_state c.self.inside.inbox c.self.inside.seat c.self.inside.work c.self.inside.past.works) (desk_state c.self.inside.inbox c.take.new.self c.give-in-Some-End.new.work c.self.inside.past.works) refl (λ w. c.give-in-Some-End.ensures.whole (c.make_ready-ready.ensures.whole w)) c.self.invariant.3,
)

pub returns-in-None-clause-ticks : goal.returns-in-None-clause-ticks
returns-in-None-clause-ticks g c =
    let new = desk_state c.self.inside.inbox c.take.new.self c.make_ready-ready.new.work c.self.inside.past.works in
    subst (λ (old : DeskState _ _). NotTicked g.W.Work.ticked old new) c.self.view_is
    (works_same g.W.Work.ticked (IsUnticked g.W.Work.ticked) (desk_state c.self.inside.inbox c.self.inside.seat c.self.inside.work c.self.inside.past.works) new refl c.make_ready-ready.ensures.ticked)

pub returns-in-Some-Item-clause-ticks : goal.returns-in-Some-Item-clause-ticks
returns-in-Some-Item-clause-ticks g c =
    let new = desk_state c.self.inside.inbox c.take.new.self c.give.new.work c.self.inside.past.works in
    subst (λ (old : DeskState _ _). NotTicked g.W.Work.ticked old new) c.self.view_is
    (works_same g.W.Work.ticked (IsUnticked g.W.Work.ticked) (desk_state c.self.inside.inbox c.self.inside.seat c.self.inside.work c.self.inside.past.works) new refl (λ at t. c.give.ensures.ticked at (c.make_ready-ready.ensures.ticked at t)))

pub returns-in-Some-End-clause-ticks : goal.returns-in-Some-End-clause-ticks
returns-in-Some-End-clause-ticks g c =
    let new = desk_state c.self.inside.inbox c.take.new.self c.give-in-Some-End.new.work c.self.inside.past.works in
    subst (λ (old : DeskState _ _). NotTicked g.W.Work.ticked old new) c.self.view_is
    (works_same g.W.Work.ticked (IsUnticked g.W.Work.ticked) (desk_state c.self.inside.inbox c.self.inside.seat c.self.inside.work c.self.inside.past.works) new refl (λ at t. c.give-in-Some-End.ensures.ticked at (c.make_ready-ready.ensures.ticked at t)))

pub returns-in-None-clause-past : goal.returns-in-None-clause-past
returns-in-None-clause-past g c =
    let new = desk_state c.self.inside.inbox c.take.new.self c.make_ready-ready.new.work c.self.inside.past.works in
    subst (λ (old : DeskState _ _). PastAfter g.W.Work.label g.W.Work.given g.W.Work.ticked g.W.Work.is_closed g.W.Work.weight old new) c.self.view_is
    (after_none g.W.Work.label g.W.Work.given g.W.Work.ticked g.W.Work.is_closed g.W.Work.weight (desk_state c.self.inside.inbox c.self.inside.seat c.self.inside.work c.self.inside.past.works) new refl c.make_ready-ready.ensures.still)

pub returns-in-Some-Item-clause-past : goal.returns-in-Some-Item-clause-past
returns-in-Some-Item-clause-past g c =
    let new = desk_state c.self.inside.inbox c.take.new.self c.give.new.work c.self.inside.past.works in
    subst (λ (old : DeskState _ _). PastAfter g.W.Work.label g.W.Work.given g.W.Work.ticked g.W.Work.is_closed g.W.Work.weight old new) c.self.view_is
    (after_none g.W.Work.label g.W.Work.given g.W.Work.ticked g.W.Work.is_closed g.W.Work.weight (desk_state c.self.inside.inbox c.self.inside.seat c.self.inside.work c.self.inside.past.works) new refl (λ closed. passed_still c.make_ready-ready.result closed (λ r. (c.make_ready-ready.ensures.ready r).0) (λ r. (c.give.ensures.passed r).1) ∙ c.make_ready-ready.ensures.still closed))

pub returns-in-Some-End-clause-past : goal.returns-in-Some-End-clause-past
returns-in-Some-End-clause-past g c =
    let new = desk_state c.self.inside.inbox c.take.new.self c.give-in-Some-End.new.work c.self.inside.past.works in
    subst (λ (old : DeskState _ _). PastAfter g.W.Work.label g.W.Work.given g.W.Work.ticked g.W.Work.is_closed g.W.Work.weight old new) c.self.view_is
    (after_none g.W.Work.label g.W.Work.given g.W.Work.ticked g.W.Work.is_closed g.W.Work.weight (desk_state c.self.inside.inbox c.self.inside.seat c.self.inside.work c.self.inside.past.works) new refl (λ closed. passed_still c.make_ready-ready.result closed (λ r. (c.make_ready-ready.ensures.ready r).0) (λ r. (c.give-in-Some-End.ensures.passed r).1) ∙ c.make_ready-ready.ensures.still closed))

pub push-requires-clause-closed : goal.push-requires-clause-closed
push-requires-clause-closed g c =
    let took = c.in-Some-Open.ensures.some.0 ∙ ap (taken_more c.self.inside.seat) c.in-Some-Open.field-0-is in
    let behind = open_behind g.W.Work.label g.W.Work.given g.W.Work.is_closed c.self.inside.inbox c.self.inside.seat c.take.new.self c.self.inside.work c.in-Some-Open.next c.self.inside.past.works took c.reached.ensures c.self.invariant.0 in
    (ap g.W.Work.is_closed (c.replace-past.ensures.value ∙ c.make_ready-ready.ensures.still (c.self.invariant.0.ended behind.0)) ∙ c.self.invariant.0.ended behind.0, c.self.invariant.0.past_closed)

pub push-requires-clause-room : goal.push-requires-clause-room
push-requires-clause-room g c =
    let took = c.in-Some-Open.ensures.some.0 ∙ ap (taken_more c.self.inside.seat) c.in-Some-Open.field-0-is in
    let behind = open_behind g.W.Work.label g.W.Work.given g.W.Work.is_closed c.self.inside.inbox c.self.inside.seat c.take.new.self c.self.inside.work c.in-Some-Open.next c.self.inside.past.works took c.reached.ensures c.self.invariant.0 in
    omega (arith, behind.1, c.self.invariant.2)

pub invariant_of-self-in-Some-Open : goal.invariant_of-self-in-Some-Open
invariant_of-self-in-Some-Open g c =
    let took = c.in-Some-Open.ensures.some.0 ∙ ap (taken_more c.self.inside.seat) c.in-Some-Open.field-0-is in
    let behind = open_behind g.W.Work.label g.W.Work.given g.W.Work.is_closed c.self.inside.inbox c.self.inside.seat c.take.new.self c.self.inside.work c.in-Some-Open.next c.self.inside.past.works took c.reached.ensures c.self.invariant.0 in
    let same = c.replace-past.ensures.value ∙ c.make_ready-ready.ensures.still (c.self.invariant.0.ended behind.0) in
    let pushed = subst (λ (w : g.row.W.Denot). IsPushed g.W.Work.label g.W.Work.given g.W.Work.ticked g.W.Work.is_closed g.W.Work.weight w c.self.inside.past.works c.push.new.self.works) same c.push.ensures.pushed in
    let fresh = subst (IsFresh g.W.Work.given g.W.Work.ticked g.W.Work.is_closed g.W.Work.is_whole) (sym c.replace-past.ensures.after) c.into_work.ensures.fresh in (
      desk_pushed g.W.Work.label g.W.Work.given g.W.Work.is_closed g.W.Work.ticked g.W.Work.weight g.W.Work.is_whole c.self.inside.inbox c.self.inside.seat c.take.new.self c.self.inside.work c.replace-past.new.dest c.in-Some-Open.next c.self.inside.past.works c.push.new.self.works (ap g.W.Work.label (c.replace-past.ensures.after ∙ c.into_work.ensures.work)) took behind.0 fresh pushed c.self.invariant.0,
      ap (λ s. s.inbox) c.in-Some-Open.ensures.some.0 ∙ c.self.invariant.1,
      omega (arith, c.push.ensures.room, c.self.invariant.2),
      keeps_pushed g.W.Work.label g.W.Work.given g.W.Work.ticked g.W.Work.is_closed g.W.Work.weight g.W.Work.is_whole (desk_state c.self.inside.inbox c.self.inside.seat c.self.inside.work c.self.inside.past.works) (desk_state c.self.inside.inbox c.take.new.self c.replace-past.new.dest c.push.new.self.works) pushed fresh.whole c.self.invariant.3,
    )

pub returns-in-Some-Open-clause-ticks : goal.returns-in-Some-Open-clause-ticks
returns-in-Some-Open-clause-ticks g c =
    let took = c.in-Some-Open.ensures.some.0 ∙ ap (taken_more c.self.inside.seat) c.in-Some-Open.field-0-is in
    let behind = open_behind g.W.Work.label g.W.Work.given g.W.Work.is_closed c.self.inside.inbox c.self.inside.seat c.take.new.self c.self.inside.work c.in-Some-Open.next c.self.inside.past.works took c.reached.ensures c.self.invariant.0 in
    let same = c.replace-past.ensures.value ∙ c.make_ready-ready.ensures.still (c.self.invariant.0.ended behind.0) in
    let pushed = subst (λ (w : g.row.W.Denot). IsPushed g.W.Work.label g.W.Work.given g.W.Work.ticked g.W.Work.is_closed g.W.Work.weight w c.self.inside.past.works c.push.new.self.works) same c.push.ensures.pushed in
    let fresh = subst (IsFresh g.W.Work.given g.W.Work.ticked g.W.Work.is_closed g.W.Work.is_whole) (sym c.replace-past.ensures.after) c.into_work.ensures.fresh in
    let new = desk_state c.self.inside.inbox c.take.new.self c.replace-past.new.dest c.push.new.self.works in
    subst (λ (old : DeskState _ _). NotTicked g.W.Work.ticked old new) c.self.view_is
    (unticked_open g.W.Work.label g.W.Work.given g.W.Work.ticked g.W.Work.is_closed g.W.Work.weight (desk_state c.self.inside.inbox c.self.inside.seat c.self.inside.work c.self.inside.past.works) new pushed fresh.unticked)

pub returns-in-Some-Open-clause-past : goal.returns-in-Some-Open-clause-past
returns-in-Some-Open-clause-past g c =
    let took = c.in-Some-Open.ensures.some.0 ∙ ap (taken_more c.self.inside.seat) c.in-Some-Open.field-0-is in
    let behind = open_behind g.W.Work.label g.W.Work.given g.W.Work.is_closed c.self.inside.inbox c.self.inside.seat c.take.new.self c.self.inside.work c.in-Some-Open.next c.self.inside.past.works took c.reached.ensures c.self.invariant.0 in
    let same = c.replace-past.ensures.value ∙ c.make_ready-ready.ensures.still (c.self.invariant.0.ended behind.0) in
    let pushed = subst (λ (w : g.row.W.Denot). IsPushed g.W.Work.label g.W.Work.given g.W.Work.ticked g.W.Work.is_closed g.W.Work.weight w c.self.inside.past.works c.push.new.self.works) same c.push.ensures.pushed in
    let new = desk_state c.self.inside.inbox c.take.new.self c.replace-past.new.dest c.push.new.self.works in
    subst (λ (old : DeskState _ _). PastAfter g.W.Work.label g.W.Work.given g.W.Work.ticked g.W.Work.is_closed g.W.Work.weight old new) c.self.view_is
    (after_open g.W.Work.label g.W.Work.given g.W.Work.ticked g.W.Work.is_closed g.W.Work.weight (desk_state c.self.inside.inbox c.self.inside.seat c.self.inside.work c.self.inside.past.works) new pushed)

pub returns-in-Some-Open-clause-label : goal.returns-in-Some-Open-clause-label
returns-in-Some-Open-clause-label g c =
    let took = c.in-Some-Open.ensures.some.0 ∙ ap (taken_more c.self.inside.seat) c.in-Some-Open.field-0-is in
    let behind = open_behind g.W.Work.label g.W.Work.given g.W.Work.is_closed c.self.inside.inbox c.self.inside.seat c.take.new.self c.self.inside.work c.in-Some-Open.next c.self.inside.past.works took c.reached.ensures c.self.invariant.0 in
    let same = c.replace-past.ensures.value ∙ c.make_ready-ready.ensures.still (c.self.invariant.0.ended behind.0) in
    let pushed = subst (λ (w : g.row.W.Denot). IsPushed g.W.Work.label g.W.Work.given g.W.Work.ticked g.W.Work.is_closed g.W.Work.weight w c.self.inside.past.works c.push.new.self.works) same c.push.ensures.pushed in
    let new = desk_state c.self.inside.inbox c.take.new.self c.replace-past.new.dest c.push.new.self.works in
    first_pushed g.W.Work.label g.W.Work.given g.W.Work.is_closed g.W.Work.ticked g.W.Work.weight (desk_state c.self.inside.inbox c.self.inside.seat c.self.inside.work c.self.inside.past.works) new pushed
    ∙ ap (λ (old : DeskState _ _). first_label g.W.Work.label old) c.self.view_is

pub returns-in-None-clause-stepped : goal.returns-in-None-clause-stepped
returns-in-None-clause-stepped g c =
    let new = desk_state c.self.inside.inbox c.take.new.self c.make_ready-ready.new.work c.self.inside.past.works in
    subst (λ (old : DeskState _ _). Stepped g.W.Work.given g.W.Work.is_closed old new step.Empty) c.self.view_is
    (stepped_empty g.W.Work.given g.W.Work.is_closed c.self.inside.inbox c.self.inside.seat c.take.new.self c.self.inside.work c.make_ready-ready.new.work c.self.inside.past.works c.in-None.ensures.none.0 c.in-None.ensures.none.1 c.make_ready-ready.ensures.live c.make_ready-ready.ensures.given)

pub returns-in-Some-Item-clause-stepped : goal.returns-in-Some-Item-clause-stepped
returns-in-Some-Item-clause-stepped g c =
    let new = desk_state c.self.inside.inbox c.take.new.self c.give.new.work c.self.inside.past.works in
    subst (λ (old : DeskState _ _). Stepped g.W.Work.given g.W.Work.is_closed old new c.give.result) c.self.view_is
    (stepped_given g.W.Work.given g.W.Work.is_closed c.self.inside.inbox c.self.inside.seat c.take.new.self c.self.inside.work c.make_ready-ready.new.work c.give.new.work c.self.inside.past.works (queued.Item c.in-Some-Item.item) (given.Item c.in-Some-Item.item) c.make_ready-ready.result c.give.result
    (c.in-Some-Item.ensures.some.0 ∙ ap (taken_more c.self.inside.seat) c.in-Some-Item.field-0-is) refl refl (λ r. (c.make_ready-ready.ensures.ready r).0) c.make_ready-ready.ensures.closed c.make_ready-ready.ensures.given (λ r. (c.give.ensures.worked r).0) (λ r. (c.give.ensures.worked r).1) (λ r. (c.give.ensures.passed r).0) (λ r. (c.give.ensures.passed r).1))

pub returns-in-Some-End-clause-stepped : goal.returns-in-Some-End-clause-stepped
returns-in-Some-End-clause-stepped g c =
    let new = desk_state c.self.inside.inbox c.take.new.self c.give-in-Some-End.new.work c.self.inside.past.works in
    subst (λ (old : DeskState _ _). Stepped g.W.Work.given g.W.Work.is_closed old new c.give-in-Some-End.result) c.self.view_is
    (stepped_given g.W.Work.given g.W.Work.is_closed c.self.inside.inbox c.self.inside.seat c.take.new.self c.self.inside.work c.make_ready-ready.new.work c.give-in-Some-End.new.work c.self.inside.past.works queued.End given.End c.make_ready-ready.result c.give-in-Some-End.result
    (c.in-Some-End.ensures.some.0 ∙ ap (taken_more c.self.inside.seat) c.in-Some-End.field-0-is) refl refl (λ r. (c.make_ready-ready.ensures.ready r).0) c.make_ready-ready.ensures.closed c.make_ready-ready.ensures.given (λ r. (c.give-in-Some-End.ensures.worked r).0) (λ r. (c.give-in-Some-End.ensures.worked r).1) (λ r. (c.give-in-Some-End.ensures.passed r).0) (λ r. (c.give-in-Some-End.ensures.passed r).1))

pub returns-in-Some-Open-clause-stepped : goal.returns-in-Some-Open-clause-stepped
returns-in-Some-Open-clause-stepped g c =
    let took = c.in-Some-Open.ensures.some.0 ∙ ap (taken_more c.self.inside.seat) c.in-Some-Open.field-0-is in
    let behind = open_behind g.W.Work.label g.W.Work.given g.W.Work.is_closed c.self.inside.inbox c.self.inside.seat c.take.new.self c.self.inside.work c.in-Some-Open.next c.self.inside.past.works took c.reached.ensures c.self.invariant.0 in
    let same = c.replace-past.ensures.value ∙ c.make_ready-ready.ensures.still (c.self.invariant.0.ended behind.0) in
    let pushed = subst (λ (w : g.row.W.Denot). IsPushed g.W.Work.label g.W.Work.given g.W.Work.ticked g.W.Work.is_closed g.W.Work.weight w c.self.inside.past.works c.push.new.self.works) same c.push.ensures.pushed in
    let fresh = subst (IsFresh g.W.Work.given g.W.Work.ticked g.W.Work.is_closed g.W.Work.is_whole) (sym c.replace-past.ensures.after) c.into_work.ensures.fresh in
    let new = desk_state c.self.inside.inbox c.take.new.self c.replace-past.new.dest c.push.new.self.works in
    subst (λ (old : DeskState _ _). Stepped g.W.Work.given g.W.Work.is_closed old new step.Passed) c.self.view_is
    (stepped_open g.W.Work.given g.W.Work.is_closed g.W.Work.label g.W.Work.ticked g.W.Work.weight c.self.inside.inbox c.self.inside.seat c.take.new.self c.self.inside.work c.replace-past.new.dest c.in-Some-Open.next c.self.inside.past.works c.push.new.self.works took (c.replace-past.ensures.after ∙ c.into_work.ensures.work) fresh.nothing pushed)
